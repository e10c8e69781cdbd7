-- Where nothing failed the exit is 0, or 5.
use Rattle.std.proofs.Common.{◌≡◌, ◌⊎◌, inl, inr, ℕ, ◌+◌, ◌-◌, ◌^◌, ◌<◌, ◌≤◌, min, Bool, true, false, ◌||◌, List, [], ◌∷◌, ◌++◌, length, refl, sym, ap, ◌∙◌, subst, arith, length-append, Option, Some}
use Rattle.std.specs.List.{list_any, count_by}
use Rattle.std.proofs.lemmas.Bool.{or_from, false_from_ne_true}
use Rattle.std.proofs.lemmas.List.{append-nil}
use Rattle.std.proofs.lemmas.List.Sums.{sum_by-cons}
use Rattle.std.proofs.lemmas.List.Folds.{list_any-append}
use Rattle.cap_base.specs.Callers.{own}
use Rattle.cap_base.specs.Events.{Event}
use Rattle.cap_base.specs.Histories.{History}
use Rattle.cap_base.specs.Endings.{IsBad}
use Rattle.cap_base.specs.declared.endings.How.{How}
use Rattle.cap_base.specs.declared.endings.How.TheVariants as hows
use Rattle.cap_base.specs.declared.entries.Entry.{Entry}
use Rattle.cap_base.specs.declared.limits.TheConstants.{MAX_INTERFACES}
use Rattle.cap_base.specs.declared.settings.Settings.{Settings}
use Rattle.cap_outside.specs.Causes.{one_higher, one_higher}
use Rattle.cap_outside.specs.Told.{Tells}
use Rattle.source_reader.specs.Reading.{ending}
use Rattle.source_reader.proofs.Wholes.{bad_stays}
use Rattle.cap_outside.specs.declared.opened.Opened.{Opened}
use Rattle.source_thread.specs.declared.ended.Ended.{Ended}
use Rattle.source_thread.specs.Told.{is_refused, SourceFacts, IsCauseOf, Told, EndsAtRefusedJoin, end_entry}
use Rattle.writer_thread.specs.declared.writer_end.WriterEnd.{WriterEnd}
use Rattle.capture_run.specs.Capture.{is_worn}
use Rattle.capture_run.specs.Exits.{ends_early, is_early_ending, ends_starved, exit_of}
use Rattle.capture_run.specs.Completes.{interfaces_in, interfaces_of, Contents, IsWhole, AreWhole, NothingFails}
use Rattle.capture_run.specs.Command.{is_missing, failed_reads, AreContents}
use Rattle.capture_run.specs.Laws.{CaptureCompletes, IsCapturedByWords}
use Rattle.capture_run.proofs.Weighed.{total}
use Rattle.capture_run.proofs.Contents.{HasContent, along_sources, few_total, no_missing}
use Rattle.capture_run.proofs.Joins.{is_join, few_joins, many}

pub not_rose : (a b : ℕ) → b ≡ a → a < 2 ^ 64 - 1 → b ≡ one_higher a → ⊥
not_rose a b q lt r = let z : b ≡ min (a + 1) (2 ^ 64 - 1) = r in omega arith

-- ---- one source

no_fault : (a b : ℕ) → a ≡ 0 → b ≡ 0 → b ≡ one_higher a → ⊥
no_fault a b p r w = let z : b ≡ min (a + 1) (2 ^ 64 - 1) = w in omega arith

-- a source doesn't end early, where its content is whole, no read failed and each Join got a number
not_early : (s : ℕ) (name : List ℕ) (snap : Option ℕ) (b l text : List ℕ) (how : How) (old new : SourceFacts) (all : List Entry) → Told s name snap b how old new all → b ++ l ≡ text → new.left ≡ Some l → old.opened ≡ true → old.faults ≡ 0 → new.faults ≡ 0 → IsWhole name text → list_any is_refused all ≡ false
    → is_early_ending how ≡ false
not_early s name snap b l text how old new all t q left opened f0 f1 whole numbered = go how t.entered.cause where
  clean : ending name (b ++ l) ≡ hows.Clean
  clean = ap (ending name) q ∙ whole.clean

  go : (e : How) → IsCauseOf e (ending name b) (length b) t.entered.behind t.entries old new → is_early_ending e ≡ false
  go hows.Clean c = refl
  go hows.Stopped c = refl
  go hows.NoMemory c = refl
  go hows.Worn c = refl
  go (hows.Cut at) c = let none : l ≡ [] = subst (λ (z : Option (List ℕ)). Tells z []) left c.2.none_left in
      let same : ending name b ≡ hows.Clean = ap (ending name) (sym (append-nil b)) ∙ ap (λ (z : List ℕ). ending name (b ++ z)) (sym none) ∙ clean in let z : hows.Cut at ≡ hows.Clean = sym c.0 ∙ same in cc
  go (hows.Bad code at) c = let same : ending name (b ++ l) ≡ ending name b = ap (λ (r : List Event × How). r.1) (bad_stays name snap b l (subst IsBad (sym c.0) tt)) in let z : hows.Bad code at ≡ hows.Clean = sym c.0 ∙ sym same ∙ clean in cc
  go hows.ReadFault c = absurd (no_fault old.faults new.faults f0 f1 c.0)
  go hows.TooLong c = let x : length b ≡ 2 ^ 62 = c.0 in let y : length text < 2 ^ 62 = whole.short in let z : length text ≡ length b + length l = ap length (sym q) ∙ length-append b l in absurd (omega arith)
  go hows.OpenFault c = let z : true ≡ false = sym opened ∙ c.0 in cc
  go hows.TooMany c = absurd (no c)
    where
      no : EndsAtRefusedJoin t.entries → ⊥
      no r = let z : list_any is_refused all ≡ true = ap (list_any is_refused) t.parts ∙ list_any-append is_refused t.entries (end_entry s how) ∙ ap (λ (x : Bool). x || list_any is_refused (end_entry s how)) (ap (list_any is_refused) r.parts ∙ list_any-append is_refused r.before (r.last ∷ []) ∙ ap (λ (x : Bool). x || (is_refused r.last || false)) r.all_numbered ∙ ap (λ (x : Bool). x || false) r.refused) in
          let y : true ≡ false = sym z ∙ numbered in cc

-- ---- the exit

exits : (file say memory worn early : Bool) → file ≡ false → say ≡ false → worn ≡ false → early ≡ false → (exit_of file say memory worn early ≡ 0) ⊎ (exit_of file say memory worn early ≡ 5)
exits true say memory worn early a b c d = cc
exits false true memory worn early a b c d = cc
exits false false true worn early a b c d = inr refl
exits false false false true early a b c d = cc
exits false false false false true a b c d = cc
exits false false false false false a b c d = inl refl

-- What there is where nothing failed.
module _ {S : Type 0} (facts : Option S → SourceFacts) (content : List ℕ → Option (List ℕ)) (s : Settings) (opened : List (Opened S)) (sources : List (Ended S)) (w : WriterEnd) (h : History) (contents : Contents) (made exit opens0 opens1 files0 files1 says0 says1 : ℕ)
    (by_words : IsCapturedByWords facts content s opened sources w h made exit opens0 opens1 files0 files1 says0 says1) (told : AreContents content s.sources contents)
    (n : NothingFails s.snap contents opens0 opens1 files0 files1 says0 says1 (failed_reads facts sources) made) where
  pub there : count_by is_missing opened ≡ 0
  there = no_missing (count_by is_missing opened) opens0 opens1 by_words.missing n.opens n.opens_seen

  numbered : (k : ℕ) → list_any is_refused (own k h) ≡ false
  numbered k = false_from_ne_true (list_any is_refused (own k h)) (λ q. let a : MAX_INTERFACES < total is_join 0 (length s.sources) h = many s.limits (length s.sources) h k by_words.legal q in
      let b : total is_join 0 (length s.sources) h ≤ interfaces_of s.snap contents = few_total facts s.snap content h is_join interfaces_in few_joins s.sources opened sources contents by_words.are_opened there told by_words.sources_are in
      let c : interfaces_of s.snap contents ≤ MAX_INTERFACES = n.interfaces in omega arith)

  pub file : w.file_fault ≡ false
  file = false_from_ne_true w.file_fault (λ q. not_rose files0 files1 n.files n.files_seen (by_words.writer_is.file_cause q))

  pub say : w.say_fault ≡ false
  say = false_from_ne_true w.say_fault (λ q. not_rose says0 says1 n.says n.says_seen (by_words.writer_is.say_cause q))

  pub fresh : is_worn sources w ≡ false
  fresh = false_from_ne_true (is_worn sources w) (λ q. let a : made ≡ 2 ^ 56 = by_words.spent q in let b : made < 2 ^ 56 = n.turns in omega arith)

  pub none_early : list_any ends_early sources ≡ false
  none_early = along_sources facts s.snap content h (λ k es cs. AreWhole cs → failed_reads facts es ≡ 0 → list_any ends_early es ≡ false) (λ k wh f. refl) next 0 s.sources opened sources contents by_words.are_opened there told by_words.sources_are n.whole n.reads where
    next : (k : ℕ) (x : Opened S) (a : Ended S) (es : List (Ended S)) (c : List ℕ × List ℕ) (cs : Contents) → HasContent facts s.snap content h k x a c → (AreWhole cs → failed_reads facts es ≡ 0 → list_any ends_early es ≡ false) → IsWhole c.0 c.1 × AreWhole cs → failed_reads facts (a ∷ es) ≡ 0 → list_any ends_early (a ∷ es) ≡ false
    next k x a es c cs o ih wh f = let z : (facts a.source).faults + failed_reads facts es ≡ 0 = sym (sum_by-cons (λ (e : Ended S). (facts e.source).faults) a es) ∙ f in
        or_from (ends_early a) (list_any ends_early es) (not_early k c.0 s.snap o.source_is.ran.ran.b o.l c.1 a.how (facts x.source) (facts a.source) (own k h) o.told o.parts o.left o.opened o.no_faults (omega arith) wh.0 (numbered k)) (ih wh.1 (omega arith))

  pub exit_is : (exit ≡ 0) ⊎ (exit ≡ 5)
  exit_is = subst (λ (z : ℕ). (z ≡ 0) ⊎ (z ≡ 5)) (sym by_words.exit_is) (exits w.file_fault w.say_fault (w.no_memory || list_any ends_starved sources) (is_worn sources w) (list_any ends_early sources) file say fresh none_early)

pub completes : (S : Type 0) → CaptureCompletes S
completes S facts content s opened sources w h contents made exit opens0 opens1 files0 files1 says0 says1 by_words told n = exit_is facts content s opened sources w h contents made exit opens0 opens1 files0 files1 says0 says1 by_words told n
