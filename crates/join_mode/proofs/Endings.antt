-- How a joining ends.
use Rattle.std.proofs.Common.{◌≡◌, ◌≤◌, ◌<◌, ◌-◌, ◌⊎◌, ◌↔◌, ℕ, suc, true, false, List, [], ◌∷◌, ◌++◌, length, map, Option, Some, None, Result, Err, refl, ap, sym, subst, ◌∙◌, arith, append_assoc, inl, inr}
use Rattle.std.specs.Prelude.{IfSome, IsSomeAnd, IsNone, slice_get}
use Rattle.std.proofs.lemmas.List.{append-nil, length-map}
use Rattle.cap_base.specs.Effects.{Effect, created, finished, bytes}
use Rattle.cap_outside.specs.Causes.{one_higher}
use Rattle.cap_outside.specs.Told.{Leads}
use Rattle.cap_outside.specs.declared.opened.Opened.{Opened}
use Rattle.mode_base.specs.Outlets.{DidFront, DidSome}
use Rattle.mode_base.specs.Written.{WroteWhole, WrotePrefix}
use Rattle.mode_base.specs.Sources.{WasUnreadable, unreadable_line, open_failed_line, read_failed_line}
use Rattle.mode_base.proofs.Doings.{leads_as, leads_both, front_behind, front_before, none_did, none_done, bytes-append}
use Rattle.ring_join.specs.Whole.{WholeBlock, text, statistics, packets}
use Rattle.ring_join.specs.Joined.{joined, joined_so_far, last_file}
use Rattle.ring_join.specs.Adding.{Known, known_behind_all}
use Rattle.ring_join.proofs.Walks.{text-append}
use Rattle.ring_join.proofs.Joined.{joined_packets}
use Rattle.join_mode.specs.declared.stop.Stop.{Stop}
use Rattle.join_mode.specs.declared.stop.Stop.TheVariants as stop
use Rattle.join_mode.specs.Lines.{lines_with, joined_lines, defect_line, difference_line}
use Rattle.join_mode.specs.declared.joined.Joined.{Joined}
use Rattle.join_mode.specs.Joining.{Meanings, name_of, IsRead, AreJoined, Inputs, IsMissing, IsUnreadable, HasDefect, HasDifference, IsBegun, WasFinished, WroteTo, IsJoinExit, IsStopExit, JoinIs, whole_effects, begun_effects}
use Rattle.join_mode.specs.inner.Parts.{Progress, HaltIs, Halted, Finishes, OpenCause, FileCause, EndsBy, ReportIs, name_or, last_named}

-- ---- the output

-- what is there behind the files, and what is left to do
whole_split : (out : List ℕ) (files : List (List WholeBlock)) → whole_effects out files ≡ begun_effects out files ++ (bytes (text (statistics (last_file files))) ++ finished ∷ [])
whole_split out files =
    let so_far : List Effect = bytes (text (joined_so_far files)) in
    let last : List Effect = bytes (text (statistics (last_file files))) in
    let parts : bytes (text (joined files)) ≡ so_far ++ last = ap bytes (text-append (joined_so_far files) (statistics (last_file files))) ∙ bytes-append (text (joined_so_far files)) (text (statistics (last_file files))) in
    ap (λ (z : List Effect). created out ∷ z) (ap (λ (z : List Effect). z ++ finished ∷ []) parts ∙ append_assoc so_far last (finished ∷ []))

module _ {L : Type 0} (stands_for : L → List Effect → Type 0) (out : List ℕ) where
  -- the file was created, and then this was done
  pub began : (l0 l1 l2 : L) (files : List (List WholeBlock)) → Leads stands_for l0 l1 (created out ∷ []) → Leads stands_for l1 l2 (bytes (text (joined_so_far files))) → Leads stands_for l0 l2 (begun_effects out files)
  began l0 l1 l2 files first second = leads_both stands_for l0 l1 l2 (created out ∷ []) (bytes (text (joined_so_far files))) first second

  pub broke : (l0 l1 l2 : L) (files : List (List WholeBlock)) → Leads stands_for l0 l1 (created out ∷ []) → DidFront stands_for l1 l2 (bytes (text (joined_so_far files))) → DidFront stands_for l0 l2 (whole_effects out files)
  broke l0 l1 l2 files first second =
      subst (λ (z : List Effect). DidFront stands_for l0 l2 z) (sym (whole_split out files))
      (front_before stands_for l0 l2 (begun_effects out files) (bytes (text (statistics (last_file files))) ++ finished ∷ []) (front_behind stands_for l0 l1 l2 (created out ∷ []) (bytes (text (joined_so_far files))) first second))

  pub begun_is_some : (l0 l1 : L) (files : List (List WholeBlock)) → Leads stands_for l0 l1 (begun_effects out files) → DidSome stands_for l0 l1 (whole_effects out files)
  begun_is_some l0 l1 files did = record { front = begun_effects out files; rest = bytes (text (statistics (last_file files))) ++ finished ∷ []; parts = whole_split out files; did = did }

  pub never_created : (l0 l1 : L) (files : List (List WholeBlock)) → Leads stands_for l0 l1 [] → DidFront stands_for l0 l1 (whole_effects out files)
  never_created l0 l1 files did = none_did stands_for l0 l1 (whole_effects out files) (omega arith) did

  -- the statistics couldn't be added, or the file not be finished
  pub unended : (l0 l1 l2 : L) (files : List (List WholeBlock)) → Leads stands_for l0 l1 (begun_effects out files) → DidFront stands_for l1 l2 (bytes (text (statistics (last_file files)))) → DidFront stands_for l0 l2 (whole_effects out files)
  unended l0 l1 l2 files first second =
      subst (λ (z : List Effect). DidFront stands_for l0 l2 z) (sym (whole_split out files))
      (front_behind stands_for l0 l1 l2 (begun_effects out files) (bytes (text (statistics (last_file files))) ++ finished ∷ []) first (front_before stands_for l1 l2 (bytes (text (statistics (last_file files)))) (finished ∷ []) second))

  pub unfinished : (l0 l1 l2 l3 : L) (files : List (List WholeBlock)) → Leads stands_for l0 l1 (begun_effects out files) → Leads stands_for l1 l2 (bytes (text (statistics (last_file files)))) → Leads stands_for l2 l3 [] → DidFront stands_for l0 l3 (whole_effects out files)
  unfinished l0 l1 l2 l3 files first second third =
      subst (λ (z : List Effect). DidFront stands_for l0 l3 z) (sym (whole_split out files))
      (front_behind stands_for l0 l1 l3 (begun_effects out files) (bytes (text (statistics (last_file files))) ++ finished ∷ []) first
      (front_behind stands_for l1 l2 l3 (bytes (text (statistics (last_file files)))) (finished ∷ []) second (none_did stands_for l2 l3 (finished ∷ []) (omega arith) third)))

  pub all_done : (l0 l1 l2 l3 : L) (files : List (List WholeBlock)) → Leads stands_for l0 l1 (begun_effects out files) → Leads stands_for l1 l2 (bytes (text (statistics (last_file files)))) → Leads stands_for l2 l3 (finished ∷ []) → Leads stands_for l0 l3 (whole_effects out files)
  all_done l0 l1 l2 l3 files first second third =
      leads_as stands_for l0 l3 (begun_effects out files ++ (bytes (text (statistics (last_file files))) ++ finished ∷ [])) (whole_effects out files) (sym (whole_split out files))
      (leads_both stands_for l0 l1 l3 (begun_effects out files) (bytes (text (statistics (last_file files))) ++ finished ∷ []) first (leads_both stands_for l1 l2 l3 (bytes (text (statistics (last_file files)))) (finished ∷ []) second third))

-- ---- what the joiner knows behind at least one input

some_files : {S : Type 0} (read : Opened S → List ℕ → Type 0) (names : List (List ℕ)) (sources : List (Opened S)) (files : List (List WholeBlock)) → 1 ≤ length names → map name_of sources ≡ names → AreJoined read sources files → 0 < length files
some_files read names [] files some named a = let none : 0 ≡ length names = ap (λ (z : List (List ℕ)). length z) named in absurd (omega arith)
some_files read names (s ∷ sources) [] some named a = absurd a
some_files read names (s ∷ sources) (f ∷ files) some named a = omega arith

begun_by : (known : Known) (files : List (List WholeBlock)) → 0 < length files → known ≡ known_behind_all files → (known.begun ≡ true) × (known.statistics ≡ text (statistics (last_file files)))
begun_by known [] some is = absurd (omega arith)
begun_by known (f ∷ files) some is = (ap (λ (z : Known). z.begun) is, ap (λ (z : Known). z.statistics) is)

pub known_begun : {S L : Type 0} (read : Opened S → List ℕ → Type 0) (stands_for : L → List Effect → Type 0) (names : List (List ℕ)) (sources : List (Opened S)) (l0 l1 : L) (known : Known) (count : ℕ) → 1 ≤ length names → (p : Progress read stands_for names sources l0 l1 known count) → (known.begun ≡ true) × (known.statistics ≡ text (statistics (last_file p.files)))
known_begun read stands_for names sources l0 l1 known count some p = begun_by known p.files (some_files read names sources p.files some p.named p.each) p.known_is

-- ---- a joining that was halted

pub halted_as : {S : Type 0} (read : Opened S → List ℕ → Type 0) (faults : S → ℕ) (did failed starved did' failed' starved' : List (List WholeBlock) → Type 0) (names : List (List ℕ)) (sources : List (Opened S)) (why : Stop)
    → ((files : List (List WholeBlock)) → did files → did' files) → ((files : List (List WholeBlock)) → failed files → failed' files) → ((files : List (List WholeBlock)) → starved files → starved' files)
    → Halted read faults did failed starved names sources why → Halted read faults did' failed' starved' names sources why
halted_as {S} read faults did failed starved did' failed' starved' names sources why on_did on_failed on_starved h = record { files = h.files; stopped = h.stopped; unopened = h.unopened; inputs = h.inputs; halt = by why h.stopped h.halt }
  where
    by : (w : Stop) (stopped : Option (Opened S)) → HaltIs read faults h.files stopped (did h.files) (failed h.files) (starved h.files) w → HaltIs read faults h.files stopped (did' h.files) (failed' h.files) (starved' h.files) w
    by stop.Unopened stopped x = (x.0, on_did h.files x.1)
    by stop.Unreadable stopped x = (x.0, on_did h.files x.1)
    by (stop.Bad w at) stopped x = (x.0, on_did h.files x.1)
    by (stop.Differ n) stopped x = (x.0, on_did h.files x.1)
    by stop.File stopped x = (x.0, on_failed h.files x.1)
    by stop.NoMemory None x = on_starved h.files x
    by stop.NoMemory (Some s) x = (x.0, on_did h.files x.1)

-- all inputs were joined, but the file not ended
pub halted_behind : {S L : Type 0} (read : Opened S → List ℕ → Type 0) (faults : S → ℕ) (stands_for : L → List Effect → Type 0) (did failed starved : List (List WholeBlock) → Type 0) (names : List (List ℕ)) (sources : List (Opened S)) (l0 l1 : L) (known : Known) (count : ℕ)
    → (p : Progress read stands_for names sources l0 l1 known count) → failed p.files → Halted read faults did failed starved names sources stop.File
halted_behind read faults stands_for did failed starved names sources l0 l1 known count p broken = record {
  files = p.files;
  stopped = None;
  unopened = [];
  inputs = record { whole = sources; parts = sym (append-nil sources); named = sym p.named ∙ sym (append-nil (map name_of sources)); each = p.each; continued = p.continued };
  halt = (refl, broken);
}

-- none was asked for
unbegun : {S : Type 0} (read : Opened S → List ℕ → Type 0) (names : List (List ℕ)) (sources : List (Opened S)) → sources ≡ [] → Inputs read names sources [] None names
unbegun {S} read names sources none = subst (λ (z : List (Opened S)). Inputs read names z [] None names) (sym none) (record { whole = []; parts = refl; named = refl; each = tt; continued = tt })

pub failed_before : {S : Type 0} (read : Opened S → List ℕ → Type 0) (faults : S → ℕ) (did failed starved : List (List WholeBlock) → Type 0) (names : List (List ℕ)) (sources : List (Opened S)) → sources ≡ [] → failed [] → Halted read faults did failed starved names sources stop.File
failed_before read faults did failed starved names sources none broken = record { files = []; stopped = None; unopened = names; inputs = unbegun read names sources none; halt = (refl, broken) }

pub starved_before : {S : Type 0} (read : Opened S → List ℕ → Type 0) (faults : S → ℕ) (did failed starved : List (List WholeBlock) → Type 0) (names : List (List ℕ)) (sources : List (Opened S)) → sources ≡ [] → starved [] → Halted read faults did failed starved names sources stop.NoMemory
starved_before read faults did failed starved names sources none some = record { files = []; stopped = None; unopened = names; inputs = unbegun read names sources none; halt = some }

-- ---- the exits

no_stop : (exit n : ℕ) → exit ≡ n → (n ≡ 2 → ⊥) → (n ≡ 7 → ⊥) → (n ≡ 9 → ⊥) → IsStopExit exit → ⊥
no_stop exit n is two seven nine (inl e) = two (sym is ∙ e)
no_stop exit n is two seven nine (inr (inl e)) = seven (sym is ∙ e)
no_stop exit n is two seven nine (inr (inr e)) = nine (sym is ∙ e)

zero_of : {K : Type 0} (written : K → Option (List ℕ)) (faults : K → ℕ) (k0 k1 : K) (lines : List ℕ) (exit : ℕ) → ReportIs written faults k0 k1 lines exit → exit ≡ 0 → WroteWhole written faults k0 k1 lines
zero_of written faults k0 k1 lines exit (inl r) e = r.1
zero_of written faults k0 k1 lines exit (inr (inl r)) e = absurd (omega (arith, r.0, e))
zero_of written faults k0 k1 lines exit (inr (inr r)) e = absurd (omega (arith, r.0, e))

four_of : {K : Type 0} (written : K → Option (List ℕ)) (faults : K → ℕ) (k0 k1 : K) (lines : List ℕ) (exit : ℕ) → ReportIs written faults k0 k1 lines exit → exit ≡ 4 → WrotePrefix written faults k0 k1 lines
four_of written faults k0 k1 lines exit (inl r) e = absurd (omega (arith, r.0, e))
four_of written faults k0 k1 lines exit (inr (inl r)) e = r.1
four_of written faults k0 k1 lines exit (inr (inr r)) e = absurd (omega (arith, r.0, e))

five_of : {K : Type 0} (written : K → Option (List ℕ)) (faults : K → ℕ) (k0 k1 : K) (lines : List ℕ) (exit : ℕ) → ReportIs written faults k0 k1 lines exit → exit ≡ 5 → k1 ≡ k0
five_of written faults k0 k1 lines exit (inl r) e = absurd (omega (arith, r.0, e))
five_of written faults k0 k1 lines exit (inr (inl r)) e = absurd (omega (arith, r.0, e))
five_of written faults k0 k1 lines exit (inr (inr r)) e = r.1

report_exit : {K : Type 0} (written : K → Option (List ℕ)) (faults : K → ℕ) (k0 k1 : K) (lines : List ℕ) (exit : ℕ) → ReportIs written faults k0 k1 lines exit → (exit ≡ 0) ⊎ ((exit ≡ 4) ⊎ (exit ≡ 5))
report_exit written faults k0 k1 lines exit (inl r) = inl r.0
report_exit written faults k0 k1 lines exit (inr (inl r)) = inr (inl r.0)
report_exit written faults k0 k1 lines exit (inr (inr r)) = inr (inr r.0)

join_exit : (exit : ℕ) → (exit ≡ 0) ⊎ ((exit ≡ 4) ⊎ (exit ≡ 5)) → IsJoinExit exit
join_exit exit (inl e) = inl e
join_exit exit (inr (inl e)) = inr (inr (inr (inl e)))
join_exit exit (inr (inr e)) = inr (inr (inr (inr (inl e))))

not_of : (exit n : ℕ) → (exit ≡ 0) ⊎ ((exit ≡ 4) ⊎ (exit ≡ 5)) → exit ≡ n → (n ≡ 0 → ⊥) → (n ≡ 4 → ⊥) → (n ≡ 5 → ⊥) → ⊥
not_of exit n (inl e) is a b c = a (sym is ∙ e)
not_of exit n (inr (inl e)) is a b c = b (sym is ∙ e)
not_of exit n (inr (inr e)) is a b c = c (sym is ∙ e)

not_stopped : (exit : ℕ) → (exit ≡ 0) ⊎ ((exit ≡ 4) ⊎ (exit ≡ 5)) → IsStopExit exit → ⊥
not_stopped exit x (inl e) = not_of exit 2 x e (λ z. omega arith) (λ z. omega arith) (λ z. omega arith)
not_stopped exit x (inr (inl e)) = not_of exit 7 x e (λ z. omega arith) (λ z. omega arith) (λ z. omega arith)
not_stopped exit x (inr (inr e)) = not_of exit 9 x e (λ z. omega arith) (λ z. omega arith) (λ z. omega arith)

not_zero_four : (exit n : ℕ) → exit ≡ n → (n ≡ 0 → ⊥) → (n ≡ 4 → ⊥) → (exit ≡ 0) ⊎ (exit ≡ 4) → ⊥
not_zero_four exit n is a b (inl e) = a (sym is ∙ e)
not_zero_four exit n is a b (inr e) = b (sym is ∙ e)

not_unfailed : (exit n : ℕ) → exit ≡ n → (n ≡ 0 → ⊥) → (n ≡ 4 → ⊥) → (n ≡ 5 → ⊥) → (exit ≡ 0) ⊎ ((exit ≡ 4) ⊎ (exit ≡ 5)) → ⊥
not_unfailed exit n is a b c x = not_of exit n x is a b c

-- as many files as sources
files_many : {S : Type 0} (read : Opened S → List ℕ → Type 0) (sources : List (Opened S)) (files : List (List WholeBlock)) → AreJoined read sources files → length files ≡ length sources
files_many read [] [] a = refl
files_many read (s ∷ sources) (f ∷ files) a = ap suc (files_many read sources files a.1)
files_many read [] (f ∷ files) a = absurd a
files_many read (s ∷ sources) [] a = absurd a

last_is : {S : Type 0} (whole : List (Opened S)) (s : Opened S) (other : List ℕ) → last_named (whole ++ s ∷ []) other ≡ s.name
last_is [] s other = refl
last_is (x ∷ []) s other = refl
last_is (x ∷ (y ∷ whole)) s other =
    let n : length (x ∷ (y ∷ whole) ++ s ∷ []) - 1 ≡ suc (length (y ∷ whole ++ s ∷ []) - 1) = omega arith in
    ap (λ (z : ℕ). name_or (slice_get (x ∷ (y ∷ whole) ++ s ∷ []) z) other) n ∙ last_is (y ∷ whole) s other

stop_exit : (exit : ℕ) → IsStopExit exit → IsJoinExit exit
stop_exit exit (inl e) = inr (inl e)
stop_exit exit (inr (inl e)) = inr (inr (inr (inr (inr (inl e)))))
stop_exit exit (inr (inr e)) = inr (inr (inr (inr (inr (inr e)))))

stop_not : (exit n : ℕ) → IsStopExit exit → (n ≡ 2 → ⊥) → (n ≡ 7 → ⊥) → (n ≡ 9 → ⊥) → exit ≡ n → ⊥
stop_not exit n s a b c e = no_stop exit n e a b c s

stop_not_all : (exit : ℕ) → IsStopExit exit → (exit ≡ 0) ⊎ (exit ≡ 4) → ⊥
stop_not_all exit s (inl e) = stop_not exit 0 s (λ z. omega arith) (λ z. omega arith) (λ z. omega arith) e
stop_not_all exit s (inr e) = stop_not exit 4 s (λ z. omega arith) (λ z. omega arith) (λ z. omega arith) e

stop_not_unfailed : (exit : ℕ) → IsStopExit exit → (exit ≡ 0) ⊎ ((exit ≡ 4) ⊎ (exit ≡ 5)) → ⊥
stop_not_unfailed exit s (inl e) = stop_not exit 0 s (λ z. omega arith) (λ z. omega arith) (λ z. omega arith) e
stop_not_unfailed exit s (inr (inl e)) = stop_not exit 4 s (λ z. omega arith) (λ z. omega arith) (λ z. omega arith) e
stop_not_unfailed exit s (inr (inr e)) = stop_not exit 5 s (λ z. omega arith) (λ z. omega arith) (λ z. omega arith) e

no_zero_four : (exit n : ℕ) → exit ≡ n → (n ≡ 0 → ⊥) → (n ≡ 4 → ⊥) → (exit ≡ 0) ⊎ (exit ≡ 4) → ⊥
no_zero_four exit n is a b (inl e) = a (sym is ∙ e)
no_zero_four exit n is a b (inr e) = b (sym is ∙ e)

three_unfailed : (exit : ℕ) → exit ≡ 3 → (exit ≡ 0) ⊎ ((exit ≡ 4) ⊎ (exit ≡ 5)) → ⊥
three_unfailed exit is x = not_of exit 3 x is (λ z. omega arith) (λ z. omega arith) (λ z. omega arith)

module _ {O S L K : Type 0} (m : Meanings O S L K) (out : List ℕ) (names : List (List ℕ)) (result : Joined S) (o0 o1 : O) (opened : Leads m.opener.opened o0 o1 (map name_of result.sources.items)) where
  abbrev read : Opened S → List ℕ → Type 0
  read = IsRead m.source

  abbrev Is : L → L → K → K → Type 0
  Is l0 l1 k0 k1 = JoinIs m out names result (record { opener = o0; outlet = l0; note = k0 }) (record { opener = o1; outlet = l1; note = k1 })

  -- all inputs were joined
  pub finished_is : (count : ℕ) (l0 l1 : L) (k0 k1 : K) → Finishes read m.outlet.stands_for out names result.sources.items l0 l1 count → m.opener.faults o1 ≡ m.opener.faults o0 → m.outlet.file_faults l1 ≡ m.outlet.file_faults l0 → m.outlet.has_file l1 ≡ false → m.outlet.say_faults l1 ≡ m.outlet.say_faults l0
      → ReportIs m.note.written m.note.faults k0 k1 (lines_with (length names) count) result.exit → Is l0 l1 k0 k1
  finished_is count l0 l1 k0 k1 f opens file closed unsaid r =
      let many : length names ≡ length f.files = ap (λ (z : List (List ℕ)). length z) (sym f.named) ∙ length-map result.sources.items name_of ∙ sym (files_many read result.sources.items f.files f.each) in
      let all : count ≡ length (packets (joined f.files)) = f.counted ∙ ap (λ (z : List WholeBlock). length z) (sym (joined_packets f.files)) in
      let lines : lines_with (length names) count ≡ joined_lines f.files = ap (λ (z : ℕ). lines_with z count) many ∙ ap (λ (z : ℕ). lines_with (length f.files) z) all in
      let report : ReportIs m.note.written m.note.faults k0 k1 (joined_lines f.files) result.exit = subst (λ (z : List ℕ). ReportIs m.note.written m.note.faults k0 k1 z result.exit) lines r in
      let x = report_exit m.note.written m.note.faults k0 k1 (joined_lines f.files) result.exit report in
      record {
        exits = join_exit result.exit x;
        files = f.files;
        stopped = None;
        unopened = [];
        inputs = record { whole = result.sources.items; parts = sym (append-nil result.sources.items); named = sym f.named ∙ sym (append-nil (map name_of result.sources.items)); each = f.each; continued = f.continued };
        opened = opened;
        missing = λ m. absurd m;
        there = λ _. opens;
        once = tt;
        all = λ _. (refl, refl);
        all_done = λ _. f.did;
        zero_lines = zero_of m.note.written m.note.faults k0 k1 (joined_lines f.files) result.exit report;
        four_lines = four_of m.note.written m.note.faults k0 k1 (joined_lines f.files) result.exit report;
        stops = λ s. absurd (not_stopped result.exit x s);
        two = (λ e. absurd (not_of result.exit 2 x e (λ z. omega arith) (λ z. omega arith) (λ z. omega arith)), λ u. absurd u);
        two_line = λ e. absurd (not_of result.exit 2 x e (λ z. omega arith) (λ z. omega arith) (λ z. omega arith));
        seven = λ e. absurd (not_of result.exit 7 x e (λ z. omega arith) (λ z. omega arith) (λ z. omega arith));
        nine = λ e. absurd (not_of result.exit 9 x e (λ z. omega arith) (λ z. omega arith) (λ z. omega arith));
        three = λ e. absurd (not_of result.exit 3 x e (λ z. omega arith) (λ z. omega arith) (λ z. omega arith));
        three_done = λ e. absurd (not_of result.exit 3 x e (λ z. omega arith) (λ z. omega arith) (λ z. omega arith));
        three_none = λ e. absurd (not_of result.exit 3 x e (λ z. omega arith) (λ z. omega arith) (λ z. omega arith));
        five_done = λ _. record { front = whole_effects out f.files; rest = []; parts = sym (append-nil (whole_effects out f.files)); did = f.did };
        five_begun = λ _. tt;
        five_none = five_of m.note.written m.note.faults k0 k1 (joined_lines f.files) result.exit report;
        unfailed = λ _. file;
        closed = λ _. closed;
        unsaid = unsaid;
      }

  -- ---- an input stopped the joining

  finish_behind : (l0 l1 l2 : L) (effects : List Effect) → Leads m.outlet.stands_for l0 l1 effects → m.outlet.file_faults l1 ≡ m.outlet.file_faults l0 → WasFinished m.outlet [] l1 l2 → WasFinished m.outlet effects l0 l2
  finish_behind l0 l1 l2 effects did same (inl x) = inl (leads_both m.outlet.stands_for l0 l1 l2 effects (finished ∷ []) did x.0, x.1, x.2 ∙ same)
  finish_behind l0 l1 l2 effects did same (inr x) = inr (leads_as m.outlet.stands_for l0 l2 (effects ++ []) effects (append-nil effects) (leads_both m.outlet.stands_for l0 l1 l2 effects [] did x.0), x.1, x.2 ∙ ap one_higher same)

  stopped_is : (l0 l2 : L) (k0 k1 : K) (files : List (List WholeBlock)) (s : Opened S) (unopened : List (List ℕ)) → Inputs read names result.sources.items files (Some s) unopened → IsStopExit result.exit
      → (IsNone s.source → m.opener.faults o1 ≡ one_higher (m.opener.faults o0)) → ((IsNone s.source → ⊥) → m.opener.faults o1 ≡ m.opener.faults o0) → IfSome s.source (λ source. m.source.faults source ≤ 1)
      → WasFinished m.outlet (begun_effects out files) l0 l2 → (result.exit ≡ 2) ↔ WasUnreadable m.source.faults s.source → (result.exit ≡ 2 → WroteTo m.note k0 k1 (unreadable_line s.source s.name))
      → (result.exit ≡ 7 → HasDefect read (WroteTo m.note k0 k1) s) → (result.exit ≡ 9 → HasDifference read (WroteTo m.note k0 k1) files s) → m.outlet.say_faults l2 ≡ m.outlet.say_faults l0 → Is l0 l2 k0 k1
  stopped_is l0 l2 k0 k1 files s unopened inputs e missing there once fin two two_line seven nine unsaid = record {
    exits = stop_exit result.exit e;
    files = files;
    stopped = Some s;
    unopened = unopened;
    inputs = inputs;
    opened = opened;
    missing = missing;
    there = there;
    once = once;
    all = λ x. absurd (stop_not_all result.exit e x);
    all_done = λ x. absurd (stop_not_all result.exit e x);
    zero_lines = λ x. absurd (stop_not result.exit 0 e (λ z. omega arith) (λ z. omega arith) (λ z. omega arith) x);
    four_lines = λ x. absurd (stop_not result.exit 4 e (λ z. omega arith) (λ z. omega arith) (λ z. omega arith) x);
    stops = λ _. fin;
    two = two;
    two_line = two_line;
    seven = seven;
    nine = nine;
    three = λ x. absurd (stop_not result.exit 3 e (λ z. omega arith) (λ z. omega arith) (λ z. omega arith) x);
    three_done = λ x. absurd (stop_not result.exit 3 e (λ z. omega arith) (λ z. omega arith) (λ z. omega arith) x);
    three_none = λ x. absurd (stop_not result.exit 3 e (λ z. omega arith) (λ z. omega arith) (λ z. omega arith) x);
    five_done = λ x. absurd (stop_not result.exit 5 e (λ z. omega arith) (λ z. omega arith) (λ z. omega arith) x);
    five_begun = λ x. absurd (stop_not result.exit 5 e (λ z. omega arith) (λ z. omega arith) (λ z. omega arith) x);
    five_none = λ x. absurd (stop_not result.exit 5 e (λ z. omega arith) (λ z. omega arith) (λ z. omega arith) x);
    unfailed = λ x. absurd (stop_not_unfailed result.exit e x);
    closed = λ x. absurd (stop_not_all result.exit e x);
    unsaid = unsaid;
  }

  -- ---- a call on the file failed, or memory ran out

  failed_is : (l0 l1 : L) (k0 k1 : K) (files : List (List WholeBlock)) (unopened : List (List ℕ)) → Inputs read names result.sources.items files None unopened → result.exit ≡ 3 → m.opener.faults o1 ≡ m.opener.faults o0
      → DidFront m.outlet.stands_for l0 l1 (whole_effects out files) → m.outlet.file_faults l1 ≡ one_higher (m.outlet.file_faults l0) → k1 ≡ k0 → m.outlet.say_faults l1 ≡ m.outlet.say_faults l0 → Is l0 l1 k0 k1
  failed_is l0 l1 k0 k1 files unopened inputs is opens did rose same unsaid = record {
    exits = inr (inr (inl is));
    files = files;
    stopped = None;
    unopened = unopened;
    inputs = inputs;
    opened = opened;
    missing = λ m. absurd m;
    there = λ _. opens;
    once = tt;
    all = λ x. absurd (no_zero_four result.exit 3 is (λ z. omega arith) (λ z. omega arith) x);
    all_done = λ x. absurd (no_zero_four result.exit 3 is (λ z. omega arith) (λ z. omega arith) x);
    zero_lines = λ x. absurd (omega (arith, is, x));
    four_lines = λ x. absurd (omega (arith, is, x));
    stops = λ x. absurd (no_stop result.exit 3 is (λ z. omega arith) (λ z. omega arith) (λ z. omega arith) x);
    two = (λ x. absurd (omega (arith, is, x)), λ u. absurd u);
    two_line = λ x. absurd (omega (arith, is, x));
    seven = λ x. absurd (omega (arith, is, x));
    nine = λ x. absurd (omega (arith, is, x));
    three = λ _. rose;
    three_done = λ _. did;
    three_none = λ _. (refl, same);
    five_done = λ x. absurd (omega (arith, is, x));
    five_begun = λ _. tt;
    five_none = λ x. absurd (omega (arith, is, x));
    unfailed = λ x. absurd (three_unfailed result.exit is x);
    closed = λ x. absurd (no_zero_four result.exit 3 is (λ z. omega arith) (λ z. omega arith) x);
    unsaid = unsaid;
  }

  starved_is : (l0 l1 : L) (k0 k1 : K) (files : List (List WholeBlock)) (stopped : Option (Opened S)) (unopened : List (List ℕ)) → Inputs read names result.sources.items files stopped unopened → result.exit ≡ 5 → (IsMissing stopped → ⊥) → (IsUnreadable m.source.faults stopped → ⊥)
      → IfSome stopped (λ s. IfSome s.source (λ source. m.source.faults source ≤ 1)) → m.opener.faults o1 ≡ m.opener.faults o0 → DidSome m.outlet.stands_for l0 l1 (whole_effects out files) → IfSome stopped (λ _. IsBegun m.outlet out files l0 l1) → m.outlet.file_faults l1 ≡ m.outlet.file_faults l0 → k1 ≡ k0 → m.outlet.say_faults l1 ≡ m.outlet.say_faults l0 → Is l0 l1 k0 k1
  starved_is l0 l1 k0 k1 files stopped unopened inputs is there readable once opens did begun file same unsaid = record {
    exits = inr (inr (inr (inr (inl is))));
    files = files;
    stopped = stopped;
    unopened = unopened;
    inputs = inputs;
    opened = opened;
    missing = λ m. absurd (there m);
    there = λ _. opens;
    once = once;
    all = λ x. absurd (no_zero_four result.exit 5 is (λ z. omega arith) (λ z. omega arith) x);
    all_done = λ x. absurd (no_zero_four result.exit 5 is (λ z. omega arith) (λ z. omega arith) x);
    zero_lines = λ x. absurd (omega (arith, is, x));
    four_lines = λ x. absurd (omega (arith, is, x));
    stops = λ x. absurd (no_stop result.exit 5 is (λ z. omega arith) (λ z. omega arith) (λ z. omega arith) x);
    two = (λ x. absurd (omega (arith, is, x)), λ u. absurd (readable u));
    two_line = λ x. absurd (omega (arith, is, x));
    seven = λ x. absurd (omega (arith, is, x));
    nine = λ x. absurd (omega (arith, is, x));
    three = λ x. absurd (omega (arith, is, x));
    three_done = λ x. absurd (omega (arith, is, x));
    three_none = λ x. absurd (omega (arith, is, x));
    five_done = λ _. did;
    five_begun = λ _. begun;
    five_none = λ _. same;
    unfailed = λ _. file;
    closed = λ x. absurd (no_zero_four result.exit 5 is (λ z. omega arith) (λ z. omega arith) x);
    unsaid = unsaid;
  }

  -- ---- by why the joining stopped

  -- a source that was read is there, and no read of it failed
  there_is : (s : Opened S) (content : List ℕ) → read s content → IsNone s.source → ⊥
  there_is s content r none = let z : IsNone (Some r.source) = subst IsNone r.there none in cc

  read_once : (s : Opened S) (content : List ℕ) → read s content → IfSome s.source (λ source. m.source.faults source ≤ 1)
  read_once s content r = subst (λ (z : Option S). IfSome z (λ source. m.source.faults source ≤ 1)) (sym r.there) (let z : m.source.faults r.source ≡ 0 = r.given.unfailed in omega arith)

  readable_is : (s : Opened S) (content : List ℕ) → read s content → WasUnreadable m.source.faults s.source → ⊥
  readable_is s content r u = let z : 0 < m.source.faults r.source = subst (WasUnreadable m.source.faults) r.there u in let y : m.source.faults r.source ≡ 0 = r.given.unfailed in omega arith

  unopened_is : (source : Option S) (l0 l2 : L) (k0 k1 : K) (files : List (List WholeBlock)) (s : Opened S) (unopened : List (List ℕ)) → s.source ≡ source → IsNone source → Inputs read names result.sources.items files (Some s) unopened → result.exit ≡ 2
      → m.opener.faults o1 ≡ one_higher (m.opener.faults o0) → WasFinished m.outlet (begun_effects out files) l0 l2 → WroteTo m.note k0 k1 (open_failed_line s.name) → m.outlet.say_faults l2 ≡ m.outlet.say_faults l0 → Is l0 l2 k0 k1
  unopened_is (Some source) l0 l2 k0 k1 files s unopened is none inputs two rose fin wrote unsaid = cc
  unopened_is None l0 l2 k0 k1 files s unopened is none inputs two rose fin wrote unsaid =
      stopped_is l0 l2 k0 k1 files s unopened inputs (inl two) (λ _. rose) (λ n. absurd (n (subst IsNone (sym is) refl))) (subst (λ (z : Option S). IfSome z (λ source. m.source.faults source ≤ 1)) (sym is) tt) fin
      (λ _. subst (WasUnreadable m.source.faults) (sym is) tt, λ _. two) (λ _. subst (λ (z : Option S). WroteTo m.note k0 k1 (unreadable_line z s.name)) (sym is) wrote)
      (λ x. absurd (omega (arith, two, x))) (λ x. absurd (omega (arith, two, x))) unsaid

  unreadable_is : (source : Option S) (l0 l2 : L) (k0 k1 : K) (files : List (List WholeBlock)) (s : Opened S) (unopened : List (List ℕ)) → s.source ≡ source → IsSomeAnd source (λ x. m.source.faults x ≡ 1) → Inputs read names result.sources.items files (Some s) unopened → result.exit ≡ 2
      → m.opener.faults o1 ≡ m.opener.faults o0 → WasFinished m.outlet (begun_effects out files) l0 l2 → WroteTo m.note k0 k1 (read_failed_line s.name) → m.outlet.say_faults l2 ≡ m.outlet.say_faults l0 → Is l0 l2 k0 k1
  unreadable_is None l0 l2 k0 k1 files s unopened is one inputs two opens fin wrote unsaid = absurd one
  unreadable_is (Some source) l0 l2 k0 k1 files s unopened is one inputs two opens fin wrote unsaid =
      stopped_is l0 l2 k0 k1 files s unopened inputs (inl two) (λ n. absurd (let z : IsNone (Some source) = subst IsNone is n in cc)) (λ _. opens) (subst (λ (z : Option S). IfSome z (λ source. m.source.faults source ≤ 1)) (sym is) (let z : m.source.faults source ≡ 1 = one in omega arith)) fin
      (λ _. subst (WasUnreadable m.source.faults) (sym is) (let z : m.source.faults source ≡ 1 = one in omega arith), λ _. two) (λ _. subst (λ (z : Option S). WroteTo m.note k0 k1 (unreadable_line z s.name)) (sym is) wrote)
      (λ x. absurd (omega (arith, two, x))) (λ x. absurd (omega (arith, two, x))) unsaid

  module _ (l0 l1 l2 : L) (k0 k1 : K) (name : List ℕ) (name_is : name ≡ last_named result.sources.items out) (unsaid : m.outlet.say_faults l2 ≡ m.outlet.say_faults l0) where
    abbrev did : List (List WholeBlock) → Type 0
    did files = IsBegun m.outlet out files l0 l1

    abbrev failed : List (List WholeBlock) → Type 0
    failed files = DidFront m.outlet.stands_for l0 l1 (whole_effects out files)

    abbrev starved : List (List WholeBlock) → Type 0
    starved files = DidSome m.outlet.stands_for l0 l1 (whole_effects out files)

    abbrev Ends : Stop → Type 0
    Ends why = EndsBy m.outlet m.note why name l1 l2 k0 k1 result.exit

    own_name : (files : List (List WholeBlock)) (s : Opened S) (unopened : List (List ℕ)) → Inputs read names result.sources.items files (Some s) unopened → name ≡ s.name
    own_name files s unopened i = name_is ∙ ap (λ (z : List (Opened S)). last_named z out) i.parts ∙ last_is i.whole s out

    same_begun : (files : List (List WholeBlock)) → l2 ≡ l1 → IsBegun m.outlet out files l0 l1 → IsBegun m.outlet out files l0 l2
    same_begun files same d = subst (λ (z : L). IsBegun m.outlet out files l0 z) (sym same) d

    same_some : (files : List (List WholeBlock)) → l2 ≡ l1 → DidSome m.outlet.stands_for l0 l1 (whole_effects out files) → DidSome m.outlet.stands_for l0 l2 (whole_effects out files)
    same_some files same d = subst (λ (z : L). DidSome m.outlet.stands_for l0 z (whole_effects out files)) (sym same) d

    halted_by : (why : Stop) (stopped : Option (Opened S)) (files : List (List WholeBlock)) (unopened : List (List ℕ)) → Inputs read names result.sources.items files stopped unopened → HaltIs read m.source.faults files stopped (did files) (failed files) (starved files) why
        → (let r : Result ℕ Stop = Err why in OpenCause (m.opener.faults o0) (m.opener.faults o1) r) → (let r : Result ℕ Stop = Err why in FileCause (m.outlet.file_faults l0) (m.outlet.file_faults l1) r) → Ends why → Is l0 l2 k0 k1
    halted_by stop.Unopened None files unopened i h opens file e = absurd h.0
    halted_by stop.Unopened (Some s) files unopened i h opens file (inl x) =
        unopened_is s.source l0 l2 k0 k1 files s unopened refl h.0 i x.0 opens (finish_behind l0 l1 l2 (begun_effects out files) h.1.0 file x.2) (subst (λ (z : List ℕ). WroteTo m.note k0 k1 (open_failed_line z)) (own_name files s unopened i) x.3) unsaid
    halted_by stop.Unopened (Some s) files unopened i h opens file (inr (inl x)) = absurd (x.1 tt)
    halted_by stop.Unopened (Some s) files unopened i h opens file (inr (inr x)) = absurd x.1
    halted_by stop.Unreadable None files unopened i h opens file e = absurd h.0
    halted_by stop.Unreadable (Some s) files unopened i h opens file (inl x) =
        unreadable_is s.source l0 l2 k0 k1 files s unopened refl h.0 i x.0 opens (finish_behind l0 l1 l2 (begun_effects out files) h.1.0 file x.2) (subst (λ (z : List ℕ). WroteTo m.note k0 k1 (read_failed_line z)) (own_name files s unopened i) x.3) unsaid
    halted_by stop.Unreadable (Some s) files unopened i h opens file (inr (inl x)) = absurd (x.1 tt)
    halted_by stop.Unreadable (Some s) files unopened i h opens file (inr (inr x)) = absurd x.1
    halted_by (stop.Bad w at) None files unopened i h opens file e = absurd h.0
    halted_by (stop.Bad w at) (Some s) files unopened i h opens file (inl x) =
        stopped_is l0 l2 k0 k1 files s unopened i (inr (inl x.0)) (λ n. absurd (there_is s h.0.0 h.0.1 n)) (λ _. opens) (read_once s h.0.0 h.0.1) (finish_behind l0 l1 l2 (begun_effects out files) h.1.0 file x.2)
        (λ e. absurd (let z : result.exit ≡ 7 = x.0 in omega arith), λ u. absurd (readable_is s h.0.0 h.0.1 u)) (λ e. absurd (let z : result.exit ≡ 7 = x.0 in omega arith))
        (λ _. record { content = h.0.0; given = h.0.1; what = w; at = at; first = h.0.2; line = subst (λ (z : List ℕ). WroteTo m.note k0 k1 (defect_line w at z)) (own_name files s unopened i) x.3 })
        (λ e. absurd (let z : result.exit ≡ 7 = x.0 in omega arith)) unsaid
    halted_by (stop.Bad w at) (Some s) files unopened i h opens file (inr (inl x)) = absurd (x.1 tt)
    halted_by (stop.Bad w at) (Some s) files unopened i h opens file (inr (inr x)) =
        starved_is l0 l2 k0 k1 files (Some s) unopened i x.0 (there_is s h.0.0 h.0.1) (readable_is s h.0.0 h.0.1) (read_once s h.0.0 h.0.1) opens (same_some files x.2 (begun_is_some m.outlet.stands_for out l0 l1 files h.1.0)) (same_begun files x.2 h.1) (ap m.outlet.file_faults x.2 ∙ file) x.3 unsaid
    halted_by (stop.Differ n) None files unopened i h opens file e = absurd h.0
    halted_by (stop.Differ n) (Some s) files unopened i h opens file (inl x) =
        stopped_is l0 l2 k0 k1 files s unopened i (inr (inr x.0)) (λ m. absurd (there_is s h.0.0 h.0.1 m)) (λ _. opens) (read_once s h.0.0 h.0.1) (finish_behind l0 l1 l2 (begun_effects out files) h.1.0 file x.2)
        (λ e. absurd (let z : result.exit ≡ 9 = x.0 in omega arith), λ u. absurd (readable_is s h.0.0 h.0.1 u)) (λ e. absurd (let z : result.exit ≡ 9 = x.0 in omega arith))
        (λ e. absurd (let z : result.exit ≡ 9 = x.0 in omega arith))
        (λ _. record { content = h.0.0; given = h.0.1; number = n; defectless = h.0.2; first = h.0.3; line = subst (λ (z : List ℕ). WroteTo m.note k0 k1 (difference_line n z)) (own_name files s unopened i) x.3 }) unsaid
    halted_by (stop.Differ n) (Some s) files unopened i h opens file (inr (inl x)) = absurd (x.1 tt)
    halted_by (stop.Differ n) (Some s) files unopened i h opens file (inr (inr x)) =
        starved_is l0 l2 k0 k1 files (Some s) unopened i x.0 (there_is s h.0.0 h.0.1) (readable_is s h.0.0 h.0.1) (read_once s h.0.0 h.0.1) opens (same_some files x.2 (begun_is_some m.outlet.stands_for out l0 l1 files h.1.0)) (same_begun files x.2 h.1) (ap m.outlet.file_faults x.2 ∙ file) x.3 unsaid
    halted_by stop.File (Some s) files unopened i h opens file e = absurd (let z : Some s ≡ None = h.0 in cc)
    halted_by stop.File None files unopened i h opens file (inl x) = absurd x.1
    halted_by stop.File None files unopened i h opens file (inr (inl x)) =
        failed_is l0 l2 k0 k1 files unopened i x.0 opens (subst (λ (z : L). DidFront m.outlet.stands_for l0 z (whole_effects out files)) (sym x.2) h.1) (ap m.outlet.file_faults x.2 ∙ file) x.3 unsaid
    halted_by stop.File None files unopened i h opens file (inr (inr x)) = absurd x.1
    halted_by stop.NoMemory stopped files unopened i h opens file (inl x) = absurd x.1
    halted_by stop.NoMemory None files unopened i h opens file (inr (inl x)) =
        starved_is l0 l2 k0 k1 files None unopened i x.0 (λ m. m) (λ u. u) tt opens (same_some files x.2 h) tt (ap m.outlet.file_faults x.2 ∙ file) x.3 unsaid
    halted_by stop.NoMemory (Some s) files unopened i h opens file (inr (inl x)) = by s.source refl h.0
      where
        by : (source : Option S) → s.source ≡ source → IsSomeAnd source (λ z. m.source.faults z ≡ 0) → Is l0 l2 k0 k1
        by None is none = absurd none
        by (Some source) is none = starved_is l0 l2 k0 k1 files (Some s) unopened i x.0 (λ m. let z : IsNone (Some source) = subst IsNone is m in cc) (λ u. let z : 0 < m.source.faults source = subst (WasUnreadable m.source.faults) is u in let y : m.source.faults source ≡ 0 = none in omega arith)
            (subst (λ (z : Option S). IfSome z (λ source. m.source.faults source ≤ 1)) (sym is) (let y : m.source.faults source ≡ 0 = none in omega arith)) opens (same_some files x.2 (begun_is_some m.outlet.stands_for out l0 l1 files h.1.0)) (same_begun files x.2 h.1) (ap m.outlet.file_faults x.2 ∙ file) x.3 unsaid
    halted_by stop.NoMemory stopped files unopened i h opens file (inr (inr x)) = absurd x.1

    pub halted_is : (why : Stop) → Halted read m.source.faults did failed starved names result.sources.items why → (let r : Result ℕ Stop = Err why in OpenCause (m.opener.faults o0) (m.opener.faults o1) r) → (let r : Result ℕ Stop = Err why in FileCause (m.outlet.file_faults l0) (m.outlet.file_faults l1) r) → Ends why → Is l0 l2 k0 k1
    halted_is why h opens file e = halted_by why h.stopped h.files h.unopened h.inputs h.halt opens file e

-- memory was wanting before anything
pub unbegun_is : {O S L K : Type 0} (m : Meanings O S L K) (out : List ℕ) (names : List (List ℕ)) (result : Joined S) (o : O) (l : L) (k : K) → result.sources.items ≡ [] → result.exit ≡ 5
    → JoinIs m out names result (record { opener = o; outlet = l; note = k }) (record { opener = o; outlet = l; note = k })
unbegun_is {O} {S} m out names result o l k none is =
    starved_is m out names result o o
    (subst (λ (z : List (Opened S)). Leads m.opener.opened o o (map name_of z)) (sym none) (λ history s. subst (m.opener.opened o) (sym (append-nil history)) s))
    l l k k [] None names (unbegun (IsRead m.source) names result.sources.items none) is (λ m. m) (λ u. u) tt refl (none_done m.outlet.stands_for l (whole_effects out [])) tt refl refl refl
