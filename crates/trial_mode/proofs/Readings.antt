-- Sources that were read to the end of their streams.
use Rattle.std.proofs.Common.{◌≡◌, ◌≢◌, ℕ, ◌+◌, ◌<◌, ◌≤◌, true, false, List, [], ◌∷◌, ◌++◌, length, Option, Some, None, sym, ap, ◌∙◌, subst, arith, ⊎_elim}
use Rattle.std.specs.Prelude.{IsSomeAnd}
use Rattle.std.specs.List.{list_all}
use Rattle.std.proofs.lemmas.List.{append-nil}
use Rattle.std.proofs.lemmas.Bool.{and_parts, cases_eq}
use Rattle.cap_base.specs.Callers.{own}
use Rattle.cap_base.specs.Effects.{Effect, effects}
use Rattle.cap_base.specs.Histories.{History}
use Rattle.cap_base.specs.declared.endings.How.{How}
use Rattle.cap_base.specs.declared.endings.How.TheVariants as how
use Rattle.cap_base.specs.declared.entries.Entry.{Entry}
use Rattle.cap_outside.specs.SureClock as clock
use Rattle.cap_outside.specs.declared.clock.SureClock.{SureClock}
use Rattle.cap_base.specs.declared.settings.Settings.{Settings}
use Rattle.cap_outside.specs.SureOutlet.{done_of, has_done}
use Rattle.cap_outside.specs.SureSource.{IsNew, taken_of, left_of, ends_of}
use Rattle.cap_outside.specs.declared.outlet.SureOutlet.{SureOutlet}
use Rattle.cap_outside.specs.declared.source.SureSource.{SureSource}
use Rattle.turn_cell.specs.Passes.{history}
use Rattle.source_thread.specs.declared.ended.Ended.{Ended}
use Rattle.cap_outside.specs.declared.opened.Opened.{Opened}
use Rattle.source_thread.specs.Sources.{SourceTold, source_facts}
use Rattle.source_thread.specs.Told.{SourceFacts, ReadToEnd, Told}
use Rattle.writer_thread.specs.declared.writer_end.WriterEnd.{WriterEnd}
use Rattle.capture_core.specs.Headline.{Headline}
use Rattle.capture_threads.specs.Captures.{QueueFront}
use Rattle.capture_run.specs.Capture.{CaptureIs}
use Rattle.capture_run.specs.Sources.{SourcesAre}
use Rattle.capture_core.specs.Writers.{writers_past}
use Rattle.trial_mode.specs.Streams.{Streams, stream_of, source_name, source_names, trial_settings}
use Rattle.trial_mode.specs.Trials.{unread, read_whole, IsToldWhole, AreCaptured}
use Rattle.trial_mode.specs.inner.Ends.{sure_facts, is_clean, ends_clean, EndedWell, WereCaptured}
use Rattle.trial_mode.specs.inner.Opened.{AreOpened}
use Rattle.trial_mode.proofs.Shapes.{never_stopped, unfailed}

-- where nothing is left of a text, the bytes that were taken are that text
told_one : (n : ℕ) (name text b taken left : List ℕ) (ends : ℕ) (all : List Entry) → Told n name None b how.Clean (unread text) (source_facts (Some taken) (Some left) ends 0) all → Some taken ≡ Some b → Some (taken ++ left) ≡ Some text
    → Told n name None text how.Clean (unread text) (read_whole text) all
told_one n name text b taken left ends all told gave content =
    subst (λ (k : ℕ). Told n name None text how.Clean (unread text) (source_facts (Some text) (Some []) k 0) all) once
    (subst (λ (y : List ℕ). Told n name None text how.Clean (unread text) (source_facts (Some text) (Some y) ends 0) all) none
    (subst (λ (x : List ℕ). Told n name None text how.Clean (unread text) (source_facts (Some x) (Some left) ends 0) all) (same ∙ whole)
    (subst (λ (z : List ℕ). Told n name None z how.Clean (unread text) (source_facts (Some taken) (Some left) ends 0) all) whole told))) where
      read : ReadToEnd (length b) (unread text) (source_facts (Some taken) (Some left) ends 0) told.entries
      read = told.entered.cause.2

      none : left ≡ []
      none = read.none_left

      once : ends ≡ 1
      once = read.gave_nothing

      same : taken ≡ b
      same = cc

      all_of_it : taken ++ left ≡ text
      all_of_it = cc

      whole : b ≡ text
      whole = sym same ∙ sym (append-nil taken) ∙ ap (λ (z : List ℕ). taken ++ z) (sym none) ∙ all_of_it

new_is : (text taken left : List ℕ) (ends : ℕ) → taken ≡ [] → left ≡ text → ends ≡ 0 → source_facts (Some taken) (Some left) ends 0 ≡ unread text
new_is text taken left ends p q r = ap (λ (x : List ℕ). source_facts (Some x) (Some left) ends 0) p ∙ ap (λ (x : List ℕ). source_facts (Some []) (Some x) ends 0) q ∙ ap (λ (x : ℕ). source_facts (Some []) (Some text) x 0) r

told_by : (streams : Streams) (n : ℕ) (all : List Entry) (name : List ℕ) (old new : Option SureSource) (end : How) → name ≡ source_name n → IsSomeAnd old (λ s. IsNew (stream_of streams n) [] s) → SourceTold n name None end (sure_facts old) (sure_facts new) all → is_clean end ≡ true
    → Told n (source_name n) None (stream_of streams n) how.Clean (unread (stream_of streams n)) (read_whole (stream_of streams n)) all
told_by streams n all name None new end q o t c = absurd o
told_by streams n all name (Some s) None end q o t c = let z : false ≡ true = t.same in cc
told_by streams n all name (Some s) (Some r) how.Clean q o t c =
    let text : List ℕ = stream_of streams n in
    let w : SourceTold n name None how.Clean (unread text) (sure_facts (Some r)) all = subst (λ (old : SourceFacts). SourceTold n name None how.Clean old (sure_facts (Some r)) all) (new_is text (taken_of s) (left_of s) (ends_of s) o.taken o.left o.ends) t in
    subst (λ (z : List ℕ). Told n z None text how.Clean (unread text) (read_whole text) all) q (told_one n name text w.b (taken_of r) (left_of r) (ends_of r) all w.told w.gave w.content)
told_by streams n all name (Some s) (Some r) how.Stopped q o t c = cc
told_by streams n all name (Some s) (Some r) (how.Cut at) q o t c = cc
told_by streams n all name (Some s) (Some r) (how.Bad code at) q o t c = cc
told_by streams n all name (Some s) (Some r) how.ReadFault q o t c = cc
told_by streams n all name (Some s) (Some r) how.OpenFault q o t c = cc
told_by streams n all name (Some s) (Some r) how.TooMany q o t c = cc
told_by streams n all name (Some s) (Some r) how.TooLong q o t c = cc
told_by streams n all name (Some s) (Some r) how.NoMemory q o t c = cc
told_by streams n all name (Some s) (Some r) how.Worn q o t c = cc

all_told : (streams : Streams) (h : History) (n : ℕ) (befores : List (Opened SureSource)) (afters : List (Ended SureSource)) → AreOpened streams n befores → SourcesAre sure_facts None n befores afters h → list_all ends_clean afters ≡ true
    → (which : ℕ) → n ≤ which → which < n + length befores → IsToldWhole streams h which
all_told streams h n [] [] o s c which lo hi = absurd (omega arith)
all_told streams h n [] (a ∷ ends) o s c which lo hi = absurd s
all_told streams h n (b ∷ bs) [] o s c which lo hi = absurd s
all_told streams h n (b ∷ bs) (a ∷ ends) o s c which lo hi = let k = and_parts (ends_clean a) (list_all ends_clean ends) c in
    ⊎_elim (λ (is : n ≡ which). subst (λ (z : ℕ). IsToldWhole streams h z) is (told_by streams n (own n h) b.name b.source a.source a.how o.0.name o.0.source s.0.ran.ran k.0))
    (λ (ne : n ≢ which). all_told streams h (n + 1) bs ends o.1 s.1 k.1 which (omega arith) (omega arith)) (cases_eq n which)

pub captured_whole : (streams : Streams) (sources : List (Ended SureSource)) (w : WriterEnd) (f : QueueFront) (outlet : SureOutlet) → WereCaptured streams sources w f outlet → EndedWell sources w → AreCaptured streams (history f) (effects (done_of outlet))
captured_whole streams sources w f outlet c e =
    let ended = c.capture.ended e.worn in
    record {
      readings = ended.readings;
      headline = subst (λ (d : List Effect). Headline (trial_settings streams.sources) ended.readings (history f) d) (ended.did [] (ap effects (sym c.nothing_done))) ended.headline;
      never_stopped = never_stopped streams.sources (writers_past (length (source_names streams.sources)) (history f)) ended.headline.recorded.orderly.each (unfailed (own (length (source_names streams.sources)) (history f)) (sym c.capture.writer_is.file_fault ∙ e.file_fault) (sym c.capture.writer_is.say_fault ∙ e.say_fault) (sym c.capture.writer_is.no_memory ∙ e.no_memory));
      told = λ which lt. all_told streams (history f) 0 c.opened sources c.are_opened c.capture.sources_are e.clean which (omega arith) (omega (arith, c.as_many));
    }

-- what `capture` gives back
pub were_captured : (streams : Streams) (sources : List (Ended SureSource)) (w : WriterEnd) (f : QueueFront) (opened : List (Opened SureSource)) (s : Settings) (l0 l1 : SureOutlet) (c0 c1 : SureClock) (files0 files1 says0 says1 : ℕ)
    → AreOpened streams 0 opened → length opened ≡ streams.sources → done_of l0 ≡ [] → s ≡ trial_settings streams.sources
    → CaptureIs sure_facts has_done clock.has_read s opened sources w f l0 l1 c0 c1 files0 files1 says0 says1 → WereCaptured streams sources w f l1
were_captured streams sources w f opened s l0 l1 c0 c1 files0 files1 says0 says1 o k d q i = record {
  opened = opened;
  are_opened = o;
  as_many = k;
  before = l0;
  nothing_done = d;
  clock0 = c0;
  clock1 = c1;
  files0 = files0;
  files1 = files1;
  says0 = says0;
  says1 = says1;
  capture = subst (λ (z : Settings). CaptureIs sure_facts has_done clock.has_read z opened sources w f l0 l1 c0 c1 files0 files1 says0 says1) q i;
}
