-- What a trial comes to, by how its parts ended.
use Rattle.std.proofs.Common.{◌≡◌, inl, inr, ℕ, ◌≤◌, List, Option, Some, Result, Ok, Err, refl, ap, ◌∙◌, subst, arith}
use Rattle.cap_base.specs.Effects.{Effect, effects}
use Rattle.cap_outside.specs.Causes.{one_higher}
use Rattle.cap_outside.specs.SureOutlet.{done_of}
use Rattle.cap_outside.specs.declared.outlet.SureOutlet.{SureOutlet}
use Rattle.cap_outside.specs.declared.source.SureSource.{SureSource}
use Rattle.turn_cell.specs.Passes.{history}
use Rattle.source_thread.specs.declared.ended.Ended.{Ended}
use Rattle.writer_thread.specs.declared.writer_end.WriterEnd.{WriterEnd}
use Rattle.capture_threads.specs.Captures.{QueueFront}
use Rattle.mode_base.specs.Written.{WroteWhole, WrotePrefix}
use Rattle.trial_mode.specs.declared.stop.Stop.{Stop}
use Rattle.trial_mode.specs.declared.stop.Stop.TheVariants as stop
use Rattle.trial_mode.specs.Lines.{lines_with}
use Rattle.trial_mode.specs.Streams.{Streams}
use Rattle.trial_mode.specs.Trials.{Tried, IsTrialExit, lines_of}
use Rattle.trial_mode.specs.inner.Ends.{WereCaptured, WasFound, AreLines, ConcludedSo, exit_by}
use Rattle.trial_mode.proofs.Readings.{captured_whole}
use Rattle.trial_mode.proofs.Wholes.{FoundAll, whole, found_all}

-- how many streams and packets there may be
pub record AreFew (streams : Streams) : Type 0 where
  pub some_sources : 1 ≤ streams.sources
  pub few_sources : streams.sources ≤ 64
  pub few_packets : streams.packets ≤ 1000000

lines_are : (streams : Streams) (done : List Effect) (lines : List ℕ) → ((a f c : ℕ) → WasFound done a f c → FoundAll streams a f c) → AreLines streams.sources streams.packets done lines → lines ≡ lines_of streams
lines_are streams done lines all l = let w = all l.accounted l.files l.checked l.found in l.are
    ∙ ap (λ (z : ℕ). lines_with streams.sources streams.packets z l.files l.checked) w.accounted
    ∙ ap (λ (z : ℕ). lines_with streams.sources streams.packets streams.packets z l.checked) w.files
    ∙ ap (λ (z : ℕ). lines_with streams.sources streams.packets streams.packets 1 z) w.checked

module _ {K : Type 0} (written : K → Option (List ℕ)) (faults : K → ℕ) (streams : Streams) (few : AreFew streams) where
  pub tried : (sources : List (Ended SureSource)) (w : WriterEnd) (f : QueueFront) (outlet : SureOutlet) (k0 k1 : K) (r : Result (Unit {0}) Stop) (exit : ℕ) → WereCaptured streams sources w f outlet
      → ConcludedSo written faults streams.sources streams.packets sources w (effects (done_of outlet)) k0 k1 r → exit ≡ exit_by r → Tried written faults streams (Some f) (Some outlet) k0 k1 exit
  tried sources w f outlet k0 k1 (Ok u) exit c d e =
      let all = captured_whole streams sources w f outlet c d.0 in
      record {
        zero_capture = λ z. whole streams (history f) (effects (done_of outlet)) all few.some_sources few.few_sources few.few_packets;
        zero_lines = λ z. subst (WroteWhole written faults k0 k1) (lines_are streams (effects (done_of outlet)) d.1.0 (found_all streams (history f) (effects (done_of outlet)) all few.some_sources few.few_sources few.few_packets) d.1.1) d.1.2;
        four_capture = λ z. absurd (let a : exit ≡ 4 = z in let b : exit ≡ 0 = e in omega arith);
        four_lines = λ z. absurd (let a : exit ≡ 4 = z in let b : exit ≡ 0 = e in omega arith);
        five_lines = λ z. absurd (let a : exit ≡ 5 = z in let b : exit ≡ 0 = e in omega arith);
        six_lines = λ z. absurd (let a : exit ≡ 6 = z in let b : exit ≡ 0 = e in omega arith);
        six_turns = λ z. absurd (let a : exit ≡ 6 = z in let b : exit ≡ 0 = e in omega arith);
      }
  tried sources w f outlet k0 k1 (Err stop.Unwritten) exit c d e =
      let all = captured_whole streams sources w f outlet c d.0 in record {
        zero_capture = λ z. absurd (let a : exit ≡ 0 = z in let b : exit ≡ 4 = e in omega arith);
        zero_lines = λ z. absurd (let a : exit ≡ 0 = z in let b : exit ≡ 4 = e in omega arith);
        four_capture = λ z. whole streams (history f) (effects (done_of outlet)) all few.some_sources few.few_sources few.few_packets;
        four_lines = λ z. subst (WrotePrefix written faults k0 k1) (lines_are streams (effects (done_of outlet)) d.1.0 (found_all streams (history f) (effects (done_of outlet)) all few.some_sources few.few_sources few.few_packets) d.1.1) d.1.2;
        five_lines = λ z. absurd (let a : exit ≡ 5 = z in let b : exit ≡ 4 = e in omega arith);
        six_lines = λ z. absurd (let a : exit ≡ 6 = z in let b : exit ≡ 4 = e in omega arith);
        six_turns = λ z. absurd (let a : exit ≡ 6 = z in let b : exit ≡ 4 = e in omega arith);
      }
  tried sources w f outlet k0 k1 (Err stop.NoMemory) exit c d e = record {
    zero_capture = λ z. absurd (let a : exit ≡ 0 = z in let b : exit ≡ 5 = e in omega arith);
    zero_lines = λ z. absurd (let a : exit ≡ 0 = z in let b : exit ≡ 5 = e in omega arith);
    four_capture = λ z. absurd (let a : exit ≡ 4 = z in let b : exit ≡ 5 = e in omega arith);
    four_lines = λ z. absurd (let a : exit ≡ 4 = z in let b : exit ≡ 5 = e in omega arith);
    five_lines = λ z. d;
    six_lines = λ z. absurd (let a : exit ≡ 6 = z in let b : exit ≡ 5 = e in omega arith);
    six_turns = λ z. absurd (let a : exit ≡ 6 = z in let b : exit ≡ 5 = e in omega arith);
  }
  tried sources w f outlet k0 k1 (Err stop.Worn) exit c d e = record {
    zero_capture = λ z. absurd (let a : exit ≡ 0 = z in let b : exit ≡ 6 = e in omega arith);
    zero_lines = λ z. absurd (let a : exit ≡ 0 = z in let b : exit ≡ 6 = e in omega arith);
    four_capture = λ z. absurd (let a : exit ≡ 4 = z in let b : exit ≡ 6 = e in omega arith);
    four_lines = λ z. absurd (let a : exit ≡ 4 = z in let b : exit ≡ 6 = e in omega arith);
    five_lines = λ z. absurd (let a : exit ≡ 5 = z in let b : exit ≡ 6 = e in omega arith);
    six_lines = λ z. d.1;
    six_turns = λ z. (c.capture.spent d.0).all_turns;
  }

  -- for want of memory before the capture
  pub none_tried : (front : Option QueueFront) (outlet : Option SureOutlet) (k : K) (exit : ℕ) → exit ≡ 5 → Tried written faults streams front outlet k k exit
  none_tried front outlet k exit e = record {
    zero_capture = λ z. absurd (let a : exit ≡ 0 = z in omega arith);
    zero_lines = λ z. absurd (let a : exit ≡ 0 = z in omega arith);
    four_capture = λ z. absurd (let a : exit ≡ 4 = z in omega arith);
    four_lines = λ z. absurd (let a : exit ≡ 4 = z in omega arith);
    five_lines = λ z. refl;
    six_lines = λ z. absurd (let a : exit ≡ 6 = z in omega arith);
    six_turns = λ z. absurd (let a : exit ≡ 6 = z in omega arith);
  }

  -- the count of the failed writes, by the exit
  pub unwritten : (front : Option QueueFront) (outlet : Option SureOutlet) (k0 k1 : K) (exit : ℕ) → Tried written faults streams front outlet k0 k1 exit → exit ≡ 4 → faults k1 ≡ one_higher (faults k0)
  unwritten front outlet k0 k1 exit t e = let w = t.four_lines e in w.failed

  pub not_unwritten : (front : Option QueueFront) (outlet : Option SureOutlet) (k0 k1 : K) (exit : ℕ) → IsTrialExit exit → Tried written faults streams front outlet k0 k1 exit → (exit ≡ 4 → ⊥) → faults k1 ≡ faults k0
  not_unwritten front outlet k0 k1 exit (inl z) t n = let w = t.zero_lines z in w.unfailed
  not_unwritten front outlet k0 k1 exit (inr (inl z)) t n = absurd (n z)
  not_unwritten front outlet k0 k1 exit (inr (inr (inl z))) t n = ap faults (t.five_lines z)
  not_unwritten front outlet k0 k1 exit (inr (inr (inr z))) t n = ap faults (t.six_lines z)

pub exit_is : (r : Result (Unit {0}) Stop) → IsTrialExit (exit_by r)
exit_is (Ok u) = inl refl
exit_is (Err stop.Unwritten) = inr (inl refl)
exit_is (Err stop.NoMemory) = inr (inr (inl refl))
exit_is (Err stop.Worn) = inr (inr (inr refl))
