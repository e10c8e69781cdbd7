-- One grammatical file, in which all packets are accounted for.
use Rattle.std.proofs.Common.{◌≡◌, ℕ, ◌≤◌, false, List, length, Option, Some, None, refl, ◌∙◌, subst}
use Rattle.std.specs.Prelude.{unwrap_or}
use Rattle.cap_base.specs.Effects.{Effect}
use Rattle.cap_base.specs.Histories.{History}
use Rattle.capture_desk.specs.Files.{text}
use Rattle.capture_desk.specs.Past.{Past}
use Rattle.capture_core.specs.Headline.{is_faulted}
use Rattle.capture_core.specs.Writers.{writers_past}
use Rattle.trial_mode.specs.Streams.{Streams, source_names, trial_settings}
use Rattle.trial_mode.specs.Trials.{AreCaptured, IsWhole, MadeOneFile}
use Rattle.trial_mode.specs.inner.Checked.{IsCounted}
use Rattle.trial_mode.specs.inner.Ends.{WasFound, one_if}
use Rattle.trial_mode.proofs.Accounts.{accounted_whole, counted_whole, its_short}
use Rattle.trial_mode.proofs.Files.{made_one}
use Rattle.trial_mode.proofs.Finish.{WroteOne, at_end, blocks_at_end, wrote_one}
use Rattle.trial_mode.proofs.Shapes.{Unfailed, unstopped}

-- what was found is that
pub record FoundAll (streams : Streams) (a f c : ℕ) : Type 0 where
  pub accounted : a ≡ streams.packets
  pub files : f ≡ 1
  pub checked : c ≡ 1

no_fault : (past : Past) → Unfailed past → is_faulted past ≡ false
no_fault past u = rw u.file (rw u.memory (rw u.said refl))

module _ (streams : Streams) (h : History) (done : List Effect) (all : AreCaptured streams h done) (some : 1 ≤ streams.sources) (few : streams.sources ≤ 64) (packets : streams.packets ≤ 1000000) where
  abbrev n : ℕ
  n = length (source_names streams.sources)

  wrote : WroteOne streams.sources n h done
  wrote = let r = all.headline.recorded in
      wrote_one streams.sources n h done (at_end streams.sources n (trial_settings streams.sources).limits h r.legal r.orderly.each all.never_stopped r.orderly.over r.done_comes) r.orderly.each all.never_stopped
      (all.headline.all_done (no_fault (writers_past n h) (unstopped (writers_past n h) all.never_stopped)))

  made : MadeOneFile done
  made = made_one (text (blocks_at_end wrote.ends)) wrote.lines done wrote.done_is all.headline.grammatical

  pub whole : IsWhole streams h done
  whole = record { captured = all; made = made; accounted = accounted_whole streams h done all some few packets }

  by_found : (a f c : ℕ) (found : Option ℕ) → IsCounted (Some made.text) found → f ≡ 1 → a ≡ unwrap_or found 0 → c ≡ one_if found → FoundAll streams a f c
  by_found a f c None w p q r = absurd (w made.grammatical (its_short streams h done all some few packets wrote made.text made.file))
  by_found a f c (Some k) w p q r = record { accounted = q ∙ w.2 ∙ counted_whole streams h done all some few packets wrote made.text w.0 made.file w.1; files = p; checked = r }

  pub found_all : (a f c : ℕ) → WasFound done a f c → FoundAll streams a f c
  found_all a f c w = by_found a f c w.found (subst (λ (z : Option (List ℕ)). IsCounted z w.found) made.file w.counted) (w.files_is ∙ made.one) w.accounted_is w.checked_is
