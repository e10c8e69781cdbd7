-- How the parts of a trial end.
use Rattle.std.specs.Prelude.{ℕ, ◌≡◌, Bool, true, false, List, [], length, Option, Some, None, Result, Ok, Err, unwrap_or}
use Rattle.std.specs.List.{list_all}
use Rattle.cap_base.specs.Effects.{Effect}
use Rattle.cap_base.specs.declared.endings.How.{How}
use Rattle.cap_base.specs.declared.endings.How.TheVariants as how
use Rattle.cap_outside.specs.Files.{file_in}
use Rattle.cap_outside.specs.SureClock as clock
use Rattle.cap_outside.specs.SureOutlet.{done_of, has_done}
use Rattle.cap_outside.specs.SureSource.{taken_of, left_of, ends_of}
use Rattle.cap_outside.specs.declared.clock.SureClock.{SureClock}
use Rattle.cap_outside.specs.declared.outlet.SureOutlet.{SureOutlet}
use Rattle.cap_outside.specs.declared.source.SureSource.{SureSource}
use Rattle.source_thread.specs.declared.ended.Ended.{Ended}
use Rattle.cap_outside.specs.declared.opened.Opened.{Opened}
use Rattle.source_thread.specs.Sources.{facts_of}
use Rattle.source_thread.specs.Told.{SourceFacts}
use Rattle.writer_thread.specs.declared.writer_end.WriterEnd.{WriterEnd}
use Rattle.capture_threads.specs.Captures.{QueueFront}
use Rattle.capture_run.specs.Capture.{CaptureIs, is_worn}
use Rattle.mode_base.specs.Written.{WroteWhole, WrotePrefix}
use Rattle.trial_mode.specs.declared.stop.Stop.{Stop}
use Rattle.trial_mode.specs.declared.stop.Stop.TheVariants as stop
use Rattle.trial_mode.specs.Lines.{lines_with}
use Rattle.trial_mode.specs.Streams.{Streams, output_name, trial_settings}
use Rattle.trial_mode.specs.Sums.{files_in}
use Rattle.trial_mode.specs.inner.Checked.{IsCounted}
use Rattle.trial_mode.specs.inner.Opened.{AreOpened}

-- ---- the capture

-- what is known of a source in memory
abbrev pub sure_facts : Option SureSource → SourceFacts
sure_facts source = facts_of (λ s. Some (taken_of s)) (λ s. Some (left_of s)) ends_of (λ _. 0) source

-- the streams were captured into this outlet, which had done nothing before
pub record WereCaptured (streams : Streams) (sources : List (Ended SureSource)) (w : WriterEnd) (f : QueueFront) (outlet : SureOutlet) : Type 0 where
  pub opened : List (Opened SureSource)
  pub are_opened : AreOpened streams 0 opened
  pub as_many : length opened ≡ streams.sources
  pub before : SureOutlet
  pub nothing_done : done_of before ≡ []
  pub clock0 : SureClock
  pub clock1 : SureClock
  pub files0 : ℕ
  pub files1 : ℕ
  pub says0 : ℕ
  pub says1 : ℕ
  pub capture : CaptureIs sure_facts has_done clock.has_read (trial_settings streams.sources) opened sources w f before outlet clock0 clock1 files0 files1 says0 says1

abbrev pub is_clean : How → Bool
is_clean how.Clean = true
is_clean other = false

abbrev pub ends_clean : Ended SureSource → Bool
ends_clean ended = is_clean ended.how

-- nothing failed, memory and turns sufficed, and each source came to a clean end
pub record EndedWell (sources : List (Ended SureSource)) (w : WriterEnd) : Type 0 where
  pub file_fault : w.file_fault ≡ false
  pub say_fault : w.say_fault ≡ false
  pub no_memory : w.no_memory ≡ false
  pub worn : is_worn sources w ≡ false
  pub clean : list_all ends_clean sources ≡ true

-- why it didn't
abbrev pub EndedSo : List (Ended SureSource) → WriterEnd → Result (Unit {0}) Stop → Type 0
EndedSo sources w (Ok done) = EndedWell sources w
EndedSo sources w (Err stop.Unwritten) = ⊥
EndedSo sources w (Err stop.NoMemory) = Unit {0}
EndedSo sources w (Err stop.Worn) = is_worn sources w ≡ true

-- ---- the lines

abbrev pub one_if : Option ℕ → ℕ
one_if None = 0
one_if (Some n) = 1

-- what was found in an outlet's files, as the lines have it
pub record WasFound (done : List Effect) (accounted files checked : ℕ) : Type 0 where
  pub files_is : files ≡ files_in done
  pub found : Option ℕ
  pub counted : IsCounted (file_in output_name done) found
  pub accounted_is : accounted ≡ unwrap_or found 0
  pub checked_is : checked ≡ one_if found

-- lines with what was found
pub record AreLines (sources packets : ℕ) (done : List Effect) (lines : List ℕ) : Type 0 where
  pub accounted : ℕ
  pub files : ℕ
  pub checked : ℕ
  pub found : WasFound done accounted files checked
  pub are : lines ≡ lines_with sources packets accounted files checked

-- what was written of them
abbrev pub ReportedSo : {K : Type 0} → (K → Option (List ℕ)) → (K → ℕ) → ℕ → ℕ → List Effect → K → K → Result (Unit {0}) Stop → Type 0
ReportedSo written faults sources packets done k0 k1 (Ok u) = (lines : List ℕ) × AreLines sources packets done lines × WroteWhole written faults k0 k1 lines
ReportedSo written faults sources packets done k0 k1 (Err stop.Unwritten) = (lines : List ℕ) × AreLines sources packets done lines × WrotePrefix written faults k0 k1 lines
ReportedSo written faults sources packets done k0 k1 (Err stop.NoMemory) = k1 ≡ k0
ReportedSo written faults sources packets done k0 k1 (Err stop.Worn) = ⊥

-- ---- both

abbrev pub ConcludedSo : {K : Type 0} → (K → Option (List ℕ)) → (K → ℕ) → ℕ → ℕ → List (Ended SureSource) → WriterEnd → List Effect → K → K → Result (Unit {0}) Stop → Type 0
ConcludedSo written faults sources packets ended w done k0 k1 (Ok u) = EndedWell ended w × ((lines : List ℕ) × AreLines sources packets done lines × WroteWhole written faults k0 k1 lines)
ConcludedSo written faults sources packets ended w done k0 k1 (Err stop.Unwritten) = EndedWell ended w × ((lines : List ℕ) × AreLines sources packets done lines × WrotePrefix written faults k0 k1 lines)
ConcludedSo written faults sources packets ended w done k0 k1 (Err stop.NoMemory) = k1 ≡ k0
ConcludedSo written faults sources packets ended w done k0 k1 (Err stop.Worn) = (is_worn ended w ≡ true) × (k1 ≡ k0)

abbrev pub exit_by : Result (Unit {0}) Stop → ℕ
exit_by (Ok u) = 0
exit_by (Err stop.Unwritten) = 4
exit_by (Err stop.NoMemory) = 5
exit_by (Err stop.Worn) = 6
