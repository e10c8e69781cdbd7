-- What a trial did.
use Rattle.std.specs.Prelude.{ℕ, ◌<◌, ◌^◌, ◌≡◌, ◌⊎◌, false, List, [], length, Option, Some, None, IsSomeAnd}
use Rattle.cap_base.specs.Callers.{own}
use Rattle.cap_base.specs.Effects.{Effect, effects}
use Rattle.cap_base.specs.Fates.{counts}
use Rattle.cap_base.specs.Histories.{History}
use Rattle.cap_base.specs.declared.endings.How.TheVariants.{Clean}
use Rattle.cap_outside.specs.Files.{file_in}
use Rattle.cap_outside.specs.SureOutlet.{done_of}
use Rattle.cap_outside.specs.declared.outlet.SureOutlet.{SureOutlet}
use Rattle.turn_cell.specs.Passes.{history, turns_made}
use Rattle.pcapng_grammar.specs.Files.{Grammatical}
use Rattle.source_thread.specs.Told.{SourceFacts, Told}
use Rattle.source_thread.specs.Sources.{source_facts}
use Rattle.capture_desk.specs.Due.{stopped}
use Rattle.capture_core.specs.Headline.{Headline}
use Rattle.capture_core.specs.Writers.{writers_past}
use Rattle.capture_threads.specs.Captures.{QueueFront}
use Rattle.mode_base.specs.Written.{WroteWhole, WrotePrefix}
use Rattle.trial_mode.specs.Lines.{lines_with}
use Rattle.trial_mode.specs.Streams.{Streams, stream_of, source_name, source_names, output_name, trial_settings}
use Rattle.trial_mode.specs.Sums.{accounted_in, files_in}

-- ---- the sources

-- a source in memory of which nothing was read
abbrev pub unread : List ℕ → SourceFacts
unread text = source_facts (Some []) (Some text) 0 0

-- a source in memory that gave all of its bytes, and then nothing
abbrev pub read_whole : List ℕ → SourceFacts
read_whole text = source_facts (Some text) (Some []) 1 0

-- a source was read to the end of its stream, its entries are those of the whole stream, and it ended cleanly
abbrev pub IsToldWhole : Streams → History → ℕ → Type 0
IsToldWhole streams h which = Told which (source_name which) None (stream_of streams which) Clean (unread (stream_of streams which)) (read_whole (stream_of streams which)) (own which h)

-- ---- the capture

-- All streams were captured.
pub record AreCaptured (streams : Streams) (h : History) (done : List Effect) : Type 0 where
  -- the clock gave these readings
  pub readings : List ℕ
  -- the history is legal and orderly, and the outlet did what it asks for
  pub headline : Headline (trial_settings streams.sources) readings h done
  -- the writer made no Stop in it
  pub never_stopped : stopped (writers_past (length (source_names streams.sources)) h) ≡ false
  -- each source was read to the end of its stream
  pub told : (which : ℕ) → which < streams.sources → IsToldWhole streams h which

-- One file was made.
pub record MadeOneFile (done : List Effect) : Type 0 where
  -- no other was created
  pub one : files_in done ≡ 1
  -- it has the name of the output, and these bytes
  pub text : List ℕ
  pub file : file_in output_name done ≡ Some text
  -- which are a section header, descriptions, packets and statistics
  pub grammatical : Grammatical text

-- Nothing is missing.
pub record IsWhole (streams : Streams) (h : History) (done : List Effect) : Type 0 where
  -- all streams were captured
  pub captured : AreCaptured streams h done
  -- into one file
  pub made : MadeOneFile done
  -- and as many packets were written, dropped and flushed as were made
  pub accounted : accounted_in (counts h) ≡ streams.packets

-- what a front and an outlet keep
abbrev pub KeepWhole : Streams → Option QueueFront → Option SureOutlet → Type 0
KeepWhole streams (Some f) (Some o) = IsWhole streams (history f) (effects (done_of o))
KeepWhole streams front outlet = ⊥

-- ---- the exits

-- the lines: all packets are accounted for, in one file that is grammatical
abbrev pub lines_of : Streams → List ℕ
lines_of streams = lines_with streams.sources streams.packets streams.packets 1 1

-- What was done, by the exit.
pub record Tried {K : Type 0} (written : K → Option (List ℕ)) (write_faults : K → ℕ) (streams : Streams) (front : Option QueueFront) (outlet : Option SureOutlet) (k0 k1 : K) (exit : ℕ) : Type 0 where
  -- with exit 0 nothing is missing, and the lines were written
  pub zero_capture : exit ≡ 0 → KeepWhole streams front outlet
  pub zero_lines : exit ≡ 0 → WroteWhole written write_faults k0 k1 (lines_of streams)
  -- with exit 4 nothing is missing, but a write failed, and a prefix of the lines was written
  pub four_capture : exit ≡ 4 → KeepWhole streams front outlet
  pub four_lines : exit ≡ 4 → WrotePrefix written write_faults k0 k1 (lines_of streams)
  -- with exit 5, for want of memory, nothing was written
  pub five_lines : exit ≡ 5 → k1 ≡ k0
  -- with exit 6 nothing was written, and all turns of the capture were made
  pub six_lines : exit ≡ 6 → k1 ≡ k0
  pub six_turns : exit ≡ 6 → IsSomeAnd front (λ f. turns_made f ≡ 2 ^ 56)

-- the exits of a trial
abbrev pub IsTrialExit : ℕ → Type 0
IsTrialExit exit = (exit ≡ 0) ⊎ ((exit ≡ 4) ⊎ ((exit ≡ 5) ⊎ (exit ≡ 6)))
