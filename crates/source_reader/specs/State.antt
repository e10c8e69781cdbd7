-- What a reader keeps, and the bytes and events that it stands for.
use Rattle.std.specs.Prelude.{ℕ, ◌≡◌, ◌≤◌, ◌<◌, ◌-◌, List, [], ◌∷◌, ◌++◌, length, map, min, Option, Bool, true, false}
use Rattle.cap_base.specs.Endings.{IsOpen}
use Rattle.cap_base.specs.Events.{Event, interface, packet}
use Rattle.cap_base.specs.declared.endings.How.{How}
use Rattle.cap_base.specs.declared.endings.How.TheVariants as how
use Rattle.cap_base.specs.declared.steps.Step.{Step}
use Rattle.cap_base.specs.declared.steps.Step.TheVariants as step
use Rattle.cap_base.specs.declared.limits.TheConstants.{MAX_BLOCK_LEN}
use Rattle.input_buffer.specs.declared.buffer.TheConstants.{MAX_UNREAD_LEN}
use Rattle.pcap_pipe.specs.Pipe as classic
use Rattle.pcapng_blocks.specs.Frames.{is_section_header}
use Rattle.pcapng_pipe.specs.Pipe as pcapng
use Rattle.source_reader.specs.declared.stage.Stage.{Stage}
use Rattle.source_reader.specs.declared.stage.Stage.TheVariants.{Choosing, Classic, Pcapng}
use Rattle.source_reader.specs.Reading.{cut_event, events, ending}

pub record State : Type 0 where
  -- to how many bytes packets are cut
  pub snap : Option ℕ
  pub stage : Stage

-- the source's name
abbrev pub name_of : State → List ℕ
name_of s = by_stage s.stage
  where
    by_stage : Stage → List ℕ
    by_stage (Choosing name head) = name
    by_stage (Classic pipe) = pipe.name
    by_stage (Pcapng pipe) = pipe.name

-- the bytes that were fed and not read yet
abbrev pub kept_of : State → List ℕ
kept_of s = by_stage s.stage
  where
    by_stage : Stage → List ℕ
    by_stage (Choosing name head) = head
    by_stage (Classic pipe) = pipe.kept
    by_stage (Pcapng pipe) = pipe.kept

-- how many bytes were fed
abbrev pub fed_count : State → ℕ
fed_count s = by_stage s.stage
  where
    by_stage : Stage → ℕ
    by_stage (Choosing name head) = length head
    by_stage (Classic pipe) = classic.fed_count pipe
    by_stage (Pcapng pipe) = pcapng.fed_count pipe

-- The reader was fed these bytes and gave these events: they are those that the pipe of the bytes' format gave, with the
-- snap length put on them. Before the format is known nothing was given.
abbrev pub StandsFor : State → List ℕ → List Event → Type 0
StandsFor s fed given = by_stage s.stage
  where
    by_stage : Stage → Type 0
    by_stage (Choosing name head) = (fed ≡ head) × (given ≡ []) × (length fed < 4)
    by_stage (Classic pipe) = (4 ≤ length fed) × (is_section_header fed ≡ false) × (whole : List Event) × (given ≡ map (cut_event s.snap) whole) × classic.StandsFor pipe fed whole
    by_stage (Pcapng pipe) = (4 ≤ length fed) × (is_section_header fed ≡ true) × (whole : List Event) × (given ≡ map (cut_event s.snap) whole) × pcapng.StandsFor pipe fed whole

-- these bytes were fed
abbrev pub Feeds : State → State → List ℕ → Type 0
Feeds old new bytes = (fed : List ℕ) (given : List Event) → StandsFor old fed given → StandsFor new (fed ++ bytes) given

-- these events were given
abbrev pub Gives : State → State → List Event → Type 0
Gives old new more = (fed : List ℕ) (given : List Event) → StandsFor old fed given → StandsFor new fed (given ++ more)

-- all events of the bytes fed were given, and this is how the bytes end
abbrev pub EndsAs : State → (How → Type 0) → Type 0
EndsAs s P = (fed : List ℕ) (given : List Event) → StandsFor s fed given → (events (name_of s) s.snap fed ≡ given) × P (ending (name_of s) fed)

-- the kept bytes hold no event and, where no defect was met, no defect
abbrev pub IsDrained : State → Type 0
IsDrained s = by_stage s.stage
  where
    by_stage : Stage → Type 0
    by_stage (Choosing name head) = length head < 4
    by_stage (Classic pipe) = classic.IsDrained pipe
    by_stage (Pcapng pipe) = pcapng.IsDrained pipe

-- the kept bytes hold no event and no defect, and none was met
abbrev pub IsWaiting : State → Type 0
IsWaiting s = by_stage s.stage
  where
    by_stage : Stage → Type 0
    by_stage (Choosing name head) = length head < 4
    by_stage (Classic pipe) = classic.IsWaiting pipe
    by_stage (Pcapng pipe) = pcapng.IsWaiting pipe

-- no defect was met
abbrev pub is_reading : State → Bool
is_reading s = by_stage s.stage
  where
    by_stage : Stage → Bool
    by_stage (Choosing name head) = true
    by_stage (Classic pipe) = classic.is_reading pipe
    by_stage (Pcapng pipe) = pcapng.is_reading pipe

-- the ending, where nothing is to come
abbrev pub ending_of_rest : State → How
ending_of_rest s = by_stage s.stage
  where
    by_stage : Stage → How
    by_stage (Choosing name head) = how.Cut 0
    by_stage (Classic pipe) = classic.ending_of_rest pipe
    by_stage (Pcapng pipe) = pcapng.ending_of_rest pipe

-- how many of so many bytes it takes: none after a defect
abbrev pub room_for : State → ℕ → ℕ
room_for s len = by_stage s.stage
  where
    by_stage : Stage → ℕ
    by_stage (Choosing name head) = min len (MAX_UNREAD_LEN - length head)
    by_stage (Classic pipe) = classic.room_for pipe len
    by_stage (Pcapng pipe) = pcapng.room_for pipe len

-- a reader that was fed nothing
abbrev pub fresh : List ℕ → Option ℕ → State
fresh name snap = record { snap = snap; stage = Choosing name [] }

-- a step of the reader
abbrev pub Steps : State → State → Step → Type 0
Steps old new (step.Iface i) = Gives old new (interface i ∷ [])
Steps old new (step.Packet p) = Gives old new (packet p ∷ [])
Steps old new step.More = Gives old new [] × IsDrained new × EndsAs new IsOpen
Steps old new (step.Bad code at) = Gives old new [] × IsDrained new × EndsAs new (λ e. e ≡ how.Bad code at)

-- What is known of a step besides: each event takes bytes. Where more is needed, less than the longest block is kept.
abbrev pub IsLawful : State → State → Step → Type 0
IsLawful old new (step.Iface i) = length (kept_of new) < length (kept_of old)
IsLawful old new (step.Packet p) = length (kept_of new) < length (kept_of old)
IsLawful old new step.More = (length (kept_of new) < MAX_BLOCK_LEN) × (is_reading new ≡ true)
IsLawful old new (step.Bad code at) = ending_of_rest new ≡ how.Bad code at
