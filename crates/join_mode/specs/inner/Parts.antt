-- The parts of a joining.
use Rattle.std.specs.Prelude.{ℕ, ◌≡◌, ◌-◌, ◌^◌, ◌⊎◌, List, [], length, map, Option, Some, None, Result, Ok, Err, IsSomeAnd, slice_get}
use Rattle.std.specs.List.{flat_map}
use Rattle.cap_base.specs.Effects.{Effect, bytes}
use Rattle.cap_outside.specs.Causes.{one_higher}
use Rattle.cap_outside.specs.Told.{Leads}
use Rattle.cap_outside.specs.declared.opened.Opened.{Opened}
use Rattle.cap_outside.specs.declared.outlet.Outlet.{Ghosts as OutletMeaning}
use Rattle.cap_outside.specs.declared.sink.Sink.{Ghosts as SinkMeaning}
use Rattle.cap_outside.specs.declared.source.Source.{Ghosts as SourceMeaning}
use Rattle.mode_base.specs.Outlets.{DidFront, DidSome}
use Rattle.mode_base.specs.Reading.{WasRead}
use Rattle.mode_base.specs.declared.unread.Unread.{Unread}
use Rattle.mode_base.specs.declared.unread.Unread.TheVariants as unread
use Rattle.ring_join.specs.declared.fault.JoinFault.{JoinFault}
use Rattle.ring_join.specs.declared.fault.JoinFault.TheVariants as fault
use Rattle.ring_join.specs.Whole.{WholeBlock, text, packets}
use Rattle.ring_join.specs.Joined.{joined_so_far, EachContinues}
use Rattle.ring_join.specs.Adding.{Known, known_behind_all, input_defect, Adds, Breaks, Differs}
use Rattle.join_mode.specs.declared.stop.Stop.{Stop}
use Rattle.join_mode.specs.declared.stop.Stop.TheVariants as stop
use Rattle.mode_base.specs.Sources.{open_failed_line, read_failed_line}
use Rattle.mode_base.specs.Written.{WroteWhole, WrotePrefix}
use Rattle.join_mode.specs.Lines.{defect_line, difference_line}
use Rattle.join_mode.specs.Joining.{name_of, IsRead, AreJoined, Inputs, IsMissing, IsBegun, WasFinished, WroteTo, whole_effects}

-- ---- why a joining stops

abbrev pub stop_by : Unread → Stop
stop_by unread.Failed = stop.Unreadable
stop_by unread.NoMemory = stop.NoMemory

abbrev pub stop_of : JoinFault → Stop
stop_of (fault.Bad what at) = stop.Bad what at
stop_of (fault.Differ number) = stop.Differ number
stop_of fault.File = stop.File
stop_of fault.NoMemory = stop.NoMemory

-- ---- one source

-- it was read, and its file joined
pub record Joins {S L : Type 0} (read : S → List ℕ → Type 0) (stands_for : L → List Effect → Type 0) (known next : Known) (source : S) (l0 l1 : L) (count : ℕ) : Type 0 where
  pub content : List ℕ
  pub given : read source content
  pub adds : Adds stands_for known content l0 l1 next count

-- why it wasn't
abbrev pub Stops : {S L : Type 0} → (S → List ℕ → Type 0) → (S → ℕ) → (L → List Effect → Type 0) → (L → ℕ) → Known → Known → S → L → L → Stop → Type 0
Stops read faults stands_for file_faults known next source l0 l1 stop.Unopened = ⊥
Stops read faults stands_for file_faults known next source l0 l1 stop.Unreadable = (faults source ≡ 1) × (l1 ≡ l0)
Stops read faults stands_for file_faults known next source l0 l1 (stop.Bad what at) = (content : List ℕ) × read source content × (input_defect content ≡ Some (what, at)) × (l1 ≡ l0)
Stops read faults stands_for file_faults known next source l0 l1 (stop.Differ number) = (content : List ℕ) × read source content × (input_defect content ≡ None) × Differs known content number × (l1 ≡ l0)
Stops read faults stands_for file_faults known next source l0 l1 stop.File = (content : List ℕ) × read source content × Breaks stands_for known content l0 l1 next × (file_faults l1 ≡ one_higher (file_faults l0))
Stops read faults stands_for file_faults known next source l0 l1 stop.NoMemory = (faults source ≡ 0) × (l1 ≡ l0)

-- all bytes of a source, or of more than 2^30 one more
abbrev pub ReadBy : {S : Type 0} → SourceMeaning S → S → List ℕ → Type 0
ReadBy source = WasRead (2 ^ 30) source.taken source.left source.faults source.ends

abbrev pub JoinsOne : {S L : Type 0} → SourceMeaning S → OutletMeaning L → Known → Known → S → L → L → ℕ → Type 0
JoinsOne source outlet known next s l0 l1 count = Joins (ReadBy source) outlet.stands_for known next s l0 l1 count

abbrev pub StopsAtOne : {S L : Type 0} → SourceMeaning S → OutletMeaning L → Known → Known → S → L → L → Stop → Type 0
StopsAtOne source outlet known next s l0 l1 why = Stops (ReadBy source) source.faults outlet.stands_for outlet.file_faults known next s l0 l1 why

-- ---- one input

-- what came of a source that was asked for
abbrev pub OutcomeIs : {S L : Type 0} → (S → List ℕ → Type 0) → (S → ℕ) → (L → List Effect → Type 0) → (L → ℕ) → Known → Known → L → L → Option S → Result ℕ Stop → Type 0
OutcomeIs read faults stands_for file_faults known next l0 l1 None (Err stop.Unopened) = l1 ≡ l0
OutcomeIs read faults stands_for file_faults known next l0 l1 None other = ⊥
OutcomeIs read faults stands_for file_faults known next l0 l1 (Some source) (Ok count) = Joins read stands_for known next source l0 l1 count
OutcomeIs read faults stands_for file_faults known next l0 l1 (Some source) (Err why) = Stops read faults stands_for file_faults known next source l0 l1 why

abbrev pub ComesTo : {S L : Type 0} → SourceMeaning S → OutletMeaning L → Known → Known → L → L → Option S → Result ℕ Stop → Type 0
ComesTo source outlet known next l0 l1 s outcome = OutcomeIs (ReadBy source) source.faults outlet.stands_for outlet.file_faults known next l0 l1 s outcome

-- ---- inputs, one after another

-- The files of these names were joined.
pub record Progress {S L : Type 0} (read : Opened S → List ℕ → Type 0) (stands_for : L → List Effect → Type 0) (names : List (List ℕ)) (sources : List (Opened S)) (l0 l1 : L) (known : Known) (count : ℕ) : Type 0 where
  pub files : List (List WholeBlock)
  pub named : map name_of sources ≡ names
  pub each : AreJoined read sources files
  pub continued : EachContinues [] files
  pub known_is : known ≡ known_behind_all files
  pub did : Leads stands_for l0 l1 (bytes (text (joined_so_far files)))
  pub counted : count ≡ length (flat_map packets files)

-- at which input a joining stopped, behind the files before it, and what was done: where none failed but an input, or memory
-- ran out at one, where a call on the file failed, and where memory ran out elsewhere
abbrev pub HaltIs : {S : Type 0} → (Opened S → List ℕ → Type 0) → (S → ℕ) → List (List WholeBlock) → Option (Opened S) → Type 0 → Type 0 → Type 0 → Stop → Type 0
HaltIs read faults files stopped did failed starved stop.Unopened = IsMissing stopped × did
HaltIs read faults files stopped did failed starved stop.Unreadable = IsSomeAnd stopped (λ s. IsSomeAnd s.source (λ source. faults source ≡ 1)) × did
HaltIs read faults files stopped did failed starved (stop.Bad what at) = IsSomeAnd stopped (λ s. (content : List ℕ) × read s content × (input_defect content ≡ Some (what, at))) × did
HaltIs read faults files stopped did failed starved (stop.Differ number) = IsSomeAnd stopped (λ s. (content : List ℕ) × read s content × (input_defect content ≡ None) × Differs (known_behind_all files) content number) × did
HaltIs read faults files stopped did failed starved stop.File = (stopped ≡ None) × failed
HaltIs read faults files None did failed starved stop.NoMemory = starved
HaltIs read faults files (Some s) did failed starved stop.NoMemory = IsSomeAnd s.source (λ source. faults source ≡ 0) × did

-- The joining of files of these names stopped.
pub record Halted {S : Type 0} (read : Opened S → List ℕ → Type 0) (faults : S → ℕ) (did failed starved : List (List WholeBlock) → Type 0) (names : List (List ℕ)) (sources : List (Opened S)) (why : Stop) : Type 0 where
  pub files : List (List WholeBlock)
  pub stopped : Option (Opened S)
  pub unopened : List (List ℕ)
  pub inputs : Inputs read names sources files stopped unopened
  pub halt : HaltIs read faults files stopped (did files) (failed files) (starved files) why

-- It stopped among the inputs: what the files before add was done.
abbrev pub HaltedAmong : {S L : Type 0} → SourceMeaning S → OutletMeaning L → List (List ℕ) → List (Opened S) → L → L → Stop → Type 0
HaltedAmong source outlet names sources l0 l1 why = Halted (IsRead source) source.faults
    (λ files. Leads outlet.stands_for l0 l1 (bytes (text (joined_so_far files))))
    (λ files. DidFront outlet.stands_for l0 l1 (bytes (text (joined_so_far files))))
    (λ files. Leads outlet.stands_for l0 l1 (bytes (text (joined_so_far files)))) names sources why

-- It stopped before the output was finished.
abbrev pub HaltedBefore : {S L : Type 0} → SourceMeaning S → OutletMeaning L → List ℕ → List (List ℕ) → List (Opened S) → L → L → Stop → Type 0
HaltedBefore source outlet out names sources l0 l1 why = Halted (IsRead source) source.faults
    (λ files. IsBegun outlet out files l0 l1)
    (λ files. DidFront outlet.stands_for l0 l1 (whole_effects out files))
    (λ files. DidSome outlet.stands_for l0 l1 (whole_effects out files)) names sources why

-- All files were joined, with so many packets.
pub record Finishes {S L : Type 0} (read : Opened S → List ℕ → Type 0) (stands_for : L → List Effect → Type 0) (out : List ℕ) (names : List (List ℕ)) (sources : List (Opened S)) (l0 l1 : L) (count : ℕ) : Type 0 where
  pub files : List (List WholeBlock)
  pub named : map name_of sources ≡ names
  pub each : AreJoined read sources files
  pub continued : EachContinues [] files
  pub did : Leads stands_for l0 l1 (whole_effects out files)
  pub counted : count ≡ length (flat_map packets files)

-- the exit, and the line, of an input that stopped a joining
abbrev pub exit_of : Stop → ℕ
exit_of stop.Unopened = 2
exit_of stop.Unreadable = 2
exit_of (stop.Bad what at) = 7
exit_of (stop.Differ number) = 9
exit_of stop.File = 3
exit_of stop.NoMemory = 5

abbrev pub stop_line : Stop → List ℕ → List ℕ
stop_line stop.Unopened name = open_failed_line name
stop_line stop.Unreadable name = read_failed_line name
stop_line (stop.Bad what at) name = defect_line what at name
stop_line (stop.Differ number) name = difference_line number name
stop_line other name = []

-- an input stopped it
abbrev pub IsOfInput : Stop → Type 0
IsOfInput stop.File = ⊥
IsOfInput stop.NoMemory = ⊥
IsOfInput other = Unit {0}

-- its line takes memory
abbrev pub NeedsMemory : Stop → Type 0
NeedsMemory (stop.Bad what at) = Unit {0}
NeedsMemory (stop.Differ number) = Unit {0}
NeedsMemory other = ⊥

-- What was done for a stop: the output was finished and the line written, unless memory ran out for the line.
abbrev pub EndsBy : {L K : Type 0} → OutletMeaning L → SinkMeaning K → Stop → List ℕ → L → L → K → K → ℕ → Type 0
EndsBy outlet note why name l0 l1 k0 k1 exit =
    ((exit ≡ exit_of why) × IsOfInput why × WasFinished outlet [] l0 l1 × WroteTo note k0 k1 (stop_line why name))
    ⊎ (((exit ≡ exit_of why) × (IsOfInput why → ⊥) × (l1 ≡ l0) × (k1 ≡ k0))
    ⊎ ((exit ≡ 5) × NeedsMemory why × (l1 ≡ l0) × (k1 ≡ k0)))

-- the opener failed where an input couldn't be opened, and else didn't
abbrev pub OpenCause : {T : Type 0} → ℕ → ℕ → Result T Stop → Type 0
OpenCause before now (Err stop.Unopened) = now ≡ one_higher before
OpenCause before now other = now ≡ before

-- a call on the file failed, or none did
abbrev pub FileCause : {T : Type 0} → ℕ → ℕ → Result T Stop → Type 0
FileCause before now (Err stop.File) = now ≡ one_higher before
FileCause before now other = now ≡ before

-- the lines were written, or not whole, or memory ran out for them
abbrev pub ReportIs : {K : Type 0} → (K → Option (List ℕ)) → (K → ℕ) → K → K → List ℕ → ℕ → Type 0
ReportIs written faults k0 k1 lines exit =
    ((exit ≡ 0) × WroteWhole written faults k0 k1 lines) ⊎ (((exit ≡ 4) × WrotePrefix written faults k0 k1 lines) ⊎ ((exit ≡ 5) × (k1 ≡ k0)))

-- the name of the last source, or another one where there is none
abbrev pub name_or : {S : Type 0} → Option (Opened S) → List ℕ → List ℕ
name_or (Some s) other = s.name
name_or None other = other

abbrev pub last_named : {S : Type 0} → List (Opened S) → List ℕ → List ℕ
last_named sources other = name_or (slice_get sources (length sources - 1)) other
