-- What a joining of files did.
use Rattle.std.specs.Prelude.{ℕ, ◌≡◌, ◌≤◌, ◌^◌, ◌⊎◌, ◌↔◌, true, false, List, [], ◌∷◌, ◌++◌, length, map, Option, Some, None, IfSome, IsSomeAnd, IsNone}
use Rattle.std.specs.Option.{option_to_list}
use Rattle.cap_base.specs.Effects.{Effect, created, bytes, finished}
use Rattle.cap_outside.specs.Causes.{one_higher}
use Rattle.cap_outside.specs.Told.{Leads}
use Rattle.cap_outside.specs.declared.opened.Opened.{Opened}
use Rattle.cap_outside.specs.declared.opener.Opener.{Ghosts as OpenerMeaning}
use Rattle.cap_outside.specs.declared.outlet.Outlet.{Ghosts as OutletMeaning}
use Rattle.cap_outside.specs.declared.sink.Sink.{Ghosts as SinkMeaning}
use Rattle.cap_outside.specs.declared.source.Source.{Ghosts as SourceMeaning}
use Rattle.mode_base.specs.Outlets.{DidFront, DidSome}
use Rattle.mode_base.specs.Reading.{WasRead}
use Rattle.mode_base.specs.Sources.{whole_of, WasUnreadable, unreadable_line}
use Rattle.mode_base.specs.Written.{WroteWhole, WrotePrefix, Wrote}
use Rattle.pcapng_grammar.specs.declared.fault.What.{What}
use Rattle.ring_join.specs.Whole.{WholeBlock, IsFileOf, text}
use Rattle.ring_join.specs.Joined.{joined_so_far, joined, EachContinues}
use Rattle.ring_join.specs.Adding.{input_defect, known_behind_all, Differs}
use Rattle.join_mode.specs.declared.joined.Joined.{Joined}
use Rattle.join_mode.specs.Lines.{defect_line, difference_line, joined_lines}

-- ---- the objects of a joining

-- what their traits tell of them
pub record Meanings (O S L K : Type 0) : Type 1 where
  pub opener : OpenerMeaning O S
  pub source : SourceMeaning S
  pub outlet : OutletMeaning L
  pub note : SinkMeaning K

abbrev pub meanings : {O S L K : Type 0} → OpenerMeaning O S → SourceMeaning S → OutletMeaning L → SinkMeaning K → Meanings O S L K
meanings opener source outlet note = record { opener = opener; source = source; outlet = outlet; note = note }

-- the objects at a moment
pub record Objects (O L K : Type 0) : Type 0 where
  pub opener : O
  pub outlet : L
  pub note : K

abbrev pub objects : {O L K : Type 0} → O → L → K → Objects O L K
objects opener outlet note = record { opener = opener; outlet = outlet; note = note }

-- ---- inputs

abbrev pub name_of : {S : Type 0} → Opened S → List ℕ
name_of s = s.name

-- A source was opened, and these are all its bytes: no read failed, and one gave nothing, the last; of more than 2^30 bytes
-- they are one more.
pub record IsRead {S : Type 0} (meaning : SourceMeaning S) (s : Opened S) (content : List ℕ) : Type 0 where
  pub source : S
  pub there : s.source ≡ Some source
  pub given : WasRead (2 ^ 30) meaning.taken meaning.left meaning.faults meaning.ends source content

-- and they are the file of these blocks
pub record IsJoined {S : Type 0} (read : Opened S → List ℕ → Type 0) (s : Opened S) (file : List WholeBlock) : Type 0 where
  pub content : List ℕ
  pub given : read s content
  pub few : length content ≤ 2 ^ 30
  pub is : IsFileOf content file

-- each source and its file, in order
abbrev pub AreJoined : {S : Type 0} → (Opened S → List ℕ → Type 0) → List (Opened S) → List (List WholeBlock) → Type 0
AreJoined read [] [] = Unit {0}
AreJoined read (s ∷ sources) (file ∷ files) = IsJoined read s file × AreJoined read sources files
AreJoined read sources files = ⊥

-- The sources that were asked for: those of the files that were joined, and at most one more, at which the joining stopped.
-- Behind it none was.
pub record Inputs {S : Type 0} (read : Opened S → List ℕ → Type 0) (names : List (List ℕ)) (sources : List (Opened S)) (files : List (List WholeBlock)) (stopped : Option (Opened S)) (unopened : List (List ℕ)) : Type 0 where
  pub whole : List (Opened S)
  pub parts : sources ≡ whole ++ option_to_list stopped
  pub named : names ≡ map name_of sources ++ unopened
  pub each : AreJoined read whole files
  pub continued : EachContinues [] files

-- A source gives in all what the opener has under its name, where that is told.
abbrev pub GivesContent : {S : Type 0} → (List ℕ → Option (List ℕ)) → (S → Option (List ℕ)) → (S → Option (List ℕ)) → Opened S → Type 0
GivesContent content taken left s = IfSome (content s.name) (λ b. IfSome s.source (λ source. whole_of (taken source) (left source) ≡ Some b))

-- ---- the output

-- the joined file
abbrev pub whole_effects : List ℕ → List (List WholeBlock) → List Effect
whole_effects out files = created out ∷ (bytes (text (joined files)) ++ finished ∷ [])

-- what stands of it behind these files, without statistics
abbrev pub begun_effects : List ℕ → List (List WholeBlock) → List Effect
begun_effects out files = created out ∷ bytes (text (joined_so_far files))

-- That much was done, and the file isn't finished.
abbrev pub IsBegun : {L : Type 0} → OutletMeaning L → List ℕ → List (List WholeBlock) → L → L → Type 0
IsBegun outlet out files l0 l1 = Leads outlet.stands_for l0 l1 (begun_effects out files) × (outlet.has_file l1 ≡ true)

-- Behind these effects the file was finished as it stands, or that failed.
abbrev pub WasFinished : {L : Type 0} → OutletMeaning L → List Effect → L → L → Type 0
WasFinished outlet effects l0 l1 =
    (Leads outlet.stands_for l0 l1 (effects ++ finished ∷ []) × (outlet.has_file l1 ≡ false) × (outlet.file_faults l1 ≡ outlet.file_faults l0))
    ⊎ (Leads outlet.stands_for l0 l1 effects × (outlet.has_file l1 ≡ true) × (outlet.file_faults l1 ≡ one_higher (outlet.file_faults l0)))

-- ---- the input at which a joining stopped

abbrev pub IsUnreadable : {S : Type 0} → (S → ℕ) → Option (Opened S) → Type 0
IsUnreadable faults None = ⊥
IsUnreadable faults (Some s) = WasUnreadable faults s.source

-- it has this first defect
pub record HasDefect {S : Type 0} (read : Opened S → List ℕ → Type 0) (wrote : List ℕ → Type 0) (s : Opened S) : Type 0 where
  pub content : List ℕ
  pub given : read s content
  pub what : What
  pub at : ℕ
  pub first : input_defect content ≡ Some (what, at)
  pub line : wrote (defect_line what at s.name)

-- it is a file, whose descriptions don't begin with those of the file before it
pub record HasDifference {S : Type 0} (read : Opened S → List ℕ → Type 0) (wrote : List ℕ → Type 0) (files : List (List WholeBlock)) (s : Opened S) : Type 0 where
  pub content : List ℕ
  pub given : read s content
  pub number : ℕ
  pub defectless : input_defect content ≡ None
  pub first : Differs (known_behind_all files) content number
  pub line : wrote (difference_line number s.name)

-- it couldn't be opened
abbrev pub IsMissing : {S : Type 0} → Option (Opened S) → Type 0
IsMissing None = ⊥
IsMissing (Some s) = IsNone s.source

-- ---- the joining

abbrev pub IsJoinExit : ℕ → Type 0
IsJoinExit exit = (exit ≡ 0) ⊎ ((exit ≡ 2) ⊎ ((exit ≡ 3) ⊎ ((exit ≡ 4) ⊎ ((exit ≡ 5) ⊎ ((exit ≡ 7) ⊎ (exit ≡ 9))))))

-- an input stopped it
abbrev pub IsStopExit : ℕ → Type 0
IsStopExit exit = (exit ≡ 2) ⊎ ((exit ≡ 7) ⊎ (exit ≡ 9))

-- what was written to the sink of the lines
abbrev pub WroteTo : {K : Type 0} → SinkMeaning K → K → K → List ℕ → Type 0
WroteTo note k0 k1 = Wrote note.written note.faults k0 k1

-- Files of these names joined into one of the name `out`. The files that were joined, the input at which the joining
-- stopped, where one did, and the names that weren't asked for, are told by what the sources gave.
pub record JoinIs {O S L K : Type 0} (m : Meanings O S L K) (out : List ℕ) (names : List (List ℕ)) (result : Joined S) (a b : Objects O L K) : Type 0 where
  pub exits : IsJoinExit result.exit
  pub files : List (List WholeBlock)
  pub stopped : Option (Opened S)
  pub unopened : List (List ℕ)
  pub inputs : Inputs (IsRead m.source) names result.sources.items files stopped unopened
  -- each source that came back was asked for once, in order; the opener failed exactly where one is missing
  pub opened : Leads m.opener.opened a.opener b.opener (map name_of result.sources.items)
  pub missing : IsMissing stopped → m.opener.faults b.opener ≡ one_higher (m.opener.faults a.opener)
  pub there : (IsMissing stopped → ⊥) → m.opener.faults b.opener ≡ m.opener.faults a.opener
  pub once : IfSome stopped (λ s. IfSome s.source (λ source. m.source.faults source ≤ 1))
  -- all inputs were joined
  pub all : (result.exit ≡ 0) ⊎ (result.exit ≡ 4) → (stopped ≡ None) × (unopened ≡ [])
  pub all_done : (result.exit ≡ 0) ⊎ (result.exit ≡ 4) → Leads m.outlet.stands_for a.outlet b.outlet (whole_effects out files)
  pub zero_lines : result.exit ≡ 0 → WroteWhole m.note.written m.note.faults a.note b.note (joined_lines files)
  pub four_lines : result.exit ≡ 4 → WrotePrefix m.note.written m.note.faults a.note b.note (joined_lines files)
  -- an input couldn't be read, has a defect, or differs; exactly then these exits are given, unless memory ran out; and they
  -- stay where the output couldn't be finished
  pub stops : IsStopExit result.exit → WasFinished m.outlet (begun_effects out files) a.outlet b.outlet
  pub two : (result.exit ≡ 2) ↔ IsUnreadable m.source.faults stopped
  pub two_line : result.exit ≡ 2 → IfSome stopped (λ s. WroteTo m.note a.note b.note (unreadable_line s.source s.name))
  pub seven : result.exit ≡ 7 → IsSomeAnd stopped (HasDefect (IsRead m.source) (WroteTo m.note a.note b.note))
  pub nine : result.exit ≡ 9 → IsSomeAnd stopped (HasDifference (IsRead m.source) (WroteTo m.note a.note b.note) files)
  -- a call on the file failed: nothing is done behind it
  pub three : result.exit ≡ 3 → m.outlet.file_faults b.outlet ≡ one_higher (m.outlet.file_faults a.outlet)
  pub three_done : result.exit ≡ 3 → DidFront m.outlet.stands_for a.outlet b.outlet (whole_effects out files)
  pub three_none : result.exit ≡ 3 → (stopped ≡ None) × (b.note ≡ a.note)
  -- memory ran out: the first of what there was to do was done, or all of it, and nothing is done behind it; at an input,
  -- also where it is wanted for the line of one that has a defect or differs, the output isn't finished
  pub five_done : result.exit ≡ 5 → DidSome m.outlet.stands_for a.outlet b.outlet (whole_effects out files)
  pub five_begun : result.exit ≡ 5 → IfSome stopped (λ _. IsBegun m.outlet out files a.outlet b.outlet)
  pub five_none : result.exit ≡ 5 → b.note ≡ a.note
  -- else no call on the file failed
  pub unfailed : (result.exit ≡ 0) ⊎ ((result.exit ≡ 4) ⊎ (result.exit ≡ 5)) → m.outlet.file_faults b.outlet ≡ m.outlet.file_faults a.outlet
  pub closed : (result.exit ≡ 0) ⊎ (result.exit ≡ 4) → m.outlet.has_file b.outlet ≡ false
  pub unsaid : m.outlet.say_faults b.outlet ≡ m.outlet.say_faults a.outlet
