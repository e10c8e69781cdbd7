-- What passing on a source did, by the bytes that it gave.
use Rattle.std.specs.Prelude.{ℕ, ◌≡◌, ◌≢◌, ◌≤◌, ◌<◌, ◌^◌, ◌⊎◌, List, [], ◌∷◌, ◌++◌, length, Option}
use Rattle.cap_base.specs.Effects.{Effect, created, bytes, finished}
use Rattle.cap_base.specs.Endings.{IsOpen}
use Rattle.cap_base.specs.declared.endings.How.{How}
use Rattle.cap_base.specs.declared.endings.How.TheVariants.{Clean, Cut, Bad, ReadFault, TooMany, TooLong}
use Rattle.cap_base.specs.declared.limits.TheConstants.{MAX_INTERFACES}
use Rattle.cap_outside.specs.Told.{Leads, Tells}
use Rattle.cap_outside.specs.declared.outlet.Outlet.{Ghosts as OutletMeaning}
use Rattle.cap_outside.specs.declared.sink.Sink.{Ghosts as SinkMeaning}
use Rattle.cap_outside.specs.declared.source.Source.{Ghosts as SourceMeaning}
use Rattle.mode_base.specs.Outlets.{DidFront, DidSome}
use Rattle.mode_base.specs.Sources.{SourceFacts, IsAtEnd, GaveBytes, IsFailed, facts_by}
use Rattle.mode_base.specs.Written.{WroteWhole, WrotePrefix, Wrote}
use Rattle.pcapng_pipe.specs.Reading.{ending}
use Rattle.pcapng_pipe.specs.Pieces.{Piece, pieces}
use Rattle.pass_blocks.specs.Passer.{IsOneTooMany}
use Rattle.pass_blocks.specs.Text.{file_text, interfaces}
use Rattle.pass_mode.specs.Report.{report}

-- a finished file of this name with these pieces
abbrev pub file_effects : List ℕ → List Piece → List Effect
file_effects out ps = created out ∷ (bytes (file_text ps) ++ finished ∷ [])

-- ---- how the source ended

-- these are all pieces of the bytes, and no more interfaces than an output numbers
pub record AreAll (name source : List ℕ) (ps : List Piece) : Type 0 where
  pub all : pieces name source ≡ ps
  pub few : interfaces ps ≤ MAX_INTERFACES

-- the source was read to its end, and its bytes end so
pub record ReadToEnd (how : How) (name source : List ℕ) (ps : List Piece) (facts : SourceFacts) : Type 0 where
  pub ends : ending name source ≡ how
  pub written : AreAll name source ps
  pub short : length source < 2 ^ 62
  pub at_end : IsAtEnd facts

-- its bytes have a defect
pub record MetDefect (how : How) (name source : List ℕ) (ps : List Piece) (facts : SourceFacts) : Type 0 where
  pub ends : ending name source ≡ how
  pub written : AreAll name source ps
  pub gave : GaveBytes facts

-- a read failed
pub record ReadFailed (name source : List ℕ) (ps : List Piece) (facts : SourceFacts) : Type 0 where
  pub good : IsOpen (ending name source)
  pub written : AreAll name source ps
  pub short : length source < 2 ^ 62
  pub failed : IsFailed facts

-- it describes one interface more than an output numbers; what stands before that description was written
pub record DescribedTooMany (name source : List ℕ) (ps : List Piece) (facts : SourceFacts) : Type 0 where
  pub one : IsOneTooMany name source ps
  pub gave : GaveBytes facts

-- as many bytes were read as may be
pub record ReadTooLong (name source : List ℕ) (ps : List Piece) (facts : SourceFacts) : Type 0 where
  pub many : length source ≡ 2 ^ 62
  pub good : IsOpen (ending name source)
  pub written : AreAll name source ps
  pub gave : GaveBytes facts

-- why it ended so, of all bytes that it gave and the pieces of them that were written
abbrev pub IsCause : How → List ℕ → List ℕ → List Piece → SourceFacts → Type 0
IsCause Clean name source ps facts = ReadToEnd Clean name source ps facts
IsCause (Cut at) name source ps facts = ReadToEnd (Cut at) name source ps facts
IsCause (Bad code at) name source ps facts = MetDefect (Bad code at) name source ps facts
IsCause ReadFault name source ps facts = ReadFailed name source ps facts
IsCause TooMany name source ps facts = DescribedTooMany name source ps facts
IsCause TooLong name source ps facts = ReadTooLong name source ps facts
IsCause other name source ps facts = ⊥

-- ---- what was done

-- The source ended so, the file was finished, and the lines were written in such a way.
pub record Ended (how : How) (name out : List ℕ) (facts : SourceFacts) (did : List Effect → Type 0) (wrote : List ℕ → Type 0) : Type 0 where
  pub source : List ℕ
  pub written : List Piece
  pub told : Tells facts.taken source
  pub cause : IsCause how name source written facts
  pub file : did (file_effects out written)
  pub lines : wrote (report name how written)

-- It ended otherwise than cleanly.
pub record EndedEarly (name out : List ℕ) (facts : SourceFacts) (did : List Effect → Type 0) (wrote : List ℕ → Type 0) : Type 0 where
  pub how : How
  pub early : how ≢ Clean
  pub ended : Ended how name out facts did wrote

-- Of a file with the first pieces of its bytes so much was done.
pub record Broken (name out : List ℕ) (facts : SourceFacts) (did : List Effect → Type 0) : Type 0 where
  pub source : List ℕ
  pub front : List Piece
  pub behind : List Piece
  pub told : Tells facts.taken source
  pub parts : pieces name source ≡ front ++ behind
  pub few : interfaces front ≤ MAX_INTERFACES
  pub file : did (file_effects out front)

-- What was done with a source that was opened, by the exit. Exit 3: a call on the file failed, the last that was made, and
-- the file has the first bytes of the text. Exit 5: memory ran out, and the file, where it was created, has the first bytes
-- or all.
pub record PassedOn {L K : Type 0} (stands_for : L → List Effect → Type 0) (written : K → Option (List ℕ)) (write_faults : K → ℕ) (name out : List ℕ) (facts : SourceFacts) (l0 l1 : L) (k0 k1 : K) (exit : ℕ) : Type 0 where
  pub zero : exit ≡ 0 → Ended Clean name out facts (Leads stands_for l0 l1) (WroteWhole written write_faults k0 k1)
  pub two : exit ≡ 2 → EndedEarly name out facts (Leads stands_for l0 l1) (Wrote written write_faults k0 k1)
  pub three : exit ≡ 3 → Broken name out facts (DidFront stands_for l0 l1)
  pub three_lines : exit ≡ 3 → k1 ≡ k0
  pub four : exit ≡ 4 → Ended Clean name out facts (Leads stands_for l0 l1) (WrotePrefix written write_faults k0 k1)
  pub five : exit ≡ 5 → Broken name out facts (DidSome stands_for l0 l1)
  pub five_lines : exit ≡ 5 → k1 ≡ k0

-- the same, by what is seen of the source, of the file and of the lines
abbrev pub PassedBy : {S L K : Type 0} → SourceMeaning S → OutletMeaning L → SinkMeaning K → List ℕ → List ℕ → S → L → L → K → K → ℕ → Type 0
PassedBy source outlet note name out s l0 l1 k0 k1 exit =
    PassedOn outlet.stands_for note.written note.faults name out (facts_by source.taken source.left source.ends source.faults s) l0 l1 k0 k1 exit

-- the exits
abbrev pub IsPassExit : ℕ → Type 0
IsPassExit exit = (exit ≡ 0) ⊎ ((exit ≡ 2) ⊎ ((exit ≡ 3) ⊎ ((exit ≡ 4) ⊎ (exit ≡ 5))))
