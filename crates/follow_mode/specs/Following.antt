-- What following a capture did, by the bytes that its source gave and by what a view shows.
use Rattle.std.specs.Prelude.{ℕ, ◌≡◌, ◌≤◌, ◌<◌, ◌^◌, ◌⊎◌, List, [], ◌∷◌, ◌++◌, length, Option, Some, None, Result, Ok, Err}
use Rattle.cap_base.specs.declared.packet.Packet.{Packet}
use Rattle.cap_outside.specs.Told.{Tells}
use Rattle.cap_outside.specs.declared.sink.Sink.{Ghosts as SinkMeaning}
use Rattle.cap_outside.specs.declared.source.Source.{Ghosts as SourceMeaning}
use Rattle.cap_outside.specs.declared.view.View.{Ghosts as ViewMeaning}
use Rattle.sync_pipe.specs.declared.said.Said.{Said}
use Rattle.sync_pipe.specs.Heard.{heard}
use Rattle.mode_base.specs.Written.{WroteWhole, WrotePrefix, WroteLast}
use Rattle.mode_base.specs.Sources.{read_failed_line}
pub use Rattle.mode_base.specs.Sources.{SourceFacts, facts_by, IsAtEnd, GaveBytes, IsFailed}
use Rattle.live_follower.specs.Seen.{Stays}
use Rattle.follow_mode.specs.declared.fault.Fault.{Fault}
use Rattle.follow_mode.specs.declared.fault.Fault.TheVariants as fault
use Rattle.follow_mode.specs.declared.stop.Stop.{Stop}
use Rattle.follow_mode.specs.declared.stop.Stop.TheVariants as stop
use Rattle.follow_mode.specs.Lines.{fault_line}
use Rattle.follow_mode.specs.Transcript.{Entry, messages_of, given_of, lines_of, AreFirst, AreCaughtUp}
use Rattle.follow_mode.specs.Causes.{Watched, WasCalm, FileCause, watched_by}
use Rattle.follow_mode.specs.Ends.{EndsWhole, EndsInside}

-- how a run ends
abbrev pub End : Type 0
End = Result (Unit {0}) Stop

-- the exit number of an end
abbrev pub exit_of : End → ℕ
exit_of (Ok done) = 0
exit_of (Err stop.Unreadable) = 2
exit_of (Err stop.Unwritten) = 4
exit_of (Err stop.NoMemory) = 5
exit_of (Err (stop.Stuck why)) = 8

-- ---- the messages

-- All messages of the bytes were followed: behind each the packets that it announced were written.
pub record FollowedAll (w : Watched) (bytes : List ℕ) (entries : List Entry) (defect : Option ℕ) : Type 0 where
  pub heard_are : heard bytes ≡ (messages_of entries, defect)
  pub each : AreCaughtUp w.shown entries
  pub calm : WasCalm w

-- The first messages of the bytes were followed, and perhaps one more in part.
pub record FollowedPart (w : Watched) (bytes : List ℕ) (entries last : List Entry) : Type 0 where
  pub others : List Said
  pub messages : (heard bytes).0 ≡ messages_of (entries ++ last) ++ others
  pub each : AreCaughtUp w.shown entries
  pub one : length last ≤ 1
  pub first : AreFirst w.shown (entries ++ last)

-- ---- the ends

-- The source was read to its end, all its messages were followed and heard, and the lines were written.
pub record RanWhole (w : Watched) (source : SourceFacts) (hears : List Said → Type 0) (wrote : List ℕ → Type 0) : Type 0 where
  pub bytes : List ℕ
  pub entries : List Entry
  pub told : Tells source.taken bytes
  pub few : length bytes < 2 ^ 40
  pub at_end : IsAtEnd source
  pub followed : FollowedAll w bytes entries None
  pub ended : EndsWhole bytes
  pub heard_are : hears (messages_of entries)
  pub written : wrote (lines_of entries)

-- A read failed behind bytes all of whose messages were followed.
pub record RanToFailure (w : Watched) (source : SourceFacts) (wrote : List ℕ → List ℕ → Type 0) (line : List ℕ) : Type 0 where
  pub bytes : List ℕ
  pub entries : List Entry
  pub told : Tells source.taken bytes
  pub few : length bytes < 2 ^ 40
  pub failed : IsFailed source
  pub followed : FollowedAll w bytes entries None
  pub written : wrote (lines_of entries) line

-- A line couldn't be written whole: that of the last message, or of its last packet.
pub record RanUnwritten (w : Watched) (source : SourceFacts) (wrote : List ℕ → Type 0) : Type 0 where
  pub bytes : List ℕ
  pub entries : List Entry
  pub last : List Entry
  pub told : Tells source.taken bytes
  pub gave : GaveBytes source
  pub followed : FollowedPart w bytes entries last
  pub calm : WasCalm w
  pub written : wrote (lines_of (entries ++ last))

-- memory ran out: no read of the view gave nothing and none of its calls failed, or it was for the line of a fault
abbrev pub IsStarvedBy : Watched → List Said → List Packet → Type 0
IsStarvedBy w messages given = (Stays w.ends × Stays w.faults) ⊎ ((why : Fault) × FileCause w messages given why)

-- Memory ran out, and the lines before that were written.
pub record RanOut (w : Watched) (source : SourceFacts) (wrote : List ℕ → Type 0) : Type 0 where
  pub bytes : List ℕ
  pub entries : List Entry
  pub last : List Entry
  pub told : Tells source.taken bytes
  pub unfailed : source.faults ≡ 0
  pub followed : FollowedPart w bytes entries last
  pub why : IsStarvedBy w (messages_of (entries ++ last)) (given_of (entries ++ last))
  pub written : wrote (lines_of (entries ++ last))

-- The packets that a message announced can't be had.
pub record RanToFault (w : Watched) (source : SourceFacts) (wrote : List ℕ → List ℕ → Type 0) (why : Fault) : Type 0 where
  pub bytes : List ℕ
  pub entries : List Entry
  pub last : Entry
  pub told : Tells source.taken bytes
  pub gave : GaveBytes source
  pub followed : FollowedPart w bytes entries (last ∷ [])
  pub cause : FileCause w (messages_of (entries ++ last ∷ [])) (given_of (entries ++ last ∷ [])) why
  pub written : wrote (lines_of (entries ++ last ∷ [])) (fault_line why)

-- All messages before a defect were followed.
pub record RanToDefect (w : Watched) (source : SourceFacts) (wrote : List ℕ → List ℕ → Type 0) (at : ℕ) : Type 0 where
  pub bytes : List ℕ
  pub entries : List Entry
  pub told : Tells source.taken bytes
  pub gave : GaveBytes source
  pub followed : FollowedAll w bytes entries (Some at)
  pub written : wrote (lines_of entries) (fault_line (fault.BadMessage at))

-- The source was read to its end, and its bytes end inside a message.
pub record RanToCut (w : Watched) (source : SourceFacts) (wrote : List ℕ → List ℕ → Type 0) : Type 0 where
  pub bytes : List ℕ
  pub entries : List Entry
  pub told : Tells source.taken bytes
  pub few : length bytes < 2 ^ 40
  pub at_end : IsAtEnd source
  pub followed : FollowedAll w bytes entries None
  pub inside : EndsInside bytes
  pub written : wrote (lines_of entries) (fault_line fault.CutMessage)

-- As many bytes were read as a run may read, without an end.
pub record RanLong (w : Watched) (source : SourceFacts) (wrote : List ℕ → List ℕ → Type 0) : Type 0 where
  pub bytes : List ℕ
  pub entries : List Entry
  pub told : Tells source.taken bytes
  pub many : length bytes ≡ 2 ^ 40
  pub gave : GaveBytes source
  pub followed : FollowedAll w bytes entries None
  pub written : wrote (lines_of entries) (fault_line fault.SpentMessages)

-- a run that can't go on, by why
abbrev pub RanStuck : Watched → SourceFacts → (List ℕ → List ℕ → Type 0) → Fault → Type 0
RanStuck w source wrote (fault.BadMessage at) = RanToDefect w source wrote at
RanStuck w source wrote fault.CutMessage = RanToCut w source wrote
RanStuck w source wrote fault.SpentMessages = RanLong w source wrote
RanStuck w source wrote other = RanToFault w source wrote other

-- What was done, by how it ended. Of a text it is said that it was written whole or that only a prefix of it was, and of a
-- text and a last line that the text was written whole and then the line as far as no write failed. Of messages that were
-- all followed it is said what they were heard as.
abbrev pub Ran : {T : Type 0} → Watched → SourceFacts → (List Said → Type 0) → (List ℕ → Type 0) → (List ℕ → Type 0) → (List ℕ → List ℕ → Type 0) → List ℕ → Result T Stop → Type 0
Ran w source hears whole prefix last name (Ok done) = RanWhole w source hears whole
Ran w source hears whole prefix last name (Err stop.Unreadable) = RanToFailure w source last (read_failed_line name)
Ran w source hears whole prefix last name (Err stop.Unwritten) = RanUnwritten w source prefix
Ran w source hears whole prefix last name (Err stop.NoMemory) = RanOut w source whole
Ran w source hears whole prefix last name (Err (stop.Stuck why)) = RanStuck w source last why

-- What a run did whose source was opened.
pub record FollowedSource {K : Type 0} (written : K → Option (List ℕ)) (faults : K → ℕ) (name : List ℕ) (w : Watched) (source : SourceFacts) (k0 k1 : K) (exit : ℕ) : Type 0 where
  pub end : End
  pub number : exit ≡ exit_of end
  pub ran : Ran w source (λ messages. Unit {0}) (WroteWhole written faults k0 k1) (WrotePrefix written faults k0 k1) (WroteLast written faults k0 k1) name end

-- the same, by what is seen of the source, of the lines and of the view
abbrev pub FollowedBy : {S K V : Type 0} → SourceMeaning S → SinkMeaning K → ViewMeaning V → List ℕ → S → K → K → V → V → ℕ → Type 0
FollowedBy source note view name s k0 k1 v0 v1 exit =
    FollowedSource note.written note.faults name (watched_by view.shown view.absent view.ends view.faults v0 v1) (facts_by source.taken source.left source.ends source.faults s) k0 k1 exit

-- the exits of a run
abbrev pub IsFollowExit : ℕ → Type 0
IsFollowExit exit = (exit ≡ 0) ⊎ ((exit ≡ 2) ⊎ ((exit ≡ 4) ⊎ ((exit ≡ 5) ⊎ (exit ≡ 8))))
