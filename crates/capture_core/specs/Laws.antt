-- What holds of a legal history whose writer is in order, and of what the outlet did for it.
use Rattle.std.specs.Prelude.{◌≡◌, ℕ, ◌<◌, true, List, [], ◌∷◌, ◌++◌, length, map}
use Rattle.std.specs.List.{All}
use Rattle.cap_base.specs.Callers.{own}
use Rattle.cap_base.specs.Effects.{Effect}
use Rattle.cap_base.specs.Histories.{History}
use Rattle.cap_base.specs.Fates.{written, taken}
use Rattle.cap_base.specs.Legal.{Legal}
use Rattle.cap_base.specs.declared.packet.Packet.{Packet}
use Rattle.cap_base.specs.declared.settings.Settings.{Settings}
use Rattle.cap_base.specs.Events.{Event}
use Rattle.pcapng_grammar.specs.Files.{Grammatical}
use Rattle.capture_desk.specs.declared.acts.Act.{Act}
use Rattle.capture_desk.specs.declared.acts.Act.TheVariants.{Say}
use Rattle.cap_base.specs.declared.entries.Entry.{Entry}
use Rattle.capture_desk.specs.Past.{Past, past_of}
use Rattle.capture_desk.specs.Doing.{Place, IsPlace, done_at, effects_of_acts}
use Rattle.capture_desk.specs.Acts.{acts, piece_of}
use Rattle.capture_desk.specs.Orderly.{IsOrderlySoFar, IsOrderly}
use Rattle.capture_desk.specs.Cuts.{said_acts, up_to_cut, IsDoneFor}
use Rattle.capture_desk.specs.Laws.{AreSaid, packets_taken}
use Rattle.capture_core.specs.Writers.{writers_past, EndsBehindDone, EndsOnce}
use Rattle.capture_core.specs.Replaying.{CanTell}
use Rattle.capture_core.specs.Fates.{EachHasItsFate}
use Rattle.capture_core.specs.Made.{FilesHold}
use Rattle.capture_core.specs.Views.{MessagesAreTrue, nothing_known, ReadsFiles, ViewsReach, FollowersReach}
use Rattle.capture_core.specs.Statistics.{AtEachFinish, EndsWithCounts}

-- the packets that the writer was answered are those that the history counts as taken
abbrev pub TakenAreTheWriters : Type 0
TakenAreTheWriters = (s : Settings) (h : History) → Legal s.limits (length s.sources) h → packets_taken (writers_past (length s.sources) h) ≡ taken h

-- the whole packet blocks of all files, in order, are exactly the written packets
abbrev pub FilesHoldTheWritten : Type 0
FilesHoldTheWritten = (s : Settings) (h : History) (done : List Effect) → Legal s.limits (length s.sources) h → IsOrderlySoFar s (writers_past (length s.sources) h)
    → IsDoneFor s (writers_past (length s.sources) h) done → FilesHold done (written h)

-- where the writer's entries are in order up to their end, and each source ended once, a Take was answered Done, and behind it no source has an entry
abbrev pub DoneComes : Type 0
DoneComes = (s : Settings) (readings : List ℕ) (h : History) → Legal s.limits (length s.sources) h → IsOrderly s readings (writers_past (length s.sources) h)
    → ((source : ℕ) → source < length s.sources → EndsOnce (own source h)) → EndsBehindDone (length s.sources) h

-- behind Done each offered packet has its fate
abbrev pub FatesAreFinal : Type 0
FatesAreFinal = (s : Settings) (h : History) → Legal s.limits (length s.sources) h → EndsBehindDone (length s.sources) h → EachHasItsFate h

-- each finished file ends with the statistics of a Tally, whose counts are those of the entries before it
abbrev pub StatisticsAreCounts : Type 0
StatisticsAreCounts = (s : Settings) (h : History) (done : List Effect) → Legal s.limits (length s.sources) h → IsOrderlySoFar s (writers_past (length s.sources) h)
    → IsDoneFor s (writers_past (length s.sources) h) done → AtEachFinish (EndsWithCounts (length s.sources) h) [] done

-- With messages, each of them is true: the file that it names is the one that was created last, and each count makes the sum of the counts of this file the
-- number of packets that were put into it before.
abbrev pub SaidIsTrue : Type 0
SaidIsTrue = (s : Settings) (past : Past) → s.sync ≡ true → IsOrderlySoFar s past → MessagesAreTrue nothing_known (acts s past)

-- behind each message every honest view reaches what was announced, whatever effects come behind it, where a reader gives the packets of the blocks that were put
abbrev pub ViewsReachTheAnnounced : Type 0
ViewsReachTheAnnounced = (s : Settings) (h : History) (events : List ℕ → List Event) → Legal s.limits (length s.sources) h → s.sync ≡ true → IsOrderlySoFar s (writers_past (length s.sources) h) → ReadsFiles events
    → (before behind : List Act) (message : List ℕ) → acts s (writers_past (length s.sources) h) ≡ (before ++ Say message ∷ []) ++ behind → (rest : List Effect) → ViewsReach events (before ++ Say message ∷ []) rest

-- and so in what was done, also where a call failed
abbrev pub FollowersReachTheAnnounced : Type 0
FollowersReachTheAnnounced = (s : Settings) (h : History) (done : List Effect) → Legal s.limits (length s.sources) h → s.sync ≡ true → IsOrderlySoFar s (writers_past (length s.sources) h)
    → IsDoneFor s (writers_past (length s.sources) h) done → FollowersReach done

-- each finished file is grammatical
abbrev pub FinishedAreGrammatical : Type 0
FinishedAreGrammatical = (s : Settings) (h : History) (done : List Effect) → Legal s.limits (length s.sources) h → IsOrderlySoFar s (writers_past (length s.sources) h)
    → IsDoneFor s (writers_past (length s.sources) h) done → AtEachFinish Grammatical [] done

-- and so is each file that all acts finish
abbrev pub ActsAreGrammatical : Type 0
ActsAreGrammatical = (s : Settings) (h : History) → Legal s.limits (length s.sources) h → IsOrderlySoFar s (writers_past (length s.sources) h)
    → AtEachFinish Grammatical [] (effects_of_acts (acts s (writers_past (length s.sources) h)))

-- What was done up to a place in what the entries before the first failed call on files or want of memory ask for, with messages alone behind it, holds the
-- first ones of the packets that the writer took.
abbrev pub FrontsHoldTheFirst : Type 0
FrontsHoldTheFirst = (s : Settings) (h : History) (n : ℕ) (place : Place) (said : List Act) → Legal s.limits (length s.sources) h → IsOrderlySoFar s (up_to_cut (writers_past (length s.sources) h))
    → IsPlace place (said_acts (piece_of s) n (up_to_cut (writers_past (length s.sources) h))) → AreSaid said
    → (packets : List Packet) × (later : List Packet) × FilesHold (done_at place ++ effects_of_acts said) packets × (packets_taken (writers_past (length s.sources) h) ≡ packets ++ later)

-- What `replay` asks of a history's entries: each Take can be written, of all entries and of the writer's alone; and the writer's entries among all of
-- them are those that have the writer's number.
pub record CanBeReplayed (s : Settings) (h : History) : Type 0 where
  pub write : All CanTell (map (λ (x : ℕ × Entry). x.1) h)
  pub own_write : All CanTell (own (length s.sources) h)
  pub same : past_of h ≡ writers_past (length s.sources) h

-- a legal history can be replayed
abbrev pub LegalIsReplayed : Type 0
LegalIsReplayed = (s : Settings) (h : History) → Legal s.limits (length s.sources) h → CanBeReplayed s h
