-- What a capture comes to: over its settings, the one history that its threads made, the readings of its clock, and what
-- its outlet did.
use Rattle.std.specs.Prelude.{◌≡◌, ℕ, ◌||◌, Bool, true, false, List, [], ◌++◌, length}
use Rattle.std.specs.List.{filter}
use Rattle.cap_base.specs.Callers.{own, tag}
use Rattle.cap_base.specs.Effects.{Effect}
use Rattle.cap_base.specs.Histories.{History, items, packets}
use Rattle.cap_base.specs.Fates.{owners, owns, written}
use Rattle.cap_base.specs.Legal.{Legal}
use Rattle.cap_base.specs.declared.packet.Packet.{Packet}
use Rattle.cap_base.specs.declared.settings.Settings.{Settings}
use Rattle.pcapng_grammar.specs.Files.{Grammatical}
use Rattle.capture_desk.specs.Past.{Past}
use Rattle.capture_desk.specs.Doing.{effects_of_acts}
use Rattle.capture_desk.specs.Due.{listener_lost}
use Rattle.capture_desk.specs.Acts.{acts}
use Rattle.capture_desk.specs.Orderly.{IsOrderly}
use Rattle.capture_desk.specs.Cuts.{is_cut, IsDoneFor}
use Rattle.capture_core.specs.Writers.{writers_past, EndsBehindDone}
use Rattle.capture_core.specs.Made.{FilesHold}
use Rattle.capture_core.specs.Fates.{EachHasItsFate}
use Rattle.capture_core.specs.Statistics.{AtEachFinish, EndsWithCounts}
use Rattle.capture_core.specs.Views.{FollowersReach}

-- The history and the outlet.
pub record IsRecorded (s : Settings) (readings : List ℕ) (h : History) (done : List Effect) : Type 0 where
  -- each entry is admitted for its caller, and has the answer that the entries before it call for: so a packet was dropped
  -- only where the queue stood at a limit, and flushed only behind a stop
  pub legal : Legal s.limits (length s.sources) h
  -- the writer's entries are in order up to the last one, and its Takes have the clock's readings
  pub orderly : IsOrderly s readings (writers_past (length s.sources) h)
  -- a Take was answered Done, and behind it no source has an entry
  pub done_comes : EndsBehindDone (length s.sources) h
  -- the outlet did what the writer's entries ask for, and nothing else; only a Stop for a fault leaves something out
  pub did : IsDoneFor s (writers_past (length s.sources) h) done

-- a call of the outlet failed, or memory was wanting
abbrev pub is_faulted : Past → Bool
is_faulted past = is_cut past || listener_lost past

-- What follows for the reader of the files.
pub record Headline (s : Settings) (readings : List ℕ) (h : History) (done : List Effect) : Type 0 where
  pub recorded : IsRecorded s readings h done
  -- each packet that was offered has exactly one fate: dropped, flushed, or written
  pub one_fate : EachHasItsFate h
  -- the whole packet blocks of all files, in order, have exactly the written packets
  pub written_once : FilesHold done (written h)
  -- those of a source are the first ones of its accepted offers, in the order of its calls
  pub in_order : (source : ℕ) → (later : List Packet) × (packets (items (tag source (own source h))) ≡ filter (λ p. owns (owners h) source p.iface) (written h) ++ later)
  -- each finished file is grammatical: a section header, then descriptions and packets of described interfaces, then the statistics of each interface
  pub grammatical : AtEachFinish Grammatical [] done
  -- each finished file ends with its statistics: the counts of the entries before its Tally, and of the whole history where Done stands before it
  pub statistics : AtEachFinish (EndsWithCounts (length s.sources) h) [] done
  -- with messages: wherever one was said whole that names a file or counts, those who follow the file reach what was announced of it
  pub followers : s.sync ≡ true → FollowersReach done
  -- where no call of the outlet failed and memory was enough, all acts were done
  pub all_done : is_faulted (writers_past (length s.sources) h) ≡ false → done ≡ effects_of_acts (acts s (writers_past (length s.sources) h))

-- all of it follows from what was recorded
abbrev pub RecordedIsHeadline : Type 0
RecordedIsHeadline = (s : Settings) (readings : List ℕ) (h : History) (done : List Effect) → IsRecorded s readings h done → Headline s readings h done
