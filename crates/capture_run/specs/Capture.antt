-- What a capture gives back, where a front is given: the clause of `capture`.
use Rattle.std.specs.Prelude.{◌≡◌, ℕ, ◌^◌, ◌≤◌, ◌||◌, Bool, true, false, List, ◌++◌, length, Option}
use Rattle.std.specs.List.{list_any}
use Rattle.cap_base.specs.Callers.{own}
use Rattle.cap_base.specs.Effects.{Effect}
use Rattle.cap_base.specs.Histories.{History}
use Rattle.cap_base.specs.Legal.{Legal, stops_for}
use Rattle.cap_base.specs.declared.entries.Entry.{Entry}
use Rattle.cap_base.specs.declared.entries.Why.TheVariants.{FileFault, SyncFault, NoMemory}
use Rattle.cap_base.specs.declared.packet.Packet.{Packet}
use Rattle.cap_base.specs.declared.settings.Settings.{Settings}
use Rattle.cap_outside.specs.Causes.{one_higher}
use Rattle.cap_outside.specs.Told.{Leads}
use Rattle.turn_cell.specs.Passes.{history, turns_made}
use Rattle.capture_desk.specs.Laws.{packets_taken}
use Rattle.capture_core.specs.Writers.{writers_past}
use Rattle.capture_core.specs.Made.{FilesHold}
use Rattle.capture_core.specs.Headline.{Headline}
use Rattle.cap_outside.specs.declared.opened.Opened.{Opened}
use Rattle.source_thread.specs.declared.ended.Ended.{Ended}
use Rattle.source_thread.specs.Told.{SourceFacts}
use Rattle.writer_thread.specs.declared.writer_end.WriterEnd.{WriterEnd}
use Rattle.capture_threads.specs.Captures.{QueueFront, ends_worn}
use Rattle.capture_run.specs.Sources.{SourcesAre}

-- ---- the writer

-- What the writer says of its end, its entries, and the outlet's counts of failed calls before and after.
pub record WriterIs (w : WriterEnd) (mine : List Entry) (files0 files1 says0 says1 : ℕ) : Type 0 where
  -- it says that a call on files failed exactly where it made a Stop for that
  pub file_fault : w.file_fault ≡ list_any (stops_for FileFault) mine
  -- then the count of such calls is one higher: no call on files was made behind the one that failed
  pub file_cause : w.file_fault ≡ true → files1 ≡ one_higher files0
  -- and else none failed, so none was passed over
  pub file_seen : w.file_fault ≡ false → w.worn ≡ false → files1 ≡ files0
  -- it says that a message failed exactly where it made a Stop for that
  pub say_fault : w.say_fault ≡ list_any (stops_for SyncFault) mine
  -- then the count of failed messages is one higher: none was said behind the one that failed
  pub say_cause : w.say_fault ≡ true → says1 ≡ one_higher says0
  -- and else none failed, so none was passed over
  pub say_seen : w.say_fault ≡ false → w.worn ≡ false → says1 ≡ says0
  -- it says that memory was wanting exactly where it made a Stop for that
  pub no_memory : w.no_memory ≡ list_any (stops_for NoMemory) mine

-- a turn of a source or of the writer was refused
abbrev pub is_worn : {S : Type 0} → List (Ended S) → WriterEnd → Bool
is_worn sources w = list_any ends_worn sources || w.worn

-- ---- what a capture came to

-- All files were written whole.
pub record FilesWereKept (w : WriterEnd) : Type 0 where
  -- no call on files failed
  pub no_fault : w.file_fault ≡ false
  -- and the writer had memory
  pub had_memory : w.no_memory ≡ false

-- The capture went on until all sources had ended and the writer had taken all that they gave.
pub record CameToItsEnd {L C : Type 0} (stands_for : L → List Effect → Type 0) (has_read : C → List ℕ → Type 0) (s : Settings) (h : History) (l0 l1 : L) (c0 c1 : C) : Type 0 where
  -- the clock gave these readings
  pub readings : List ℕ
  pub clock : Leads has_read c0 c1 readings
  -- the outlet did this
  pub done : List Effect
  pub did : Leads stands_for l0 l1 done
  -- and that is what the history asks for, whatever call of the outlet failed: its files and messages, with the fates of all
  -- packets, the statistics, and what followers reach
  pub headline : Headline s readings h done

-- A turn was refused, so the turns were spent.
pub record IsSpent {L : Type 0} (stands_for : L → List Effect → Type 0) (s : Settings) (h : History) (made : ℕ) (l0 l1 : L) : Type 0 where
  -- all turns that a capture has were made
  pub all_turns : made ≡ 2 ^ 56
  -- the outlet did this
  pub done : List Effect
  pub did : Leads stands_for l0 l1 done
  -- the whole packet blocks of all files that were created in it, in order, have these packets
  pub packets : List Packet
  pub files : FilesHold done packets
  -- and they are the first ones of those that the writer's Takes were answered, in order
  pub later : List Packet
  pub taken : packets_taken (writers_past (length s.sources) h) ≡ packets ++ later

-- ---- the capture

-- What came back, of the sources that were handed in; the one history is that of the front. The outlet and the clock are
-- those before and after, and so are the outlet's counts of failed calls.
pub record CaptureIs {S L C : Type 0} (facts : Option S → SourceFacts) (stands_for : L → List Effect → Type 0) (has_read : C → List ℕ → Type 0)
    (s : Settings) (opened : List (Opened S)) (sources : List (Ended S)) (w : WriterEnd) (f : QueueFront) (l0 l1 : L) (c0 c1 : C) (files0 files1 says0 says1 : ℕ) : Type 0 where
  -- each entry is admitted for its caller, and has the answer that the entries before it call for
  pub legal : Legal s.limits (length s.sources) (history f)
  -- each source came back, and its entries are those of its bytes
  pub sources_are : SourcesAre facts s.snap 0 opened sources (history f)
  -- the writer's end is what its entries say, and its faults have their causes
  pub writer_is : WriterIs w (own (length s.sources) (history f)) files0 files1 says0 says1
  -- where no turn was refused, the capture came to its end
  pub ended : is_worn sources w ≡ false → CameToItsEnd stands_for has_read s (history f) l0 l1 c0 c1
  -- there were no more turns than a capture has
  pub few : turns_made f ≤ 2 ^ 56
  -- where a turn was refused all of them were made, and the files hold the first ones of the packets that the writer took
  pub spent : is_worn sources w ≡ true → IsSpent stands_for s (history f) (turns_made f) l0 l1
