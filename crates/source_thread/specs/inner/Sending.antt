-- What a source's end has taken on while the source is read.
use Rattle.std.specs.Prelude.{ℕ, ◌≡◌, ◌≤◌, ◌<◌, ◌^◌, Bool, true, false, List, [], ◌++◌, length, map, All, Option, Some, None}
use Rattle.std.specs.List.{list_any}
use Rattle.cap_base.specs.Events.{Event, packet}
use Rattle.cap_base.specs.Carried.{IsFitPacket}
use Rattle.cap_base.specs.declared.packet.Packet.{Packet}
use Rattle.cap_base.specs.declared.endings.How.{How}
use Rattle.cap_base.specs.declared.endings.How.TheVariants.{TooMany, NoMemory, Worn}
use Rattle.cap_base.specs.declared.entries.Entry.{Entry}
use Rattle.cap_base.specs.declared.entries.Verdict.{Verdict}
use Rattle.cap_base.specs.declared.entries.Verdict.TheVariants as V
use Rattle.cap_outside.specs.Told.{Grows, Tells}
use Rattle.cap_outside.specs.Causes.{one_higher}
use Rattle.turn_cell.specs.History.{StartsWith}
use Rattle.turn_cell.specs.Passes.{is_worn}
use Rattle.packet_queue.specs.Batches.{Contents, NotOffered, HasNumber}
use Rattle.packet_queue.specs.Ends.{QueueCell, IsPortOf, mine, port_pass, port_source, port_numbers}
use Rattle.source_thread.specs.declared.sender.Sender.{Sender}
use Rattle.source_thread.specs.declared.next.Next.{Next}
use Rattle.source_thread.specs.declared.next.Next.TheVariants.{Given, Waits, Broken}
use Rattle.source_thread.specs.declared.progress.Progress.{Progress}
use Rattle.source_thread.specs.declared.progress.Progress.TheVariants as progress
use Rattle.source_thread.specs.Told.{AreEntriesOf, is_flushed, is_refused, EndsAtRefusedJoin, ReadsNoFurther, SourceFacts, Entered}
use Rattle.source_thread.specs.Sources.{whole_of, may_be_at_end, may_have_failed, may_be_unopened}
use Rattle.source_thread.specs.inner.Readers.{State, StandsFor, IsDrained, IsWaiting, IsBad, Gives, ending_of_rest, events, fed_count, kept_of, name_of}

-- the entries that were made under the source's number
abbrev pub entries_of : Sender → List Entry
entries_of s = mine (port_pass s.port)

abbrev pub number_of : Sender → ℕ
number_of s = port_source s.port

-- the packets that wait
abbrev pub packets_in : Option Contents → List Packet
packets_in None = []
packets_in (Some b) = b.packets

abbrev pub waiting : Sender → List Packet
waiting s = packets_in s.batch

-- the batch can be filled and offered
abbrev pub IsFresh : Option Contents → Type 0
IsFresh None = Unit {0}
IsFresh (Some b) = NotOffered b

-- The sender's port is one of the cell, at most so many packets wait and can be offered, and it knows whether one was
-- flushed. It has no batch only where the turns are spent.
pub record IsSenderWith (most : ℕ) (c : QueueCell) (s : Sender) : Type 0 where
  pub port : IsPortOf c s.port
  pub few : length (waiting s) ≤ most
  pub joined : All (HasNumber (port_numbers s.port)) (waiting s)
  pub fit : All IsFitPacket (waiting s)
  pub fresh : IsFresh s.batch
  pub present : s.batch ≡ None → is_worn (port_pass s.port) ≡ true
  pub flushed : s.flushed ≡ list_any is_flushed (entries_of s)

-- fewer than 64 wait
abbrev pub IsSender : QueueCell → Sender → Type 0
IsSender c s = IsSenderWith 63 c s

-- each Join got a number
abbrev pub AllNumbered : Sender → Type 0
AllNumbered s = list_any is_refused (entries_of s) ≡ false

-- The sender was given these events: the first ones have entries, and the packets of the others wait.
pub record Holds (s : Sender) (given : List Event) : Type 0 where
  pub entered : List Event
  pub parts : given ≡ entered ++ map packet (waiting s)
  pub each : AreEntriesOf (number_of s) (port_numbers s.port) entered (entries_of s)

-- or the first of these, and the others are lost
pub record HoldsFront (s : Sender) (given : List Event) : Type 0 where
  pub front : List Event
  pub lost : List Event
  pub parts : given ≡ front ++ lost
  pub holds : Holds s front

-- what a call gave the sender, or tried to
abbrev pub Receives : Sender → Sender → List Event → Type 0
Receives old new more = (given : List Event) → Holds old given → Holds new (given ++ more)

abbrev pub ReceivesFront : Sender → Sender → List Event → Type 0
ReceivesFront old new more = (given : List Event) → Holds old given → HoldsFront new (given ++ more)

-- the source is the same, and its entries were only added to
pub record Keeps (old new : Sender) : Type 0 where
  pub number : number_of new ≡ number_of old
  pub grown : StartsWith (entries_of new) (entries_of old)

-- why a call broke off
abbrev pub IsBreak : How → Sender → Type 0
IsBreak NoMemory s = AllNumbered s
IsBreak TooMany s = EndsAtRefusedJoin (entries_of s) × (waiting s ≡ [])
IsBreak Worn s = (is_worn (port_pass s.port) ≡ true) × (waiting s ≡ [])
IsBreak other s = ⊥

abbrev pub is_flushed_verdict : Verdict → Bool
is_flushed_verdict V.Flushed = true
is_flushed_verdict other = false

-- the sender offered these packets, in order
pub record OffersMade (old new : Sender) (packets : List Packet) : Type 0 where
  pub more : List Entry
  pub added : entries_of new ≡ entries_of old ++ more
  pub each : AreEntriesOf (number_of old) (port_numbers old.port) (map packet packets) more

-- ---- with the reader

-- The reader gave events of the bytes b, and the sender has them.
pub record Sends (r : State) (s : Sender) (b : List ℕ) : Type 0 where
  pub given : List Event
  pub stands : StandsFor r b given
  pub holds : Holds s given

-- the sender has the events that the reader gave
abbrev pub IsGiven : State → Sender → Type 0
IsGiven r s = (b : List ℕ) × Sends r s b

-- the reader gave events, and the sender received them, or a front of them
pub record Passed (r0 r1 : State) (s0 s1 : Sender) : Type 0 where
  pub more : List Event
  pub gives : Gives r0 r1 more
  pub receives : Receives s0 s1 more

pub record PassedFront (r0 r1 : State) (s0 s1 : Sender) : Type 0 where
  pub more : List Event
  pub gives : Gives r0 r1 more
  pub receives : ReceivesFront s0 s1 more

-- what is known after one step
abbrev pub NextIs : State → State → Next → Type 0
NextIs old new Given = length (kept_of new) < length (kept_of old)
NextIs old new Waits = IsDrained new × IsWaiting new
NextIs old new Broken = IsDrained new × IsBad (ending_of_rest new)

-- ---- with the source

-- The source gave bytes since it had given t0; the reader was fed them, and the sender has the events that it gave.
pub record Reads (t0 t1 : Option (List ℕ)) (r : State) (s : Sender) : Type 0 where
  pub b : List ℕ
  pub gave : Grows t0 t1 b
  pub sends : Sends r s b
  pub no_further : ReadsNoFurther (name_of r) r.snap b (entries_of s)

-- the source gave bytes, and the sender has the first of their events
pub record ReadsFront (name : List ℕ) (snap : Option ℕ) (t0 t1 : Option (List ℕ)) (s : Sender) : Type 0 where
  pub b : List ℕ
  pub few : length b ≤ 2 ^ 62
  pub gave : Grows t0 t1 b
  pub front : List Event
  pub behind : List Event
  pub parts : events name snap b ≡ front ++ behind
  pub holds : Holds s front
  pub no_further : ReadsNoFurther name snap b (entries_of s)

-- what is known of the counts after one read, and of the reader and the sender
abbrev pub ReadIs : Progress → State → State → Sender → Option (List ℕ) → ℕ → ℕ → ℕ → ℕ → Type 0
ReadIs progress.Took old new s left ends0 ends1 faults0 faults1 = IsWaiting new × (fed_count old < fed_count new) × (ends1 ≡ ends0) × (faults1 ≡ faults0)
ReadIs progress.Ended old new s left ends0 ends1 faults0 faults1 = IsWaiting new × (list_any is_flushed (entries_of s) ≡ false) × (ends1 ≡ one_higher ends0) × Tells left [] × (faults1 ≡ faults0) × (fed_count new ≡ fed_count old)
ReadIs progress.Failed old new s left ends0 ends1 faults0 faults1 = IsWaiting new × (list_any is_flushed (entries_of s) ≡ false) × (faults1 ≡ one_higher faults0) × (ends1 ≡ ends0)
ReadIs progress.Broken old new s left ends0 ends1 faults0 faults1 = IsBad (ending_of_rest new) × (ends1 ≡ ends0) × (faults1 ≡ faults0)

-- What a source came to, but for its End: as `SourceTold` has it.
pub record SourceEntered (s : ℕ) (name : List ℕ) (snap : Option ℕ) (how : How) (old new : SourceFacts) (entries : List Entry) : Type 0 where
  pub b : List ℕ
  pub gave : Grows old.taken new.taken b
  pub entered : Entered s name snap b how old new entries
  pub same : new.opened ≡ old.opened
  pub content : whole_of new.taken new.left ≡ whole_of old.taken old.left
  pub at_end : may_be_at_end how ≡ false → new.ends ≡ old.ends
  pub failed : may_have_failed how ≡ false → new.faults ≡ old.faults
  pub unopened : old.opened ≡ false → may_be_unopened how ≡ true
