-- A source's own entries: those of the events of its bytes, and why they end.
use Rattle.std.specs.Prelude.{ℕ, ◌≡◌, ◌≢◌, ◌≤◌, ◌<◌, ◌^◌, Bool, true, false, List, [], ◌∷◌, ◌++◌, length, take, slice_get, Option, Some, None}
use Rattle.std.specs.List.{list_any}
use Rattle.cap_base.specs.Events.{Event, interface, packet}
use Rattle.cap_base.specs.declared.endings.How.{How}
use Rattle.cap_base.specs.declared.endings.How.TheVariants.{Clean, Stopped, Cut, Bad, ReadFault, OpenFault, TooMany, TooLong, NoMemory, Worn}
use Rattle.cap_base.specs.declared.entries.Verdict.TheVariants as V
use Rattle.cap_base.specs.declared.entries.Entry.{Entry}
use Rattle.cap_base.specs.declared.entries.Entry.TheVariants as E
use Rattle.cap_outside.specs.Causes.{one_higher}
use Rattle.cap_outside.specs.Told.{Tells}
use Rattle.packet_queue.specs.Batches.{numbered}
use Rattle.packet_queue.specs.Ends.{joined_numbers}
use Rattle.source_reader.specs.Reading.{events, ending}
use Rattle.source_thread.specs.declared.reading.TheConstants.{PIECE_LEN}

-- ---- entries and events

-- The entry of an event of source s: a Join of the interface, or an Offer of the packet under the output number of its
-- interface, which isn't foreign. `numbers` are the output numbers of the source's interfaces, by the source's own number.
abbrev pub IsEntryOf : ℕ → List ℕ → Event → Entry → Type 0
IsEntryOf s numbers (interface i) (E.Join by j n) = (by ≡ s) × (j ≡ i)
IsEntryOf s numbers (packet p) (E.Offer by q v) = (by ≡ s) × (slice_get numbers p.iface ≡ Some q.iface) × (q ≡ numbered p q.iface) × (v ≢ V.Foreign)
IsEntryOf s numbers event entry = ⊥

-- one entry for each event, in order
abbrev pub AreEntriesOf : ℕ → List ℕ → List Event → List Entry → Type 0
AreEntriesOf s numbers [] [] = Unit {0}
AreEntriesOf s numbers (event ∷ events) (entry ∷ entries) = IsEntryOf s numbers event entry × AreEntriesOf s numbers events entries
AreEntriesOf s numbers events entries = ⊥

abbrev pub is_flushed : Entry → Bool
is_flushed (E.Offer s p V.Flushed) = true
is_flushed other = false

-- a Join that got no number
abbrev pub is_refused : Entry → Bool
is_refused (E.Join s i None) = true
is_refused other = false

-- ---- the source

-- what is known of a source at a moment: whether there is one, the bytes that it gave and will give, where it tells
-- them, and how often a read gave nothing and failed
pub record SourceFacts : Type 0 where
  pub opened : Bool
  pub taken : Option (List ℕ)
  pub left : Option (List ℕ)
  pub ends : ℕ
  pub faults : ℕ

-- ---- the ending

abbrev pub is_defect : How → Bool
is_defect (Bad code at) = true
is_defect other = false

-- all events have entries, each Join got a number, and the bytes have no defect
pub record AllEntered (end : How) (behind : List Event) (entries : List Entry) : Type 0 where
  pub all : behind ≡ []
  pub all_numbered : list_any is_refused entries ≡ false
  pub no_defect : is_defect end ≡ false

-- One read gave nothing, so nothing is left. Before it fewer bytes were taken than may be, and no packet was flushed.
pub record ReadToEnd (len : ℕ) (old new : SourceFacts) (entries : List Entry) : Type 0 where
  pub short : len < 2 ^ 62
  pub gave_nothing : new.ends ≡ one_higher old.ends
  pub none_left : Tells new.left []
  pub none_flushed : list_any is_flushed entries ≡ false

-- the last entry is a Join that got no number, and the only such
pub record EndsAtRefusedJoin (entries : List Entry) : Type 0 where
  pub before : List Entry
  pub last : Entry
  pub parts : entries ≡ before ++ last ∷ []
  pub refused : is_refused last ≡ true
  pub all_numbered : list_any is_refused before ≡ false

-- Why a source ended so, of the ending and number of the bytes that it gave, the events behind those that have entries,
-- its entries, and the source before and after.
abbrev pub IsCauseOf : How → How → ℕ → List Event → List Entry → SourceFacts → SourceFacts → Type 0
IsCauseOf Clean end len behind entries old new = (end ≡ Clean) × AllEntered end behind entries × ReadToEnd len old new entries
IsCauseOf (Cut at) end len behind entries old new = (end ≡ Cut at) × AllEntered end behind entries × ReadToEnd len old new entries
IsCauseOf (Bad code at) end len behind entries old new = (end ≡ Bad code at) × (behind ≡ []) × (list_any is_refused entries ≡ false)
IsCauseOf ReadFault end len behind entries old new = (new.faults ≡ one_higher old.faults) × AllEntered end behind entries × (list_any is_flushed entries ≡ false)
IsCauseOf TooLong end len behind entries old new = (len ≡ 2 ^ 62) × AllEntered end behind entries
IsCauseOf Stopped end len behind entries old new = (list_any is_flushed entries ≡ true) × (len < 2 ^ 62) × AllEntered end behind entries
IsCauseOf OpenFault end len behind entries old new = (old.opened ≡ false) × (entries ≡ [])
IsCauseOf TooMany end len behind entries old new = EndsAtRefusedJoin entries
IsCauseOf NoMemory end len behind entries old new = list_any is_refused entries ≡ false
IsCauseOf Worn end len behind entries old new = Unit {0}

-- No event that stands a piece or more before the end of the bytes was flushed: behind the piece with the first flushed
-- packet no byte was read.
abbrev pub ReadsNoFurther : List ℕ → Option ℕ → List ℕ → List Entry → Type 0
ReadsNoFurther name snap b entries = (front last : List ℕ) → b ≡ front ++ last → PIECE_LEN ≤ length last → list_any is_flushed (take (length (events name snap front)) entries) ≡ false

-- The Joins and Offers of source s, of this name, read with this snap length, which gave the bytes b and ended so: the
-- entries of the first events of b.
pub record Entered (s : ℕ) (name : List ℕ) (snap : Option ℕ) (b : List ℕ) (how : How) (old new : SourceFacts) (entries : List Entry) : Type 0 where
  pub few : length b ≤ 2 ^ 62
  pub front : List Event
  pub behind : List Event
  pub parts : events name snap b ≡ front ++ behind
  pub each : AreEntriesOf s (joined_numbers entries) front entries
  pub cause : IsCauseOf how (ending name b) (length b) behind entries old new
  pub no_further : ReadsNoFurther name snap b entries

-- the End of a source; none where the turns were spent
abbrev pub end_entry : ℕ → How → List Entry
end_entry s Worn = []
end_entry s other = E.End s other ∷ []

-- All entries of source s: its Joins and Offers, and one End behind them.
pub record Told (s : ℕ) (name : List ℕ) (snap : Option ℕ) (b : List ℕ) (how : How) (old new : SourceFacts) (all : List Entry) : Type 0 where
  pub entries : List Entry
  pub parts : all ≡ entries ++ end_entry s how
  pub entered : Entered s name snap b how old new entries
