-- What a capture's threads leave: the one history of its sources and its writer.
use Rattle.std.specs.Prelude.{ℕ, ◌≡◌, ◌≤◌, ◌^◌, ◌||◌, Bool, true, false, List, length, Option}
use Rattle.std.specs.List.{list_any}
use Rattle.cap_base.specs.Callers.{own}
use Rattle.cap_base.specs.Legal.{Legal}
use Rattle.cap_base.specs.declared.endings.How.{How}
use Rattle.cap_base.specs.declared.endings.How.TheVariants as how
use Rattle.cap_base.specs.declared.entries.Entry.{Entry}
use Rattle.cap_base.specs.declared.limits.Limits.{Limits}
use Rattle.turn_cell.specs.declared.front.Front.{Front}
use Rattle.turn_cell.specs.Passes.{history, turns_made}
use Rattle.packet_queue.specs.declared.queue.Queue.{Queue}
use Rattle.packet_queue.specs.declared.calls.Call.{Call}
use Rattle.packet_queue.specs.declared.calls.Reply.{Reply}
use Rattle.cap_outside.specs.declared.opened.Opened.{Opened}
use Rattle.source_thread.specs.declared.ended.Ended.{Ended}
use Rattle.source_thread.specs.Told.{SourceFacts}
use Rattle.source_thread.specs.Sources.{EachWasRead}

-- the history of a queue, behind its last turn
abbrev pub QueueFront : Type 0
QueueFront = Front Queue Call Reply Entry

-- a source ended since the turns were spent
abbrev pub is_worn_ending : How → Bool
is_worn_ending how.Worn = true
is_worn_ending other = false

abbrev pub ends_worn : {S : Type 0} → Ended S → Bool
ends_worn ended = is_worn_ending ended.how

-- What a capture left: the one history of its sources and its writer. It is legal, and each source's entries in it are
-- those of its bytes. Where turns were spent, of a source or of the writer (`worn`), it was made by all of them.
pub record IsCaptured {S : Type 0} (facts : Option S → SourceFacts) (snap : Option ℕ) (limits : Limits) (befores : List (Opened S)) (afters : List (Ended S)) (worn : Bool) (f : QueueFront) : Type 0 where
  pub legal : Legal limits (length befores) (history f)
  pub told : EachWasRead facts snap 0 befores afters (λ s. own s (history f))
  pub few : turns_made f ≤ 2 ^ 56
  pub spent : list_any ends_worn afters || worn ≡ true → turns_made f ≡ 2 ^ 56
