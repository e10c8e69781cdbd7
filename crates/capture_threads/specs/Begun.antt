-- A capture before its first turn.
use Rattle.std.specs.Prelude.{◌≡◌, ◌≤◌, ◌+◌, ◌^◌, List, [], length, vec_capacity}
use Rattle.cap_base.specs.declared.limits.Limits.{Limits}
use Rattle.turn_cell.specs.Passes.{start, callers, turns}
use Rattle.packet_queue.specs.Queue.{limits_of, sources_of}
use Rattle.packet_queue.specs.Ends.{IsDrainOf, drain_pass, mine}
use Rattle.cap_outside.specs.declared.opened.Opened.{Opened}
use Rattle.capture_threads.specs.declared.capture.Begun.{Begun}
use Rattle.capture_threads.specs.Places.{ArePlaced}

-- All is ready: the queue is empty, no thread has begun, and no end of the queue made a call.
pub record IsBegun {S : Type 0} (most : Limits) (befores : List (Opened S)) (b : Begun S) : Type 0 where
  pub limits : limits_of (start b.cell) ≡ most
  pub sources : sources_of (start b.cell) ≡ length befores
  pub counts : (callers b.cell ≡ length befores + 1) × (turns b.cell ≡ 2 ^ 56)
  pub placed : ArePlaced b.cell 0 befores b.places.items
  pub drain : IsDrainOf b.cell b.drain
  pub fresh : mine (drain_pass b.drain) ≡ []
  pub none_ended : b.ended.items ≡ []
  pub room : length befores ≤ vec_capacity b.ended
