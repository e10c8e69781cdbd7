-- What so many sources need before their first turn.
use Rattle.std.specs.Prelude.{ℕ, ◌≡◌, ◌≤◌, ◌+◌, ◌^◌, [], length, vec_capacity}
use Rattle.cap_base.specs.declared.limits.Limits.{Limits}
use Rattle.turn_cell.specs.Passes.{start, callers, turns}
use Rattle.packet_queue.specs.Queue.{limits_of, sources_of}
use Rattle.packet_queue.specs.Ends.{IsDrainOf, drain_pass, mine}
use Rattle.capture_threads.specs.declared.capture.Prepared.{Prepared}
use Rattle.capture_threads.specs.inner.Places.{AreFreshPorts}

pub record IsPrepared {S : Type 0} (most : Limits) (count : ℕ) (p : Prepared S) : Type 0 where
  pub limits : limits_of (start p.cell) ≡ most
  pub sources : sources_of (start p.cell) ≡ count
  pub counts : (callers p.cell ≡ count + 1) × (turns p.cell ≡ 2 ^ 56)
  pub ports : AreFreshPorts p.cell 0 p.ports.items
  pub as_many : length p.ports.items ≡ count
  pub drain : IsDrainOf p.cell p.drain
  pub fresh : mine (drain_pass p.drain) ≡ []
  pub none_placed : p.places.items ≡ []
  pub room : count ≤ vec_capacity p.places
  pub none_ended : p.ended.items ≡ []
  pub room_ended : count ≤ vec_capacity p.ended
