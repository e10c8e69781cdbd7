use Rattle.std.proofs.Common.{◌≡◌, ◌≤◌, ◌+◌, ◌-◌, [], ℕ, length, vec_capacity}
use Rattle.cap_base.specs.Callers.{own}
use Rattle.turn_cell.specs.Passes.{IsPassOf, Has, low, high, made}
use Rattle.capture_threads.specs.inner.Places.{AreFreshPorts}
use Rattle.capture_threads.proofs.sources.make_ports.Given as goal

-- the first sources have ports
abbrev pub invariant-ports : goal.invariant-ports
invariant-ports l = record {
  pass : IsPassOf l.cell l.pass;
  numbers : (low l.pass ≡ l.number) × (high l.pass ≡ l.sources + 1);
  fresh : (n : ℕ) → Has l.pass n → own n (made l.pass) ≡ [];
  made : AreFreshPorts l.cell 0 l.ports.items;
  count : length l.ports.items ≡ l.number;
  within : l.number ≤ l.sources;
  room : l.sources ≤ vec_capacity l.ports;
}

abbrev pub decreases-ports : goal.decreases-ports
decreases-ports l = l.sources - l.number
