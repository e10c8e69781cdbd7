use Rattle.std.proofs.Common.{◌≡◌, ◌≤◌, ◌+◌, ◌++◌, length, vec_capacity}
use Rattle.std.specs.Vec.Iter.{into_iter_items}
use Rattle.capture_threads.specs.inner.Places.{paired}
use Rattle.capture_threads.proofs.sources.place_sources.Given as goal

-- those that have places, and those that wait
abbrev pub invariant-places : goal.invariant-places
invariant-places g l = record {
  pairs : l.places.items ++ paired (into_iter_items l.ports) (into_iter_items l.waiting) ≡ paired l.fn.ports.items l.fn.opened.items;
  as_many : length (into_iter_items l.ports) ≡ length (into_iter_items l.waiting);
  room : length l.places.items + length (into_iter_items l.waiting) ≤ vec_capacity l.places;
}

abbrev pub decreases-places : goal.decreases-places
decreases-places g l = length (into_iter_items l.waiting)
