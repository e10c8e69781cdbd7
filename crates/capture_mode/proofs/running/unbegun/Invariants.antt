use Rattle.std.proofs.Common.{◌≡◌, ◌≤◌, ◌+◌, ◌++◌, length, map, vec_capacity}
use Rattle.std.specs.Vec.Iter.{into_iter_items}
use Rattle.capture_mode.specs.inner.Opened.{unread}
use Rattle.capture_mode.proofs.running.unbegun.Given as goal

-- those that came back, and those that wait
abbrev pub invariant-sources : goal.invariant-sources
invariant-sources g l = record {
  back : l.sources.items ++ map unread (into_iter_items l.waiting) ≡ map unread l.fn.opened.items;
  room : length l.sources.items + length (into_iter_items l.waiting) ≤ vec_capacity l.sources;
}

abbrev pub decreases-sources : goal.decreases-sources
decreases-sources g l = length (into_iter_items l.waiting)
