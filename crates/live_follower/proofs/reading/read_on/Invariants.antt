use Rattle.std.proofs.Common.{◌≡◌, ◌+◌, [], length, ℕ, List}
use Rattle.pcapng_pipe.specs.Pipe.{fed_count}
use Rattle.live_follower.specs.Faults.{reading_end}
use Rattle.live_follower.specs.inner.Seeking.{Reads, Waits}
use Rattle.live_follower.specs.Seen.{seen_by, Quiet}
use Rattle.live_follower.specs.Asked.{Asks, ReadsInTurn}
use Rattle.live_follower.proofs.reading.read_on.Given as goal

-- bytes were read that hold no further packet
abbrev pub invariant-reads : goal.invariant-reads
invariant-reads g l = record {
  reads : Reads (g.V.View.shown l.fn.view l.name) l.fn.pipe l.pipe [];
  waits : Waits l.pipe;
  left : fed_count l.pipe + l.left ≡ reading_end l.budget l.fn.pipe;
  piece : length l.piece ≡ 65536;
  quiet : Quiet (seen_by g.V.View.shown g.V.View.absent g.V.View.ends g.V.View.faults l.fn.view l.view l.name);
  asked : Asks g.V.View.asked l.fn.view l.view (ReadsInTurn l.name (fed_count l.fn.pipe) (fed_count l.pipe));
  same : (other : List ℕ) → g.V.View.shown l.view other ≡ g.V.View.shown l.fn.view other;
}

abbrev pub decreases-reads : goal.decreases-reads
decreases-reads g l = l.left
