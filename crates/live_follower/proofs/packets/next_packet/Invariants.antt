use Rattle.std.proofs.Common.{◌≡◌, [], length}
use Rattle.pcapng_pipe.specs.Pipe.{fed_count}
use Rattle.live_follower.specs.inner.Seeking.{GivesPackets}
use Rattle.live_follower.proofs.packets.next_packet.Given as goal

-- events that are no packets were given
abbrev pub invariant-steps : goal.invariant-steps
invariant-steps l = record {
  gives : GivesPackets l.initial.pipe l.pipe [];
  same : fed_count l.pipe ≡ fed_count l.initial.pipe;
}

abbrev pub decreases-steps : goal.decreases-steps
decreases-steps l = length l.pipe.kept
