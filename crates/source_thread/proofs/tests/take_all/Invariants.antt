use Rattle.packet_queue.specs.Ends.{IsDrainOf}
use Rattle.source_thread.proofs.tests.take_all.Given as goal

abbrev pub invariant-takes : goal.invariant-takes
invariant-takes g l = IsDrainOf l.cell l.drain
