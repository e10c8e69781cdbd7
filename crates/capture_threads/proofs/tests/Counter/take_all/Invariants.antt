use Rattle.packet_queue.specs.Ends.{IsDrainOf}
use Rattle.capture_threads.proofs.tests.Counter.take_all.Given as goal

abbrev pub invariant-takes : goal.invariant-takes
invariant-takes g l =
    (goal.iterator-takes g).can_next l.iterator' × (goal.iterator-takes g).is_finite l.iterator' × IsDrainOf l.cell l.drain
