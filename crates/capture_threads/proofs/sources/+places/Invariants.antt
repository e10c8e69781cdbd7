use Rattle.std.proofs.Common.{◌+◌, ◌*◌, length}
use Rattle.capture_threads.proofs.sources.+places.Given as goal

abbrev pub decreases-read_first-join_mut+arg3 : goal.decreases-read_first-join_mut+arg3
decreases-read_first-join_mut+arg3 g l = 3 * length l.rest.now + 1

abbrev pub decreases-read_first : goal.decreases-read_first
decreases-read_first g l = 3 * length l.rest.now + 2

abbrev pub decreases-read_each : goal.decreases-read_each
decreases-read_each g l = 3 * length l.places.now
