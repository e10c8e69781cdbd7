use Rattle.std.proofs.Common.{length}
use Rattle.capture_threads.proofs.sources.+gather.Given as goal

abbrev pub decreases-gather : goal.decreases-gather
decreases-gather g l = length l.places.now
