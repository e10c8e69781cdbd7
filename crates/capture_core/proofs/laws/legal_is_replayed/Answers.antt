use Rattle.capture_core.proofs.Replayable.{can_be_replayed}
use Rattle.capture_core.proofs.laws.legal_is_replayed.Goals as goal

pub returns : goal.returns
returns c = can_be_replayed
