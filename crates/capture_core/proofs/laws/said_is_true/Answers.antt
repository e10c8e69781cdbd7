use Rattle.capture_core.proofs.Announced.{said_is_true}
use Rattle.capture_core.proofs.laws.said_is_true.Goals as goal

pub returns : goal.returns
returns c = said_is_true
