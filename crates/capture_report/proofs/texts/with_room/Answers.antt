use Rattle.capture_report.proofs.Joined.{take_least}
use Rattle.capture_report.proofs.texts.with_room.Goals as goal

pub returns : goal.returns
returns c = take_least 65000 c.min.result c.args.bytes.now c.min.ensures
