use Rattle.std.proofs.Common.{sym, subst}
use Rattle.sync_pipe.specs.Texts.{IsSayable}
use Rattle.capture_report.proofs.Sayable.{drops_are_sayable}
use Rattle.capture_report.proofs.messages.drops_message.Goals as goal

pub message-requires : goal.message-requires
message-requires c = subst IsSayable (sym c.in_ok-said.ensures) (drops_are_sayable c.args.iface.now c.args.counts)
