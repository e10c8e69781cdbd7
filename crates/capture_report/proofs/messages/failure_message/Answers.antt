use Rattle.std.proofs.Common.{sym, subst}
use Rattle.sync_pipe.specs.Texts.{IsSayable}
use Rattle.capture_report.proofs.Sayable.{failure_is_sayable}
use Rattle.capture_report.proofs.messages.failure_message.Goals as goal

pub message-requires : goal.message-requires
message-requires c = subst IsSayable (sym c.in_ok-said.ensures) (failure_is_sayable _ c.requires)
