use Rattle.std.proofs.Common.{sym, subst}
use Rattle.sync_pipe.specs.Texts.{IsSayable}
use Rattle.capture_report.proofs.Sayable.{early_is_sayable}
use Rattle.capture_report.proofs.messages.early_message.Goals as goal

pub message-requires : goal.message-requires
message-requires c = subst IsSayable (sym c.in_ok-said.ensures.said) (early_is_sayable c.args.name.now _ c.requires c.in_ok-said.ensures.room)
