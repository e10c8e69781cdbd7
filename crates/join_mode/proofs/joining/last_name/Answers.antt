use Rattle.std.proofs.Common.{Option, ap}
use Rattle.cap_outside.specs.declared.opened.Opened.{Opened}
use Rattle.join_mode.specs.inner.Parts.{name_or}
use Rattle.join_mode.proofs.joining.last_name.Goals as goal

pub returns-in-Some : goal.returns-in-Some
returns-in-Some g c = ap (λ (z : Option (Opened g.row.S.Denot)). name_or z c.args.other.now) c.in-Some.ensures.value
