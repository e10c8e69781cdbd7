use Rattle.std.proofs.Common.{subst}
use Rattle.pass_blocks.specs.Passer.{Steps}
use Rattle.pass_blocks.specs.declared.step.PassStep.{PassStep}
use Rattle.pass_blocks.proofs.tests.take_step.Goals as goal

pub finish-requires : goal.finish-requires
finish-requires c = (subst (λ (s : PassStep). Steps c.args.passer.now c.next.new.self s) c.in-More.is c.in_ok-step.ensures.step).1
