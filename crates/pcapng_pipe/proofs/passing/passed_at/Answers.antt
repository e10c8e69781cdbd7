use Rattle.std.proofs.Common.{arith}
use Rattle.pcapng_pipe.proofs.Found.{inside, on_none}
use Rattle.pcapng_pipe.proofs.passing.passed_at.Goals as goal

pub returns-then-text-lt-BODY_AT-clause-none : goal.returns-then-text-lt-BODY_AT-clause-none
returns-then-text-lt-BODY_AT-clause-none c = λ len over.
    let w = inside c.args.text.now len over in
    absurd (omega (arith, w.0, w.1, c.if-text-lt-BODY_AT.true))

pub returns-in_err-len-clause-none : goal.returns-in_err-len-clause-none
returns-in_err-len-clause-none c = on_none c.from_residual.result _ (λ len over. absurd (c.in_err-len.ensures.none len over))
