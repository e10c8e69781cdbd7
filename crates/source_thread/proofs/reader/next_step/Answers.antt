use Rattle.std.proofs.Common.{[], IfOk, OnErr, subst}
use Rattle.source_reader.specs.declared.reader.Reader.{Reader}
use Rattle.cap_base.specs.declared.steps.Step.{Step}
use Rattle.source_thread.specs.inner.Readers.{Gives, Steps}
use Rattle.source_thread.proofs.reader.next_step.Goals as goal

pub returns-clause-step : goal.returns-clause-step
returns-clause-step g c = subst (λ (r : Reader). IfOk c.next.result (λ (step : Step). Steps r c.next.new.self step)) c.refill_reader.ensures c.next.ensures.step

pub returns-clause-err : goal.returns-clause-err
returns-clause-err g c = subst (λ (r : Reader). OnErr c.next.result (Gives r c.next.new.self [])) c.refill_reader.ensures c.next.ensures.err
