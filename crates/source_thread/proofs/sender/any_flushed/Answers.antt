use Rattle.std.proofs.Common.{ℕ, ◌+◌, sym, ◌∙◌, subst, ◌≤◌, arith}
use Rattle.source_thread.specs.inner.Sending.{is_flushed_verdict}
use Rattle.source_thread.proofs.Batches.{flag_more, flag_end}
use Rattle.source_thread.proofs.sender.any_flushed.Goals as goal

pub verdicts-preserved : goal.verdicts-preserved
verdicts-preserved c = record {
  within = omega (arith, c.verdicts-test.true);
  looked = flag_more is_flushed_verdict c.args.batch.now.verdicts c.verdicts.at (c.verdicts.at + 1) c.in-Some.verdict c.verdicts.flushed c.was_flushed-flushed.result (omega arith) (sym c.verdict.ensures.value ∙ c.in-Some.is) c.was_flushed-flushed.ensures c.verdicts.invariant.looked;
}

pub returns : goal.returns
returns c =
    flag_end is_flushed_verdict c.args.batch.now.verdicts c.verdicts.at c.verdicts.flushed
    (subst (λ (n : ℕ). n ≤ c.verdicts.at) (c.len-count.ensures.count ∙ c.requires) c.verdicts-test.false) c.verdicts.invariant.looked
