use Rattle.std.proofs.Common.{◌≡◌, ◌≤◌, ◌-◌, ◌||◌, drop}
use Rattle.std.specs.List.{list_any}
use Rattle.source_thread.specs.inner.Sending.{is_flushed_verdict}
use Rattle.source_thread.proofs.sender.any_flushed.Given as goal

abbrev pub invariant-verdicts : goal.invariant-verdicts
invariant-verdicts l = record {
  within : l.at ≤ l.count;
  looked : l.flushed || list_any is_flushed_verdict (drop l.at l.batch.verdicts) ≡ list_any is_flushed_verdict l.batch.verdicts;
}

abbrev pub decreases-verdicts : goal.decreases-verdicts
decreases-verdicts l = l.count - l.at
