use Rattle.std.proofs.Common.{◌≡◌, take}
use Rattle.trial_mode.specs.inner.Checked.{counted_in}
use Rattle.trial_mode.proofs.checking.sum_counted.Given as goal

-- the counts before the place are summed up
abbrev pub invariant-loop-at : goal.invariant-loop-at
invariant-loop-at l = l.sum ≡ counted_in (take l.at l.counts)
