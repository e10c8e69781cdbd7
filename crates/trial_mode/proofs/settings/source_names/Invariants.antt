use Rattle.std.proofs.Common.{◌≡◌, ◌≤◌, ◌-◌}
use Rattle.trial_mode.specs.Streams.{source_names}
use Rattle.trial_mode.proofs.settings.source_names.Given as goal

-- the names of the sources before it
abbrev pub invariant-loop-which : goal.invariant-loop-which
invariant-loop-which l = record { within : l.which ≤ l.sources; names : l.names ≡ source_names l.which }

abbrev pub decreases-loop-which : goal.decreases-loop-which
decreases-loop-which l = l.sources - l.which
