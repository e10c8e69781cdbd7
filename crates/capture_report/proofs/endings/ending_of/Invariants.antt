use Rattle.std.proofs.Common.{◌≡◌, drop}
use Rattle.capture_report.specs.Endings.{ending_of}
use Rattle.capture_report.proofs.endings.ending_of.Given as goal

abbrev pub invariant-ended : goal.invariant-ended
invariant-ended l = ending_of l.source (drop l.end-index l.ends) ≡ ending_of l.source l.ends
