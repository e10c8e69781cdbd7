use Rattle.std.proofs.Common.{◌≡◌, drop}
use Rattle.std.specs.List.{list_any}
use Rattle.capture_options.specs.Captures.{is_overwritten}
use Rattle.capture_options.proofs.capture.has_overwritten.Given as goal

-- no source so far is overwritten
abbrev pub invariant-loop-one : goal.invariant-loop-one
invariant-loop-one l = list_any (is_overwritten l.output) (drop l.one-index l.given) ≡ list_any (is_overwritten l.output) l.given
