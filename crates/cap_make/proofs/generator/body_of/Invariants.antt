use Rattle.std.proofs.Common.{◌≡◌}
use Rattle.cap_make.specs.Generator.{body_of}
use Rattle.cap_make.proofs.generator.body_of.Given as goal

abbrev pub invariant-loop-place : goal.invariant-loop-place
invariant-loop-place l = l.body ≡ body_of l.number l.place
