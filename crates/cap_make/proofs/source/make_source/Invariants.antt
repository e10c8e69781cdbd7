use Rattle.std.proofs.Common.{◌≡◌}
use Rattle.cap_make.specs.Generator.{number_at}
use Rattle.cap_make.specs.Streams.{stream}
use Rattle.cap_make.proofs.source.make_source.Given as goal

-- the text of the packets before a number
abbrev pub invariant-loop-number : goal.invariant-loop-number
invariant-loop-number l = record {
  last : l.x ≡ number_at l.start l.number;
  text : l.text ≡ stream l.start l.sources l.number l.which;
}
