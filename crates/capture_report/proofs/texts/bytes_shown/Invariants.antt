use Rattle.std.proofs.Common.{◌≡◌, ◌++◌, drop, map}
use Rattle.capture_report.specs.Messages.{shown_byte}
use Rattle.capture_report.proofs.texts.bytes_shown.Given as goal

abbrev pub invariant-bytes : goal.invariant-bytes
invariant-bytes l = l.shown ++ map shown_byte (drop l.byte-index l.bytes) ≡ map shown_byte l.bytes
