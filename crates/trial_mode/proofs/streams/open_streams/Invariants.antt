use Rattle.std.proofs.Common.{◌≡◌, length}
use Rattle.trial_mode.specs.Streams.{streams_from}
use Rattle.trial_mode.specs.inner.Opened.{AreOpened}
use Rattle.trial_mode.proofs.streams.open_streams.Given as goal

-- the streams before it are opened
abbrev pub invariant-loop-which : goal.invariant-loop-which
invariant-loop-which l = record { opened : AreOpened (streams_from l.start l.sources l.packets) 0 l.opened.items; all : length l.opened.items ≡ l.which }
