use Rattle.std.proofs.Common.{◌≡◌, take}
use Rattle.capture_desk.specs.Past.{past}
use Rattle.capture_core.specs.inner.Telling.{Gave}
use Rattle.capture_core.proofs.replaying.replay.Given as goal

abbrev pub invariant-entries : goal.invariant-entries
invariant-entries l = record {
  settings : l.desk.settings ≡ l.settings;
  gave : Gave l.desk (past (take l.entry-index l.entries)) l.acts.items;
}
