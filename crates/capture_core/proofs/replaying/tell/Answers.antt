use Rattle.std.proofs.Common.{sym, subst, OnOk}
use Rattle.capture_core.specs.inner.Telling.{Replays}
use Rattle.capture_core.proofs.Steps.{on_ok_one}
use Rattle.cap_base.specs.declared.entries.Entry.{Entry}
use Rattle.capture_core.proofs.replaying.tell.Goals as goal

pub returns-in-Tally : goal.returns-in-Tally
returns-in-Tally c =
    let P : Entry → Type 0 = λ e. OnOk c.tell_tally.result (Replays c.args.desk.now c.args.acts.now.items c.tell_tally.new.desk c.tell_tally.new.acts.items e) in
    subst P (sym c.in-Tally.is) (on_ok_one c.tell_tally.result c.tell_tally.ensures (λ told. told c.in-Tally.now))

pub returns-in-Stop : goal.returns-in-Stop
returns-in-Stop c =
    let P : Entry → Type 0 = λ e. OnOk c.tell_stop.result (Replays c.args.desk.now c.args.acts.now.items c.tell_stop.new.desk c.tell_stop.new.acts.items e) in
    subst P (sym c.in-Stop.is) (on_ok_one c.tell_stop.result c.tell_stop.ensures (λ told. told c.in-Stop.lost))
