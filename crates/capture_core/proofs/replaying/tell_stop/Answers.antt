use Rattle.std.proofs.Common.{ℕ, sym, subst, OnOk}
use Rattle.cap_base.specs.declared.entries.Entry.TheVariants as entry
use Rattle.cap_base.specs.declared.entries.Why.{Why}
use Rattle.capture_core.specs.inner.Telling.{Replays}
use Rattle.capture_core.proofs.Steps.{asked_replays, asked_by_cases}
use Rattle.capture_core.proofs.replaying.tell_stop.Goals as goal

pub returns-in-FileFault : goal.returns-in-FileFault
returns-in-FileFault c =
    let P : Why → Type 0 = λ w. OnOk c.tell_file_fault.result ((lost : ℕ) → Replays c.args.desk.now c.args.acts.now.items c.tell_file_fault.new.desk c.tell_file_fault.new.acts.items (entry.Stop w lost)) in
    subst P (sym c.in-FileFault.is) c.tell_file_fault.ensures

pub returns-in-SyncFault : goal.returns-in-SyncFault
returns-in-SyncFault c =
    let P : Why → Type 0 = λ w. OnOk c.tell_say_fault.result ((lost : ℕ) → Replays c.args.desk.now c.args.acts.now.items c.tell_say_fault.new.desk c.tell_say_fault.new.acts.items (entry.Stop w lost)) in
    subst P (sym c.in-SyncFault.is) c.tell_say_fault.ensures

pub returns-in-Packets : goal.returns-in-Packets
returns-in-Packets c = λ lost. asked_replays c.args.desk.now c.args.acts.now.items c.args.why lost (asked_by_cases c.args.why c.requires c.in-Packets.is)
