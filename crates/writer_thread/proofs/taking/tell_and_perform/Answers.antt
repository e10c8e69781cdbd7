use Rattle.std.proofs.Common.{Bool, ◌≡◌, false, true, sym, ap, ◌∙◌, subst}
use Rattle.cap_base.specs.declared.packet.Packet.{Packet}
use Rattle.cap_base.specs.declared.entries.Entry.TheVariants as entry
use Rattle.cap_base.specs.declared.entries.Taken.{Taken}
use Rattle.capture_desk.specs.declared.acts.Want.{Want}
use Rattle.capture_desk.specs.declared.acts.Want.TheVariants as wants
use Rattle.block_writer.specs.declared.fault.OutFault.{OutFault}
use Rattle.block_writer.specs.declared.fault.OutFault.TheVariants as fault
use Rattle.cap_base.specs.declared.entries.Taken.TheVariants as takens
use Rattle.cap_base.specs.declared.entries.Item.TheVariants as items
use Rattle.writer_thread.specs.inner.Deciding.{Tells}
use Rattle.writer_thread.specs.inner.Breaking.{todo_of}
use Rattle.writer_thread.specs.inner.Going.{found_nothing}
use Rattle.writer_thread.specs.inner.Running.{Fails}
use Rattle.writer_thread.specs.inner.Stepping.{ToldDone, ToldFailed}
use Rattle.writer_thread.proofs.Alone.{put_done, put_failed, file_there, only_file}
use Rattle.writer_thread.proofs.taking.tell_and_perform.Goals as goal

pub put_taken-requires-clause-file : goal.put_taken-requires-clause-file
put_taken-requires-clause-file g c κs within =
    let t = c.tell_alone.ensures.told c.if-tell_alone.true in
    file_there g.D.Decides.settings_of g.D.Decides.waiting g.D.Decides.made g.D.Decides.stands_for g.L.Outlet.stands_for (g.L.Outlet.has_file c.args.outlet.now) c.args.desk.now c.tell_alone.new.desk c.args.now t.0 t.2 (c.requires.may t.2.between wants.Nothing (subst (λ (x : Taken). Tells g.D.Decides.settings_of g.D.Decides.waiting g.D.Decides.made g.D.Decides.stands_for c.args.desk.now t.2.between (entry.Take c.args.now x) wants.Nothing) (sym t.1) t.2.told))

pub perform_entry-requires-clause-may : goal.perform_entry-requires-clause-may
perform_entry-requires-clause-may g c κs within =
    c.requires.may c.on_taken.new.self c.in-Ok.want (subst (λ (d : _). Tells g.D.Decides.settings_of g.D.Decides.waiting g.D.Decides.made g.D.Decides.stands_for d c.on_taken.new.self (entry.Take c.args.now c.args.taken) c.in-Ok.want) (c.tell_alone.ensures.same c.if-tell_alone.false) c.in-Ok.ensures.ok)

pub returns-then-tell_alone-clause-made : goal.returns-then-tell_alone-clause-made
returns-then-tell_alone-clause-made g c w e =
    let t = c.tell_alone.ensures.told c.if-tell_alone.true in
    let m = c.put_taken.ensures.made w e in
    let there = file_there g.D.Decides.settings_of g.D.Decides.waiting g.D.Decides.made g.D.Decides.stands_for g.L.Outlet.stands_for (g.L.Outlet.has_file c.args.outlet.now) c.args.desk.now c.tell_alone.new.desk c.args.now t.0 t.2 (c.requires.may t.2.between wants.Nothing (subst (λ (x : Taken). Tells g.D.Decides.settings_of g.D.Decides.waiting g.D.Decides.made g.D.Decides.stands_for c.args.desk.now t.2.between (entry.Take c.args.now x) wants.Nothing) (sym t.1) t.2.told)) in
    let done = put_done g.D.Decides.settings_of g.D.Decides.waiting g.D.Decides.made g.D.Decides.stands_for g.L.Outlet.stands_for (g.L.Outlet.has_file c.args.outlet.now) (g.L.Outlet.has_file c.put_taken.new.outlet) c.args.desk.now c.tell_alone.new.desk c.args.outlet.now c.put_taken.new.outlet c.args.writer.now c.put_taken.new.writer c.args.now t.0 t.2 (m.1 t.0 t.1) there c.put_taken.ensures.file (c.put_taken.ensures.going w e) in
    subst (λ (x : Taken). ToldDone g.D.Decides.settings_of g.D.Decides.waiting g.D.Decides.made g.D.Decides.stands_for g.L.Outlet.stands_for (g.L.Outlet.has_file c.args.outlet.now) (g.L.Outlet.has_file c.put_taken.new.outlet) c.args.desk.now c.tell_alone.new.desk c.args.outlet.now c.put_taken.new.outlet c.args.writer.now c.put_taken.new.writer (entry.Take c.args.now x) w) (sym t.1)
    (subst (λ (v : Want). ToldDone g.D.Decides.settings_of g.D.Decides.waiting g.D.Decides.made g.D.Decides.stands_for g.L.Outlet.stands_for (g.L.Outlet.has_file c.args.outlet.now) (g.L.Outlet.has_file c.put_taken.new.outlet) c.args.desk.now c.tell_alone.new.desk c.args.outlet.now c.put_taken.new.outlet c.args.writer.now c.put_taken.new.writer (entry.Take c.args.now (takens.Item (items.Packet t.0))) v) (sym m.0) done)

pub returns-then-tell_alone-clause-failed : goal.returns-then-tell_alone-clause-failed
returns-then-tell_alone-clause-failed g c f e =
    let t = c.tell_alone.ensures.told c.if-tell_alone.true in
    only_file (λ (k : OutFault). ToldFailed g.D.Decides.settings_of g.D.Decides.waiting g.D.Decides.made g.D.Decides.stands_for g.L.Outlet.stands_for k (g.L.Outlet.has_file c.args.outlet.now) (g.L.Outlet.has_file c.put_taken.new.outlet) c.args.desk.now c.tell_alone.new.desk c.args.outlet.now c.put_taken.new.outlet c.args.writer.now c.put_taken.new.writer (entry.Take c.args.now c.args.taken)) f
    (λ is. subst (λ (x : Taken). ToldFailed g.D.Decides.settings_of g.D.Decides.waiting g.D.Decides.made g.D.Decides.stands_for g.L.Outlet.stands_for fault.File (g.L.Outlet.has_file c.args.outlet.now) (g.L.Outlet.has_file c.put_taken.new.outlet) c.args.desk.now c.tell_alone.new.desk c.args.outlet.now c.put_taken.new.outlet c.args.writer.now c.put_taken.new.writer (entry.Take c.args.now x)) (sym t.1)
    (put_failed g.D.Decides.settings_of g.D.Decides.waiting g.D.Decides.made g.D.Decides.stands_for g.L.Outlet.stands_for (g.L.Outlet.has_file c.args.outlet.now) (g.L.Outlet.has_file c.put_taken.new.outlet) c.args.desk.now c.tell_alone.new.desk c.args.outlet.now c.put_taken.new.outlet c.args.writer.now c.put_taken.new.writer c.args.now t.0 t.2 (c.put_taken.ensures.failed (e ∙ ap todo_of is) t.0 t.1)))
    (λ is. c.put_taken.ensures.never.0 (e ∙ ap todo_of is))

-- a Take that gave a packet didn't find nothing
no_rest : (x : Taken) (p : Packet) → x ≡ takens.Item (items.Packet p) → found_nothing x ≡ true → ⊥
no_rest x p is rest = let e : false ≡ true = sym (ap found_nothing is) ∙ rest in cc

pub returns-then-tell_alone-clause-flushed : goal.returns-then-tell_alone-clause-flushed
returns-then-tell_alone-clause-flushed g c w e rest =
    let t = c.tell_alone.ensures.told c.if-tell_alone.true in
    absurd (no_rest c.args.taken t.0 t.1 rest)

pub returns-in-Ok-clause-flushed : goal.returns-in-Ok-clause-flushed
returns-in-Ok-clause-flushed g c w e rest = c.perform_entry.ensures.flushed w e (c.is_empty-flushes.ensures ∙ rest)

pub returns-in-Ok-clause-failed : goal.returns-in-Ok-clause-failed
returns-in-Ok-clause-failed g c f e =
    let x = c.perform_entry.ensures.failed f e in
    record {
      told = c.on_taken.new.self;
      want = c.in-Ok.want;
      tells = subst (λ (d : _). Tells g.D.Decides.settings_of g.D.Decides.waiting g.D.Decides.made g.D.Decides.stands_for d c.on_taken.new.self (entry.Take c.args.now c.args.taken) c.in-Ok.want) (c.tell_alone.ensures.same c.if-tell_alone.false) c.in-Ok.ensures.ok;
      fails = subst (λ (b : Bool). Fails g.L.Outlet.stands_for f c.args.outlet.now c.perform_entry.new.outlet c.args.writer.now c.perform_entry.new.writer b (g.D.Decides.waiting c.on_taken.new.self) (g.D.Decides.waiting c.perform_entry.new.desk)) c.is_empty-flushes.ensures x.0;
      gave = x.1;
      silent = λ is. c.perform_entry.ensures.silent (e ∙ ap todo_of is);
    }
