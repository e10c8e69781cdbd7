use Rattle.std.proofs.Common.{inl, refl, sym, ◌∙◌, subst, OnOk}
use Rattle.cap_base.specs.declared.entries.Entry.TheVariants as entry
use Rattle.cap_base.specs.declared.entries.Taken.{Taken}
use Rattle.capture_desk.specs.Acts.{names}
use Rattle.capture_desk.specs.Laws.{AreMade}
use Rattle.capture_desk.specs.Made.{Made}
use Rattle.capture_core.specs.inner.Telling.{Replays}
use Rattle.capture_core.proofs.Steps.{on_ok, gave_more}
use Rattle.capture_core.proofs.replaying.tell_take.Goals as goal

pub returns : goal.returns
returns c =
    let old = c.args.desk.now in
    let mid = c.on_taken.new.self in
    let t : Taken = c.in_ok-taken.taken in
    let P : Taken → Type 0 = λ q. OnOk c.drain.result (Replays old c.args.acts.now.items c.drain.new.desk c.drain.new.acts.items (entry.Take c.args.now q)) in
    subst P c.in_ok-taken.ensures
    (on_ok c.drain.result c.drain.ensures.all c.drain.ensures.none c.drain.ensures.made c.drain.ensures.settings c.drain.ensures.stands
    (λ all none made settings stands. record {
      settings = settings ∙ c.on_taken.ensures.settings;
      gave = λ past gave may. gave_more old mid c.drain.new.desk past (entry.Take c.args.now t) c.in_ok-on_taken.field-0 old.waiting c.args.acts.now.items c.drain.new.acts.items gave (may refl) (inl tt) gave.none (c.in_ok-on_taken.ensures.ok past gave.stands (may refl))
          (subst (λ (m : Made). AreMade m (names old.settings past)) (sym c.on_taken.ensures.made) gave.made) all none made settings stands;
    }))
