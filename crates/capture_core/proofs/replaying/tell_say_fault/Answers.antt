use Rattle.std.proofs.Common.{inl, refl, sym, ap, ◌∙◌, subst}
use Rattle.cap_base.specs.declared.entries.Entry.TheVariants as entry
use Rattle.cap_base.specs.declared.entries.Why.TheVariants as why
use Rattle.capture_desk.specs.Acts.{names}
use Rattle.capture_desk.specs.Laws.{AreMade}
use Rattle.capture_desk.specs.Made.{Made}
use Rattle.capture_desk.specs.Doing.{unsaid}
use Rattle.capture_core.proofs.Steps.{on_ok, gave_more}
use Rattle.capture_core.proofs.replaying.tell_say_fault.Goals as goal

pub returns : goal.returns
returns c =
    let old = c.args.desk.now in
    let mid = c.on_say_fault.new.self in
    on_ok c.drain.result c.drain.ensures.all c.drain.ensures.none c.drain.ensures.made c.drain.ensures.settings c.drain.ensures.stands
    (λ all none made settings stands lost. record {
      settings = settings ∙ c.on_say_fault.ensures.settings;
      gave = λ past gave may. gave_more old mid c.drain.new.desk past (entry.Stop why.SyncFault lost) c.on_say_fault.result (unsaid old.waiting) c.args.acts.now.items c.drain.new.acts.items gave (may refl) (inl tt) (ap unsaid gave.none) (c.on_say_fault.ensures.told past lost gave.stands (may refl))
          (subst (λ (m : Made). AreMade m (names old.settings past)) (sym c.on_say_fault.ensures.made) gave.made) all none made settings stands;
    })
