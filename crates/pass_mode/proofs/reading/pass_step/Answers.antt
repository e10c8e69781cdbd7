use Rattle.std.proofs.Common.{sym, ◌∙◌}
use Rattle.std.proofs.lemmas.Result.{err_from_is_err_and}
use Rattle.pass_mode.proofs.Runnings.{is_put, fed_so, less_of, on_none, none_starves, step_on, step_breaks, step_starves}
use Rattle.pass_mode.proofs.reading.pass_step.Goals as goal

pub returns-in_err-step-clause-stops : goal.returns-in_err-step-clause-stops
returns-in_err-step-clause-stops g c =
    let p = err_from_is_err_and c.from_residual.result c.from_residual.ensures.1 in
    rw (p.1, p.2) (none_starves g.L.Outlet.stands_for c.args.outlet.now c.args.buffer.now c.args.passer.now c.next.new.self c.in_err-step.ensures.err)

pub returns-in-Some-clause-moves : goal.returns-in-Some-clause-moves
returns-in-Some-clause-moves g c = on_none g.L.Outlet.stands_for c.args.outlet.now c.args.buffer.now c.args.passer.now c.next.new.self c.args.counts.now (fed_so c.args.passer.now c.next.new.self c.in_ok-step.step c.in-Some.fed (sym c.fed_of.ensures ∙ c.in-Some.is) c.in_ok-step.ensures.step c.in_ok-step.ensures.lawful).0

pub returns-in-Some-clause-fed : goal.returns-in-Some-clause-fed
returns-in-Some-clause-fed g c = (fed_so c.args.passer.now c.next.new.self c.in_ok-step.step c.in-Some.fed (sym c.fed_of.ensures ∙ c.in-Some.is) c.in_ok-step.ensures.step c.in_ok-step.ensures.lawful).1

pub returns-in_err-put_step-clause-stops : goal.returns-in_err-put_step-clause-stops
returns-in_err-put_step-clause-stops g c =
    let p = err_from_is_err_and c.from_residual-in_err-put_step.result c.from_residual-in_err-put_step.ensures.1 in
    let put = is_put c.in_ok-step.step (sym c.fed_of.ensures ∙ c.in_default.is) in
    rw (p.1, p.2) (step_breaks g.L.Outlet.stands_for c.args.outlet.now c.put_step.new.outlet c.args.buffer.now c.args.passer.now c.next.new.self c.in_ok-step.step put c.in_ok-step.ensures.step c.in_err-put_step.ensures.err)

pub returns-in_err-behind-clause-stops : goal.returns-in_err-behind-clause-stops
returns-in_err-behind-clause-stops g c =
    let p = err_from_is_err_and c.from_residual-in_err-behind.result c.from_residual-in_err-behind.ensures.1 in
    let put = is_put c.in_ok-step.step (sym c.fed_of.ensures ∙ c.in_default.is) in
    rw (p.1, p.2, c.in_err-behind.ensures.starved) (step_starves g.L.Outlet.stands_for c.args.outlet.now c.put_step.new.outlet c.args.buffer.now c.put_step.new.buffer c.args.passer.now c.next.new.self c.in_ok-step.step put c.in_ok-step.ensures.step c.in_ok-put_step.ensures.ok)

pub returns-clause-moves : goal.returns-clause-moves
returns-clause-moves g c =
    let put = is_put c.in_ok-step.step (sym c.fed_of.ensures ∙ c.in_default.is) in
    rw (c.recycle.ensures) (step_on g.L.Outlet.stands_for c.args.outlet.now c.put_step.new.outlet c.args.buffer.now c.put_step.new.buffer c.args.passer.now c.next.new.self c.args.counts.now c.in_ok-behind.behind c.in_ok-step.step put c.in_ok-step.ensures.step c.in_ok-put_step.ensures.ok c.in_ok-behind.ensures.value)

pub returns-clause-less : goal.returns-clause-less
returns-clause-less g c = λ none. rw (c.recycle.ensures) (less_of c.args.passer.now c.next.new.self c.in_ok-step.step (is_put c.in_ok-step.step (sym c.fed_of.ensures ∙ c.in_default.is)) c.in_ok-step.ensures.lawful)
