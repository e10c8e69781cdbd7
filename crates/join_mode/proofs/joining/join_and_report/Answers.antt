use Rattle.std.proofs.Common.{ℕ, List, ap, subst, ◌∙◌}
use Rattle.cap_outside.specs.declared.opened.Opened.{Opened}
use Rattle.join_mode.specs.Joining.{meanings}
use Rattle.join_mode.specs.Lines.{lines_with}
use Rattle.join_mode.specs.inner.Parts.{ReportIs, last_named}
use Rattle.join_mode.proofs.Endings.{finished_is, halted_is}
use Rattle.join_mode.proofs.joining.join_and_report.Goals as goal

pub returns-in-Ok-clause-joined : goal.returns-in-Ok-clause-joined
returns-in-Ok-clause-joined g c =
    finished_is (meanings g.O.Opener g.O.Source.Source g.L.Outlet g.K.Sink) c.args.out.now c.args.names.now (record { exit = c.report-exit.result; sources = c.join_all.new.sources })
    c.args.opener.now c.join_all.new.opener c.in-Ok.ensures.opened c.in-Ok.packets c.args.outlet.now c.join_all.new.outlet c.args.note.now c.report-exit.new.note
    c.in-Ok.ensures.ok c.in-Ok.ensures.opens c.in-Ok.ensures.files c.in-Ok.ensures.closed c.in-Ok.ensures.other
    (subst (λ (z : ℕ). ReportIs g.K.Sink.written g.K.Sink.faults c.args.note.now c.report-exit.new.note (lines_with z c.in-Ok.packets) c.report-exit.result) c.len.ensures c.report-exit.ensures)

pub returns-in-Err-clause-joined : goal.returns-in-Err-clause-joined
returns-in-Err-clause-joined g c =
    halted_is (meanings g.O.Opener g.O.Source.Source g.L.Outlet g.K.Sink) c.args.out.now c.args.names.now (record { exit = c.end_stopped-exit.result; sources = c.join_all.new.sources })
    c.args.opener.now c.join_all.new.opener c.in-Err.ensures.opened c.args.outlet.now c.join_all.new.outlet c.end_stopped-exit.new.outlet c.args.note.now c.end_stopped-exit.new.note c.last_name-name.result.now
    (c.last_name-name.ensures ∙ ap (λ (z : List (Opened g.row.O-Source.Denot)). last_named z c.args.out.now) c.as_slice.ensures.value) (c.end_stopped-exit.ensures.other ∙ c.in-Err.ensures.other)
    c.in-Err.stop c.in-Err.ensures.stopped c.in-Err.ensures.opens c.in-Err.ensures.files c.end_stopped-exit.ensures.ends
