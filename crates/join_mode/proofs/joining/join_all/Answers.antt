use Rattle.std.proofs.Common.{[], ℕ, List, sym, subst, ap, ◌∙◌}
use Rattle.std.proofs.lemmas.Result.{err_from_is_err_and}
use Rattle.cap_base.specs.Effects.{bytes}
use Rattle.cap_outside.specs.Told.{Leads}
use Rattle.mode_base.specs.Outlets.{DidFront, DidSome}
use Rattle.mode_base.proofs.Doings.{none_done}
use Rattle.ring_join.specs.Whole.{WholeBlock, text}
use Rattle.ring_join.specs.Joined.{joined_so_far}
use Rattle.join_mode.specs.declared.stop.Stop.{Stop}
use Rattle.join_mode.specs.Joining.{IsRead, IsBegun, whole_effects}
use Rattle.join_mode.specs.inner.Parts.{Halted, stop_of}
use Rattle.join_mode.proofs.Endings.{began, broke, begun_is_some, never_created, unended, unfinished, all_done, known_begun, halted_as, halted_behind, failed_before, starved_before}
use Rattle.join_mode.proofs.joining.join_all.Goals as goal

pub returns-in_err-piece-clause-stopped : goal.returns-in_err-piece-clause-stopped
returns-in_err-piece-clause-stopped g c =
    let p = err_from_is_err_and c.from_residual.result c.from_residual.ensures.1 in
    let read = IsRead g.O.Source.Source in
    let did : List (List WholeBlock) → Type 0 = λ files. IsBegun g.L.Outlet c.args.out.now files c.args.outlet.now c.args.outlet.now in
    let failed : List (List WholeBlock) → Type 0 = λ files. DidFront g.L.Outlet.stands_for c.args.outlet.now c.args.outlet.now (whole_effects c.args.out.now files) in
    let starved : List (List WholeBlock) → Type 0 = λ files. DidSome g.L.Outlet.stands_for c.args.outlet.now c.args.outlet.now (whole_effects c.args.out.now files) in
    rw p.1 (subst (λ (w : Stop). Halted read g.O.Source.Source.faults did failed starved c.args.names.now c.args.sources.now.items w) (sym p.2)
    (starved_before read g.O.Source.Source.faults did failed starved c.args.names.now c.args.sources.now.items c.requires.none (none_done g.L.Outlet.stands_for c.args.outlet.now (whole_effects c.args.out.now []))))

pub returns-in_err-create-clause-stopped : goal.returns-in_err-create-clause-stopped
returns-in_err-create-clause-stopped g c =
    let p = err_from_is_err_and c.from_residual-in_err-create.result c.from_residual-in_err-create.ensures.1 in
    let read = IsRead g.O.Source.Source in
    let did : List (List WholeBlock) → Type 0 = λ files. IsBegun g.L.Outlet c.args.out.now files c.args.outlet.now c.create.new.self in
    let failed : List (List WholeBlock) → Type 0 = λ files. DidFront g.L.Outlet.stands_for c.args.outlet.now c.create.new.self (whole_effects c.args.out.now files) in
    let starved : List (List WholeBlock) → Type 0 = λ files. DidSome g.L.Outlet.stands_for c.args.outlet.now c.create.new.self (whole_effects c.args.out.now files) in
    rw p.1 (subst (λ (w : Stop). Halted read g.O.Source.Source.faults did failed starved c.args.names.now c.args.sources.now.items w) (sym p.2)
    (failed_before read g.O.Source.Source.faults did failed starved c.args.names.now c.args.sources.now.items c.requires.none (never_created g.L.Outlet.stands_for c.args.out.now c.args.outlet.now c.create.new.self [] c.in_err-create.ensures.err)))

pub returns-in_err-packets-clause-stopped : goal.returns-in_err-packets-clause-stopped
returns-in_err-packets-clause-stopped g c =
    let p = err_from_is_err_and c.from_residual-in_err-packets.result c.from_residual-in_err-packets.ensures.1 in
    let read = IsRead g.O.Source.Source in
    let before : List (List WholeBlock) → Type 0 = λ files. Leads g.L.Outlet.stands_for c.create.new.self c.join_inputs.new.outlet (bytes (text (joined_so_far files))) in
    let broken : List (List WholeBlock) → Type 0 = λ files. DidFront g.L.Outlet.stands_for c.create.new.self c.join_inputs.new.outlet (bytes (text (joined_so_far files))) in
    let did : List (List WholeBlock) → Type 0 = λ files. IsBegun g.L.Outlet c.args.out.now files c.args.outlet.now c.join_inputs.new.outlet in
    let failed : List (List WholeBlock) → Type 0 = λ files. DidFront g.L.Outlet.stands_for c.args.outlet.now c.join_inputs.new.outlet (whole_effects c.args.out.now files) in
    let starved : List (List WholeBlock) → Type 0 = λ files. DidSome g.L.Outlet.stands_for c.args.outlet.now c.join_inputs.new.outlet (whole_effects c.args.out.now files) in
    rw p.1 (subst (λ (w : Stop). Halted read g.O.Source.Source.faults did failed starved c.args.names.now c.join_inputs.new.sources.items w) (sym p.2)
    (halted_as read g.O.Source.Source.faults before broken before did failed starved c.args.names.now c.join_inputs.new.sources.items c.in_err-packets.field-0.0
    (λ files d. (began g.L.Outlet.stands_for c.args.out.now c.args.outlet.now c.create.new.self c.join_inputs.new.outlet files c.in_ok-create.ensures.ok d, c.in_err-packets.ensures.file))
    (λ files d. broke g.L.Outlet.stands_for c.args.out.now c.args.outlet.now c.create.new.self c.join_inputs.new.outlet files c.in_ok-create.ensures.ok d)
    (λ files d. begun_is_some g.L.Outlet.stands_for c.args.out.now c.args.outlet.now c.join_inputs.new.outlet files (began g.L.Outlet.stands_for c.args.out.now c.args.outlet.now c.create.new.self c.join_inputs.new.outlet files c.in_ok-create.ensures.ok d))
    c.in_err-packets.ensures.stopped))

pub end-requires-clause-begun : goal.end-requires-clause-begun
end-requires-clause-begun g c κs within =
    let read = IsRead g.O.Source.Source in
    (known_begun read g.L.Outlet.stands_for c.args.names.now c.join_inputs.new.sources.items c.create.new.self c.join_inputs.new.outlet c.join_inputs.new.joiner c.in_ok-packets.packets c.requires.some c.in_ok-packets.ensures.ok).0

pub returns-in_err-end-clause-stopped : goal.returns-in_err-end-clause-stopped
returns-in_err-end-clause-stopped g c =
    let p = err_from_is_err_and c.from_residual-in_err-end.result c.from_residual-in_err-end.ensures.1 in
    let read = IsRead g.O.Source.Source in
    let v = c.in_ok-packets.ensures.ok in
    let known = known_begun read g.L.Outlet.stands_for c.args.names.now c.join_inputs.new.sources.items c.create.new.self c.join_inputs.new.outlet c.join_inputs.new.joiner c.in_ok-packets.packets c.requires.some v in
    let begun = began g.L.Outlet.stands_for c.args.out.now c.args.outlet.now c.create.new.self c.join_inputs.new.outlet v.files c.in_ok-create.ensures.ok v.did in
    let did : List (List WholeBlock) → Type 0 = λ files. IsBegun g.L.Outlet c.args.out.now files c.args.outlet.now c.end.new.outlet in
    let failed : List (List WholeBlock) → Type 0 = λ files. DidFront g.L.Outlet.stands_for c.args.outlet.now c.end.new.outlet (whole_effects c.args.out.now files) in
    let starved : List (List WholeBlock) → Type 0 = λ files. DidSome g.L.Outlet.stands_for c.args.outlet.now c.end.new.outlet (whole_effects c.args.out.now files) in
    let broken = unended g.L.Outlet.stands_for c.args.out.now c.args.outlet.now c.join_inputs.new.outlet c.end.new.outlet v.files begun (subst (λ (z : List ℕ). DidFront g.L.Outlet.stands_for c.join_inputs.new.outlet c.end.new.outlet (bytes z)) known.1 c.in_err-end.ensures.err) in
    rw p.1 (subst (λ (w : Stop). Halted read g.O.Source.Source.faults did failed starved c.args.names.now c.join_inputs.new.sources.items w) (sym (p.2 ∙ ap stop_of c.in_err-end.ensures.fault))
    (halted_behind read g.O.Source.Source.faults g.L.Outlet.stands_for did failed starved c.args.names.now c.join_inputs.new.sources.items c.create.new.self c.join_inputs.new.outlet c.join_inputs.new.joiner c.in_ok-packets.packets v broken))

pub returns-in_err-finish-clause-stopped : goal.returns-in_err-finish-clause-stopped
returns-in_err-finish-clause-stopped g c =
    let p = err_from_is_err_and c.from_residual-in_err-finish.result c.from_residual-in_err-finish.ensures.1 in
    let read = IsRead g.O.Source.Source in
    let v = c.in_ok-packets.ensures.ok in
    let known = known_begun read g.L.Outlet.stands_for c.args.names.now c.join_inputs.new.sources.items c.create.new.self c.join_inputs.new.outlet c.join_inputs.new.joiner c.in_ok-packets.packets c.requires.some v in
    let begun = began g.L.Outlet.stands_for c.args.out.now c.args.outlet.now c.create.new.self c.join_inputs.new.outlet v.files c.in_ok-create.ensures.ok v.did in
    let did : List (List WholeBlock) → Type 0 = λ files. IsBegun g.L.Outlet c.args.out.now files c.args.outlet.now c.finish.new.self in
    let failed : List (List WholeBlock) → Type 0 = λ files. DidFront g.L.Outlet.stands_for c.args.outlet.now c.finish.new.self (whole_effects c.args.out.now files) in
    let starved : List (List WholeBlock) → Type 0 = λ files. DidSome g.L.Outlet.stands_for c.args.outlet.now c.finish.new.self (whole_effects c.args.out.now files) in
    let statistics_added = subst (λ (z : List ℕ). Leads g.L.Outlet.stands_for c.join_inputs.new.outlet c.end.new.outlet (bytes z)) known.1 c.in_ok-end.ensures.ok in
    let broken = unfinished g.L.Outlet.stands_for c.args.out.now c.args.outlet.now c.join_inputs.new.outlet c.end.new.outlet c.finish.new.self v.files begun statistics_added c.in_err-finish.ensures.err in
    rw p.1 (subst (λ (w : Stop). Halted read g.O.Source.Source.faults did failed starved c.args.names.now c.join_inputs.new.sources.items w) (sym p.2)
    (halted_behind read g.O.Source.Source.faults g.L.Outlet.stands_for did failed starved c.args.names.now c.join_inputs.new.sources.items c.create.new.self c.join_inputs.new.outlet c.join_inputs.new.joiner c.in_ok-packets.packets v broken))

pub returns-clause-ok : goal.returns-clause-ok
returns-clause-ok g c =
    let read = IsRead g.O.Source.Source in
    let v = c.in_ok-packets.ensures.ok in
    let known = known_begun read g.L.Outlet.stands_for c.args.names.now c.join_inputs.new.sources.items c.create.new.self c.join_inputs.new.outlet c.join_inputs.new.joiner c.in_ok-packets.packets c.requires.some v in
    let begun = began g.L.Outlet.stands_for c.args.out.now c.args.outlet.now c.create.new.self c.join_inputs.new.outlet v.files c.in_ok-create.ensures.ok v.did in
    let statistics_added = subst (λ (z : List ℕ). Leads g.L.Outlet.stands_for c.join_inputs.new.outlet c.end.new.outlet (bytes z)) known.1 c.in_ok-end.ensures.ok in
    record {
      files = v.files;
      named = v.named;
      each = v.each;
      continued = v.continued;
      did = all_done g.L.Outlet.stands_for c.args.out.now c.args.outlet.now c.join_inputs.new.outlet c.end.new.outlet c.finish.new.self v.files begun statistics_added c.in_ok-finish.ensures.ok;
      counted = v.counted;
    }
