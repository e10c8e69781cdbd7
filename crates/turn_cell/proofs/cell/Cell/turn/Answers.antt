use Rattle.std.proofs.Common.{rules, ap, ◌∙◌, sym, subst, ℕ, suc, List, [], ◌∷◌, ◌++◌, cond, Bool}
use Rattle.turn_cell.specs.declared.view.Stage.TheVariants.{Idle, Worn}
use Rattle.atomic_table.specs.Table.{rest}
use Rattle.turn_cell.specs.declared.view.View.{View}
use Rattle.turn_cell.specs.declared.pass.Pass.{Pass}
use Rattle.turn_cell.specs.History.{tag, Turned}
use Rattle.turn_cell.specs.inner.Transitions.{after_turn}
use Rattle.turn_cell.proofs.DrawStep.{draw_keeps}
use Rattle.turn_cell.specs.Passes.{start, low, high, seen, made, is_worn}
use Rattle.turn_cell.proofs.Seats.{seated, is_pass}
use Rattle.turn_cell.proofs.TurnContract.{waiting, ready, made_after, stands_after, seen_after, is_turn, pass_after}
use Rattle.turn_cell.proofs.cell.Cell.turn.Goals as goal

pub fetch_add-ticket-requires : goal.fetch_add-ticket-requires
unfolding start low high seen made is_worn
fetch_add-ticket-requires g c = let o = g.O.TurnObject in ((seated _ _ c.requires.pass).seat.table, search rules, draw_keeps o.stands_for (Turned o.entries o.admits) _ _ _ _ ((seated _ _ c.requires.pass).seat.stage ∙ ap (λ (b : Bool). cond b Worn Idle) c.if-pass.false) (seated _ _ c.requires.pass).some_number)

pub step-reply-requires : goal.step-reply-requires
unfolding start low high seen made is_worn
step-reply-requires g c = let o = g.O.TurnObject in let p = c.args.pass.now in
    let h = ready o.stands_for o.entries o.admits c.args.self.now p c.fetch_add-ticket.result c.args.call c.slot_mut-object.result.now _ _ (seated _ _ c.requires.pass) c.requires.admitted c.fetch_add-ticket.ensures.2 c.if-ticket-self.false c.await_turn.ensures.finds c.slot_mut-object.ensures.value in
    (c.args.self.now.table.shared.key.start.value, p.seat.me.0.seen ++ h.between, p.seat.me.0.low, h.stands, h.short, h.admitted)

pub await_turn-requires-clause-table : goal.await_turn-requires-clause-table
await_turn-requires-clause-table g c = λ _ _. c.fetch_add-ticket.ensures.0 ∙ (seated _ _ c.requires.pass).seat.table

pub await_turn-requires-clause-waits : goal.await_turn-requires-clause-waits
await_turn-requires-clause-waits g c = let o = g.O.TurnObject in λ _ _. waiting o.stands_for o.entries o.admits c.args.self.now c.args.pass.now c.fetch_add-ticket.result _ (seated _ _ c.requires.pass) c.fetch_add-ticket.ensures.2 c.if-ticket-self.false

pub pass_on-requires-clause-table : goal.pass_on-requires-clause-table
pass_on-requires-clause-table g c = λ _ _. c.await_turn.ensures.same.0 ∙ c.fetch_add-ticket.ensures.0 ∙ (seated _ _ c.requires.pass).seat.table

pub pass_on-requires-clause-holds : goal.pass_on-requires-clause-holds
unfolding low made start
pass_on-requires-clause-holds g c = let o = g.O.TurnObject in let p = c.args.pass.now in let t : ℕ = c.fetch_add-ticket.result in
    let h = ready o.stands_for o.entries o.admits c.args.self.now p t c.args.call c.slot_mut-object.result.now _ _ (seated _ _ c.requires.pass) c.requires.admitted c.fetch_add-ticket.ensures.2 c.if-ticket-self.false c.await_turn.ensures.finds c.slot_mut-object.ensures.value in
    λ _ _. (
      ap (λ (v : View g.row.O.Denot g.row.O-Entry.Denot). v.stage) h.view,
      ap (λ (v : View g.row.O.Denot g.row.O-Entry.Denot). v.key) h.view ∙ (seated _ _ c.requires.pass).seat.key,
      λ i. (0, sym c.of-after.ensures i) ∷ ap rest h.slot i,
    )

pub pass_on-requires-clause-made : goal.pass_on-requires-clause-made
unfolding start low high seen made is_worn
pass_on-requires-clause-made g c = let o = g.O.TurnObject in let p = c.args.pass.now in let t : ℕ = c.fetch_add-ticket.result in let k = c.args.self.now.table.shared.key in
    let h = ready o.stands_for o.entries o.admits c.args.self.now p t c.args.call c.slot_mut-object.result.now _ _ (seated _ _ c.requires.pass) c.requires.admitted c.fetch_add-ticket.ensures.2 c.if-ticket-self.false c.await_turn.ensures.finds c.slot_mut-object.ensures.value in
    λ _ _. subst (λ (z : g.row.O-Call.Denot). Turned o.entries o.admits k.callers k.start.value (suc t) (c.await_turn.new.seat.me.0.seen ++ tag c.await_turn.new.seat.me.0.low (o.entries z c.step-reply.result))) (sym c.of-said.ensures)
    (made_after o.stands_for o.entries o.admits c.args.self.now p t c.args.call _ _ h c.step-reply.result c.step-reply.ensures.number)

pub pass_on-requires-clause-stands : goal.pass_on-requires-clause-stands
unfolding start low high seen made is_worn
pass_on-requires-clause-stands g c = let o = g.O.TurnObject in let p = c.args.pass.now in let t : ℕ = c.fetch_add-ticket.result in let k = c.args.self.now.table.shared.key in
    let h = ready o.stands_for o.entries o.admits c.args.self.now p t c.args.call c.slot_mut-object.result.now _ _ (seated _ _ c.requires.pass) c.requires.admitted c.fetch_add-ticket.ensures.2 c.if-ticket-self.false c.await_turn.ensures.finds c.slot_mut-object.ensures.value in
    λ _ _. subst (λ (z : g.row.O-Call.Denot × g.row.O.Denot). o.stands_for k.start.value z.1 (c.await_turn.new.seat.me.0.seen ++ tag c.await_turn.new.seat.me.0.low (o.entries z.0 c.step-reply.result))) (λ i. (sym c.of-said.ensures i, sym c.of-after.ensures i))
    (stands_after o.stands_for o.entries o.admits c.args.self.now p t c.args.call _ _ h c.step-reply.result c.step-reply.new.self (c.step-reply.ensures.history k.start.value (p.seat.me.0.seen ++ h.between) p.seat.me.0.low h.stands h.short h.admitted))

pub returns-clause-turn : goal.returns-clause-turn
unfolding start low high seen made is_worn
returns-clause-turn g c = let o = g.O.TurnObject in let p = c.args.pass.now in let t : ℕ = c.fetch_add-ticket.result in let k = c.args.self.now.table.shared.key in
    let h = ready o.stands_for o.entries o.admits c.args.self.now p t c.args.call c.slot_mut-object.result.now _ _ (seated _ _ c.requires.pass) c.requires.admitted c.fetch_add-ticket.ensures.2 c.if-ticket-self.false c.await_turn.ensures.finds c.slot_mut-object.ensures.value in
    let q : Pass g.row.O.Denot g.row.O-Call.Denot g.row.O-Reply.Denot g.row.O-Entry.Denot = record { seat = c.pass_on.new.seat; worn = c.args.pass.now.worn } in
    is_turn o.stands_for o.entries o.admits c.args.self.now p t c.args.call _ _ h c.step-reply.result q c.step-reply.new.self c.step-reply.ensures.number (c.step-reply.ensures.history k.start.value (p.seat.me.0.seen ++ h.between) p.seat.me.0.low h.stands h.short h.admitted)
    (c.pass_on.ensures.view ∙ ap (λ (z : g.row.O-Call.Denot). (after_turn c.await_turn.new.seat.me.0 (o.entries z c.step-reply.result), [])) c.of-said.ensures)

pub returns-clause-reply : goal.returns-clause-reply
unfolding start low high seen made is_worn
returns-clause-reply g c = let o = g.O.TurnObject in let p = c.args.pass.now in let t : ℕ = c.fetch_add-ticket.result in let k = c.args.self.now.table.shared.key in
    let h = ready o.stands_for o.entries o.admits c.args.self.now p t c.args.call c.slot_mut-object.result.now _ _ (seated _ _ c.requires.pass) c.requires.admitted c.fetch_add-ticket.ensures.2 c.if-ticket-self.false c.await_turn.ensures.finds c.slot_mut-object.ensures.value in
    let q : Pass g.row.O.Denot g.row.O-Call.Denot g.row.O-Reply.Denot g.row.O-Entry.Denot = record { seat = c.pass_on.new.seat; worn = c.args.pass.now.worn } in
    subst (λ (z : List (ℕ × g.row.O-Entry.Denot)). o.answers z c.args.call c.step-reply.result) (sym (seen_after o.stands_for o.entries o.admits c.args.self.now p t c.args.call _ _ h c.step-reply.result q
    (c.pass_on.ensures.view ∙ ap (λ (z : g.row.O-Call.Denot). (after_turn c.await_turn.new.seat.me.0 (o.entries z c.step-reply.result), [])) c.of-said.ensures)))
    (c.step-reply.ensures.reply k.start.value (p.seat.me.0.seen ++ h.between) p.seat.me.0.low h.stands h.short h.admitted)

pub returns-clause-pass : goal.returns-clause-pass
unfolding start low high seen made is_worn
returns-clause-pass g c = let o = g.O.TurnObject in let p = c.args.pass.now in let t : ℕ = c.fetch_add-ticket.result in
    let h = ready o.stands_for o.entries o.admits c.args.self.now p t c.args.call c.slot_mut-object.result.now _ _ (seated _ _ c.requires.pass) c.requires.admitted c.fetch_add-ticket.ensures.2 c.if-ticket-self.false c.await_turn.ensures.finds c.slot_mut-object.ensures.value in
    let q : Pass g.row.O.Denot g.row.O-Call.Denot g.row.O-Reply.Denot g.row.O-Entry.Denot = record { seat = c.pass_on.new.seat; worn = c.args.pass.now.worn } in
    let after = pass_after o.stands_for o.entries o.admits c.args.self.now p t c.args.call _ _ h c.step-reply.result q (seated _ _ c.requires.pass) (c.pass_on.ensures.same.0 ∙ c.await_turn.ensures.same.0 ∙ c.fetch_add-ticket.ensures.0) c.if-pass.false
    (c.pass_on.ensures.view ∙ ap (λ (z : g.row.O-Call.Denot). (after_turn c.await_turn.new.seat.me.0 (o.entries z c.step-reply.result), [])) c.of-said.ensures) in
    (is_pass _ _ after.0, after.1, after.2)
