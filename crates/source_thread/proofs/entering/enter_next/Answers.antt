use Rattle.std.proofs.Common.{◌∷◌, [], subst}
use Rattle.std.proofs.lemmas.Result.{err_from_is_err_and}
use Rattle.cap_base.specs.Events.{interface, packet}
use Rattle.cap_base.specs.declared.steps.Step.{Step}
use Rattle.source_thread.specs.inner.Readers.{Steps}
use Rattle.source_thread.proofs.Passing.{passed_none, none_passed, joined_before}
use Rattle.source_thread.proofs.entering.enter_next.Goals as goal

pub returns-in_default-clause-front : goal.returns-in_default-clause-front
returns-in_default-clause-front g c = none_passed c.args.reader.now c.next_step.new.reader c.args.sender.now c.in_default.ensures.err

pub returns-in_err-join-in-Iface-clause-front : goal.returns-in_err-join-in-Iface-clause-front
returns-in_err-join-in-Iface-clause-front g c =
    let p = err_from_is_err_and c.from_residual.result c.from_residual.ensures.1 in
    let step = subst (λ (s : Step). Steps c.args.reader.now c.next_step.new.reader s) c.in-Iface.is c.in-Ok.ensures.step in
    rw p.1 (record { more = interface c.in-Iface.iface ∷ []; gives = step; receives = c.in_err-join-in-Iface.ensures.front })

pub add-requires-clause-joined : goal.add-requires-clause-joined
add-requires-clause-joined g c =
    let step = subst (λ (s : Step). Steps c.args.reader.now c.next_step.new.reader s) c.in-Packet.is c.in-Ok.ensures.step in
    joined_before c.args.cell.now c.args.reader.now c.next_step.new.reader c.args.sender.now c.in-Packet.packet c.requires.sender c.requires.numbered c.requires.given step

pub returns-in_err-add-in-Packet-clause-front : goal.returns-in_err-add-in-Packet-clause-front
returns-in_err-add-in-Packet-clause-front g c =
    let p = err_from_is_err_and c.from_residual-in_err-add-in-Packet.result c.from_residual-in_err-add-in-Packet.ensures.1 in
    let step = subst (λ (s : Step). Steps c.args.reader.now c.next_step.new.reader s) c.in-Packet.is c.in-Ok.ensures.step in
    rw p.1 (record { more = packet c.in-Packet.packet ∷ []; gives = step; receives = c.in_err-add-in-Packet.ensures.front })

pub returns-in_ok-join-in-Iface-clause-passed : goal.returns-in_ok-join-in-Iface-clause-passed
returns-in_ok-join-in-Iface-clause-passed g c =
    let step = subst (λ (s : Step). Steps c.args.reader.now c.next_step.new.reader s) c.in-Iface.is c.in-Ok.ensures.step in
    record { more = interface c.in-Iface.iface ∷ []; gives = step; receives = c.in_ok-join-in-Iface.ensures.receives }

pub returns-in_ok-add-in-Packet-clause-passed : goal.returns-in_ok-add-in-Packet-clause-passed
returns-in_ok-add-in-Packet-clause-passed g c =
    let step = subst (λ (s : Step). Steps c.args.reader.now c.next_step.new.reader s) c.in-Packet.is c.in-Ok.ensures.step in
    record { more = packet c.in-Packet.packet ∷ []; gives = step; receives = c.in_ok-add-in-Packet.ensures.receives }

pub returns-in-More-clause-passed : goal.returns-in-More-clause-passed
returns-in-More-clause-passed g c =
    let step = subst (λ (s : Step). Steps c.args.reader.now c.next_step.new.reader s) c.in-More.is c.in-Ok.ensures.step in
    passed_none c.args.reader.now c.next_step.new.reader c.args.sender.now step.0

pub returns-in-Bad-clause-passed : goal.returns-in-Bad-clause-passed
returns-in-Bad-clause-passed g c =
    let step = subst (λ (s : Step). Steps c.args.reader.now c.next_step.new.reader s) c.in-Bad.is c.in-Ok.ensures.step in
    passed_none c.args.reader.now c.next_step.new.reader c.args.sender.now step.0
