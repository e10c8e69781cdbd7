use Rattle.std.proofs.Common.{◌≡◌, [], ◌∷◌, subst, ◌∙◌}
use Rattle.cap_base.specs.Endings.{IsOpen}
use Rattle.cap_base.specs.Events.{interface, packet}
use Rattle.cap_base.specs.declared.steps.Step.{Step}
use Rattle.cap_base.specs.declared.endings.How.TheVariants as how
use Rattle.pcapng_pipe.specs.Pipe.{Steps, IsLawful}
use Rattle.pcapng_pipe.proofs.Going.{on_err}
use Rattle.live_follower.specs.Faults.{IsBadAt}
use Rattle.live_follower.proofs.Readings.{gives_then, gives_events, all_given, bad_at}
use Rattle.live_follower.proofs.packets.next_packet.Goals as goal

pub returns-in_err-packet-clause-err : goal.returns-in_err-packet-clause-err
returns-in_err-packet-clause-err c = on_err c.from_residual.result _ (gives_then c.args.pipe.now c.steps.pipe c.next.new.self [] c.steps.invariant.gives (gives_events c.steps.pipe c.next.new.self [] c.next.ensures.name c.in_err-packet.ensures.err))

pub returns-in-Packet-clause-gives : goal.returns-in-Packet-clause-gives
returns-in-Packet-clause-gives c =
    let s = subst (λ (x : Step). Steps c.steps.pipe c.next.new.self x) c.in-Packet.is c.in_ok-packet.ensures.step in
    gives_then c.args.pipe.now c.steps.pipe c.next.new.self (c.in-Packet.packet ∷ []) c.steps.invariant.gives (gives_events c.steps.pipe c.next.new.self (packet c.in-Packet.packet ∷ []) c.next.ensures.name s)

pub returns-in-More-clause-gives : goal.returns-in-More-clause-gives
returns-in-More-clause-gives c =
    let s = subst (λ (x : Step). Steps c.steps.pipe c.next.new.self x) c.in-More.is c.in_ok-packet.ensures.step in
    gives_then c.args.pipe.now c.steps.pipe c.next.new.self [] c.steps.invariant.gives (gives_events c.steps.pipe c.next.new.self [] c.next.ensures.name s.0)

pub returns-in-More-clause-found : goal.returns-in-More-clause-found
returns-in-More-clause-found c =
    let s = subst (λ (x : Step). Steps c.steps.pipe c.next.new.self x) c.in-More.is c.in_ok-packet.ensures.step in
    let lawful = subst (λ (x : Step). IsLawful c.steps.pipe c.next.new.self x) c.in-More.is c.in_ok-packet.ensures.lawful in
    record { kept = lawful.0; reading = lawful.1; all = all_given c.next.new.self IsOpen IsOpen (λ h p. p) s.2 }

pub returns-in-Bad-clause-gives : goal.returns-in-Bad-clause-gives
returns-in-Bad-clause-gives c =
    let s = subst (λ (x : Step). Steps c.steps.pipe c.next.new.self x) c.in-Bad.is c.in_ok-packet.ensures.step in
    gives_then c.args.pipe.now c.steps.pipe c.next.new.self [] c.steps.invariant.gives (gives_events c.steps.pipe c.next.new.self [] c.next.ensures.name s.0)

pub returns-in-Bad-clause-found : goal.returns-in-Bad-clause-found
returns-in-Bad-clause-found c =
    let s = subst (λ (x : Step). Steps c.steps.pipe c.next.new.self x) c.in-Bad.is c.in_ok-packet.ensures.step in
    all_given c.next.new.self (λ h. h ≡ how.Bad c.in-Bad.code c.in-Bad.at) (IsBadAt c.in-Bad.at) (bad_at c.in-Bad.code c.in-Bad.at) s.2

pub steps-preserved-in-Iface : goal.steps-preserved-in-Iface
steps-preserved-in-Iface c =
    let s = subst (λ (x : Step). Steps c.steps.pipe c.next.new.self x) c.in-Iface.is c.in_ok-packet.ensures.step in
    record {
      gives = gives_then c.args.pipe.now c.steps.pipe c.next.new.self [] c.steps.invariant.gives (gives_events c.steps.pipe c.next.new.self (interface c.in-Iface.field-0 ∷ []) c.next.ensures.name s);
      same = c.next.ensures.same ∙ c.steps.invariant.same;
    }
