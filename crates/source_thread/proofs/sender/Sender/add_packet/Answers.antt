use Rattle.std.proofs.Common.{◌∷◌, []}
use Rattle.cap_base.specs.Events.{packet}
use Rattle.source_thread.proofs.Batches.{received_both, front_both, packet_waits}
use Rattle.source_thread.proofs.sender.Sender.add_packet.Goals as goal

pub returns-in_default-offer_waiting-clause-front : goal.returns-in_default-offer_waiting-clause-front
returns-in_default-offer_waiting-clause-front g c =
    front_both c.args.self.now c.keep.new.self c.offer_waiting.new.self (packet c.args.packet ∷ []) []
    (packet_waits c.args.self.now c.keep.new.self c.args.packet c.keep.ensures.port c.in-Ok.ensures.kept) c.in_default-offer_waiting.ensures.front

pub returns-clause-receives : goal.returns-clause-receives
returns-clause-receives g c =
    received_both c.args.self.now c.keep.new.self c.offer_waiting.new.self (packet c.args.packet ∷ []) []
    (packet_waits c.args.self.now c.keep.new.self c.args.packet c.keep.ensures.port c.in-Ok.ensures.kept) c.in-Ok-offer_waiting.ensures.receives
