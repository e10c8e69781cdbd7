use Rattle.std.proofs.Common.{◌∷◌, []}
use Rattle.cap_base.specs.Events.{packet}
use Rattle.source_thread.proofs.Batches.{received_both, front_both, front_more, if_ok, if_err}
use Rattle.source_thread.proofs.sender.Sender.add.Goals as goal

pub returns-in_default-clause-front : goal.returns-in_default-clause-front
returns-in_default-clause-front g c = front_more c.args.self.now c.make_room.new.self [] (packet c.args.packet ∷ []) c.in_default.ensures.front

pub returns-clause-receives : goal.returns-clause-receives
returns-clause-receives g c = if_ok c.add_packet.result (received_both c.args.self.now c.make_room.new.self c.add_packet.new.self [] (packet c.args.packet ∷ []) c.in-Ok.ensures.receives) c.add_packet.ensures.receives

pub returns-clause-front : goal.returns-clause-front
returns-clause-front g c = if_err c.add_packet.result (front_both c.args.self.now c.make_room.new.self c.add_packet.new.self [] (packet c.args.packet ∷ []) c.in-Ok.ensures.receives) c.add_packet.ensures.front
