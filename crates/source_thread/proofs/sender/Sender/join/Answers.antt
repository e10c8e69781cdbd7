use Rattle.std.proofs.Common.{◌∷◌, []}
use Rattle.std.specs.Option.{option_to_list}
use Rattle.cap_base.specs.Events.{interface}
use Rattle.source_thread.specs.declared.sender.Sender.{Sender}
use Rattle.source_thread.proofs.Batches.{received_both, front_more, front_all, interface_joined}
use Rattle.source_thread.proofs.sender.Sender.join.Goals as goal

pub returns-in_default-clause-front : goal.returns-in_default-clause-front
returns-in_default-clause-front g c = front_more c.args.self.now c.offer_batch.new.self [] (interface c.args.iface ∷ []) c.in_default.ensures.front

pub returns-in-Ok-None-clause-front : goal.returns-in-Ok-None-clause-front
returns-in-Ok-None-clause-front g c =
    let mid : Sender = c.offer_batch.new.self in
    let new : Sender = record { port = c.join.new.self; batch = mid.batch; bytes = mid.bytes; flushed = mid.flushed; pace = mid.pace } in
    let e = c.in-Ok-None.ensures in
    front_all c.args.self.now new (interface c.args.iface ∷ []) (received_both c.args.self.now mid new [] (interface c.args.iface ∷ []) c.in-Ok.ensures.receives
    (interface_joined mid new c.args.iface c.in-Ok-None.field-0 c.offer_batch.ensures.empty c.offer_batch.ensures.empty c.join.ensures.source (option_to_list c.in-Ok-None.field-0) e.numbers e.added))

pub returns-in-Ok-Some-clause-receives : goal.returns-in-Ok-Some-clause-receives
returns-in-Ok-Some-clause-receives g c =
    let mid : Sender = c.offer_batch.new.self in
    let new : Sender = record { port = c.join.new.self; batch = mid.batch; bytes = mid.bytes; flushed = mid.flushed; pace = mid.pace } in
    let e = c.in-Ok-Some.ensures in
    received_both c.args.self.now mid new [] (interface c.args.iface ∷ []) c.in-Ok.ensures.receives
    (interface_joined mid new c.args.iface c.in-Ok-Some.field-0 c.offer_batch.ensures.empty c.offer_batch.ensures.empty c.join.ensures.source (option_to_list c.in-Ok-Some.field-0) e.numbers e.added)
