use Rattle.std.proofs.Common.{◌||◌, Some, sym, ap, ◌∙◌}
use Rattle.packet_queue.specs.Batches.{Contents}
use Rattle.source_thread.specs.declared.sender.Sender.{Sender}
use Rattle.source_thread.proofs.Batches.{batch_offered, batch_flushed, numbered_offered, received_offered, none_waits}
use Rattle.source_thread.proofs.sender.Sender.offer_waiting.Goals as goal

pub returns-clause-sender : goal.returns-clause-sender
returns-clause-sender g c =
    let old : Sender = c.args.self.now in
    let new : Sender = record { port = c.offer_all.new.self; batch = Some c.clear.new.self; bytes = 0; flushed = old.flushed || c.any_flushed.result; pace = c.reserve.new.self } in
    let e = c.in_ok-batch.ensures in
    none_waits c.args.cell.now new c.offer_all.ensures.port (ap (λ (b : Contents). b.packets) c.clear.ensures) (ap (λ (b : Contents). b.standing) c.clear.ensures) (λ q. absurd cc)
    (batch_flushed old new c.in-Some.batch c.in_ok-batch.batch.verdicts c.any_flushed.result (sym c.take.ensures.value ∙ c.in-Some.is) e.verdicts e.added c.requires.sender.flushed c.any_flushed.ensures)

pub returns-clause-numbered : goal.returns-clause-numbered
returns-clause-numbered g c =
    let old : Sender = c.args.self.now in
    let new : Sender = record { port = c.offer_all.new.self; batch = Some c.clear.new.self; bytes = 0; flushed = old.flushed || c.any_flushed.result; pace = c.reserve.new.self } in
    let e = c.in_ok-batch.ensures in
    numbered_offered old new c.offer_all.ensures.source c.offer_all.ensures.numbers (ap (λ (b : Contents). b.packets) c.clear.ensures)
    (batch_offered old new c.in-Some.batch c.in_ok-batch.batch.verdicts (sym c.take.ensures.value ∙ c.in-Some.is) c.requires.sender.joined e.verdicts e.never_foreign e.added)

pub returns-clause-receives : goal.returns-clause-receives
returns-clause-receives g c =
    let old : Sender = c.args.self.now in
    let new : Sender = record { port = c.offer_all.new.self; batch = Some c.clear.new.self; bytes = 0; flushed = old.flushed || c.any_flushed.result; pace = c.reserve.new.self } in
    let e = c.in_ok-batch.ensures in
    received_offered old new c.offer_all.ensures.source c.offer_all.ensures.numbers (ap (λ (b : Contents). b.packets) c.clear.ensures)
    (batch_offered old new c.in-Some.batch c.in_ok-batch.batch.verdicts (sym c.take.ensures.value ∙ c.in-Some.is) c.requires.sender.joined e.verdicts e.never_foreign e.added)
