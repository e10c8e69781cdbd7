use Rattle.source_thread.proofs.Passing.{passed_out, passed_out_front, front_out}
use Rattle.source_thread.proofs.entering.enter_events.Goals as goal

pub returns-in-Ok-offer_batch-clause-passed : goal.returns-in-Ok-offer_batch-clause-passed
returns-in-Ok-offer_batch-clause-passed g c =
    passed_out c.args.reader.now c.enter_kept.new.reader c.args.sender.now c.enter_kept.new.sender c.offer_batch.new.self c.in-Ok.ensures.passed c.in-Ok-offer_batch.ensures.receives

pub returns-in-Err-clause-front : goal.returns-in-Err-clause-front
returns-in-Err-clause-front g c =
    front_out c.args.reader.now c.enter_kept.new.reader c.args.sender.now c.enter_kept.new.sender c.offer_rest.new.sender c.in-Err.ensures.front c.offer_rest.ensures.front

pub returns-in_default-clause-front : goal.returns-in_default-clause-front
returns-in_default-clause-front g c =
    passed_out_front c.args.reader.now c.enter_kept.new.reader c.args.sender.now c.enter_kept.new.sender c.offer_batch.new.self c.in-Ok.ensures.passed c.in_default.ensures.front
