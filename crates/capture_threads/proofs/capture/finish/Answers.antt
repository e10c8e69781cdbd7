use Rattle.std.proofs.Common.{◌≡◌, length, sym, ap, ◌∙◌, arith}
use Rattle.turn_cell.specs.Passes.{start}
use Rattle.packet_queue.specs.Queue.{sources_of}
use Rattle.source_thread.specs.Sources.{facts_of}
use Rattle.capture_threads.proofs.Capturing.{run_length, can_gather, gathered, gathered_all, captured, last_told}
use Rattle.capture_threads.proofs.capture.finish.Goals as goal

pub gather-pass-requires-clause-places : goal.gather-pass-requires-clause-places
gather-pass-requires-clause-places g c κs within =
    can_gather (facts_of g.S.Source.taken g.S.Source.left g.S.Source.ends g.S.Source.faults) c.args.snap c.args.cell c.args.places.items c.deref_mut.result.now c.args.last c.deref_mut.ensures.value c.requires.run c.requires.last

pub gather-pass-requires-clause-room : goal.gather-pass-requires-clause-room
gather-pass-requires-clause-room g c κs within =
    let r = c.requires.run in
    let count = run_length (facts_of g.S.Source.taken g.S.Source.left g.S.Source.ends g.S.Source.faults) c.args.snap c.args.cell 0 r.0 c.args.places.items r.1 in
    omega (arith, c.requires.room, r.2, count, ap length c.deref_mut.ensures.value, ap length c.requires.none_ended)

pub close-queue-requires-clause-pass : goal.close-queue-requires-clause-pass
close-queue-requires-clause-pass g c κs =
    (gathered (facts_of g.S.Source.taken g.S.Source.left g.S.Source.ends g.S.Source.faults) c.args.snap c.args.cell c.args.places.items c.deref_mut.result.now c.args.last c.deref_mut.ensures.value c.gather-pass.result c.args.ended.items c.gather-pass.new.ended.items c.requires.none_ended c.requires.run c.requires.last c.gather-pass.ensures.gathered).1.pass

pub close-queue-requires-clause-whole : goal.close-queue-requires-clause-whole
close-queue-requires-clause-whole g c κs =
    let x = (gathered (facts_of g.S.Source.taken g.S.Source.left g.S.Source.ends g.S.Source.faults) c.args.snap c.args.cell c.args.places.items c.deref_mut.result.now c.args.last c.deref_mut.ensures.value c.gather-pass.result c.args.ended.items c.gather-pass.new.ended.items c.requires.none_ended c.requires.run c.requires.last c.gather-pass.ensures.gathered).1 in
    (x.numbers.0, x.numbers.1 ∙ c.requires.last.2 ∙ sym c.requires.counts.0)

pub returns-clause-captured : goal.returns-clause-captured
returns-clause-captured g c befores run =
    let f = facts_of g.S.Source.taken g.S.Source.left g.S.Source.ends g.S.Source.faults in
    let count : length befores ≡ sources_of (start c.args.cell) = run_length f c.args.snap c.args.cell 0 befores c.args.places.items run ∙ sym (run_length f c.args.snap c.args.cell 0 c.requires.run.0 c.args.places.items c.requires.run.1) ∙ c.requires.run.2 in
    captured f c.args.snap c.args.cell befores c.gather-pass.new.ended.items c.args.last c.gather-pass.result c.close-queue.result.0 c.close-queue.result.1
    (gathered_all f c.args.snap c.args.cell c.args.places.items c.deref_mut.result.now c.args.last c.deref_mut.ensures.value c.gather-pass.result c.args.ended.items c.gather-pass.new.ended.items c.requires.none_ended befores run (c.requires.last.1 ∙ sym count) c.gather-pass.ensures.gathered)
    c.close-queue.ensures c.requires.last.1 c.requires.last.2 count c.requires.counts.1

pub returns-clause-last : goal.returns-clause-last
returns-clause-last g c =
    let f = facts_of g.S.Source.taken g.S.Source.left g.S.Source.ends g.S.Source.faults in
    let x = gathered f c.args.snap c.args.cell c.args.places.items c.deref_mut.result.now c.args.last c.deref_mut.ensures.value c.gather-pass.result c.args.ended.items c.gather-pass.new.ended.items c.requires.none_ended c.requires.run c.requires.last c.gather-pass.ensures.gathered in
    last_told f c.args.snap c.args.cell x.0 c.gather-pass.new.ended.items c.args.last c.gather-pass.result c.close-queue.result.0 c.close-queue.result.1 x.1 c.close-queue.ensures c.requires.last.1 c.requires.last.2
