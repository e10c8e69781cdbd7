use Rattle.std.proofs.Common.{refl, ap, ◌∙◌, arith}
use Rattle.std.specs.List.{list_any}
use Rattle.source_thread.specs.Told.{SourceFacts, is_refused}
use Rattle.source_thread.proofs.Pieces.{nothing_read}
use Rattle.cap_outside.specs.Causes.{one_higher}
use Rattle.source_thread.specs.Sources.{source_facts}
use Rattle.source_thread.specs.inner.Readers.{name_of}
use Rattle.source_thread.specs.inner.Sending.{number_of}
use Rattle.source_thread.proofs.Causes.{stopped, too_long, read_failed, at_its_end, broken, broke_off}
use Rattle.source_thread.proofs.reading.read_pieces.Goals as goal

pub returns-then-sender-clause-entered : goal.returns-then-sender-clause-entered
returns-then-sender-clause-entered g c =
    let i = c.pieces.invariant in
    let name = name_of c.args.reader.now in
    let snap = c.args.reader.now.snap in
    let number = number_of c.args.sender.now in
    let old : SourceFacts = source_facts (g.S.Source.taken c.args.source.now) (g.S.Source.left c.args.source.now) (g.S.Source.ends c.args.source.now) (g.S.Source.faults c.args.source.now) in
    let new : SourceFacts = source_facts (g.S.Source.taken c.pieces.source) (g.S.Source.left c.pieces.source) (g.S.Source.ends c.pieces.source) (g.S.Source.faults c.pieces.source) in
    stopped c.args.cell.now c.pieces.reader c.pieces.sender name snap number old new i.sender i.number i.name i.snap refl refl i.content i.reads i.waits.sound i.empty i.numbered c.if-sender.true (omega (arith, i.fed, c.pieces-test.true)) i.ends i.faults

pub returns-in-Ok-Failed-clause-entered : goal.returns-in-Ok-Failed-clause-entered
returns-in-Ok-Failed-clause-entered g c =
    let i = c.pieces.invariant in
    let name = name_of c.args.reader.now in
    let snap = c.args.reader.now.snap in
    let number = number_of c.args.sender.now in
    let old : SourceFacts = source_facts (g.S.Source.taken c.args.source.now) (g.S.Source.left c.args.source.now) (g.S.Source.ends c.args.source.now) (g.S.Source.faults c.args.source.now) in
    let new : SourceFacts = source_facts (g.S.Source.taken c.read_piece.new.source) (g.S.Source.left c.read_piece.new.source) (g.S.Source.ends c.read_piece.new.source) (g.S.Source.faults c.read_piece.new.source) in
    let k = rw c.in-Ok-Failed.field-0-is at c.in-Ok-Failed.ensures.progress in
    read_failed c.args.cell.now c.read_piece.new.reader c.read_piece.new.sender name snap number old new c.read_piece.ensures.sender (c.read_piece.ensures.keeps.number ∙ i.number) (c.read_piece.ensures.name ∙ i.name) (c.read_piece.ensures.snap ∙ i.snap) refl refl (c.read_piece.ensures.content ∙ i.content) (c.in-Ok-Failed.ensures.reads (g.S.Source.taken c.args.source.now) i.reads) c.read_piece.ensures.few k.0.sound c.read_piece.ensures.empty c.in-Ok-Failed.ensures.numbered k.1 (k.2 ∙ ap one_higher i.faults) (k.3 ∙ i.ends)

pub returns-in-Ok-Ended-clause-entered : goal.returns-in-Ok-Ended-clause-entered
returns-in-Ok-Ended-clause-entered g c =
    let i = c.pieces.invariant in
    let name = name_of c.args.reader.now in
    let snap = c.args.reader.now.snap in
    let number = number_of c.args.sender.now in
    let old : SourceFacts = source_facts (g.S.Source.taken c.args.source.now) (g.S.Source.left c.args.source.now) (g.S.Source.ends c.args.source.now) (g.S.Source.faults c.args.source.now) in
    let new : SourceFacts = source_facts (g.S.Source.taken c.read_piece.new.source) (g.S.Source.left c.read_piece.new.source) (g.S.Source.ends c.read_piece.new.source) (g.S.Source.faults c.read_piece.new.source) in
    let k = rw c.in-Ok-Ended.field-0-is at c.in-Ok-Ended.ensures.progress in
    at_its_end c.args.cell.now c.read_piece.new.reader c.read_piece.new.sender name snap number old new c.read_piece.ensures.sender (c.read_piece.ensures.keeps.number ∙ i.number) (c.read_piece.ensures.name ∙ i.name) (c.read_piece.ensures.snap ∙ i.snap) refl refl (c.read_piece.ensures.content ∙ i.content) c.finish.result c.finish.ensures.end c.finish.ensures.ends (c.in-Ok-Ended.ensures.reads (g.S.Source.taken c.args.source.now) i.reads) k.0.sound c.read_piece.ensures.empty c.in-Ok-Ended.ensures.numbered
    (omega (arith, k.5, i.fed, c.pieces-test.true)) (k.2 ∙ ap one_higher i.ends) k.3 k.1 (k.4 ∙ i.faults)

pub returns-in-Ok-Broken-clause-entered : goal.returns-in-Ok-Broken-clause-entered
returns-in-Ok-Broken-clause-entered g c =
    let i = c.pieces.invariant in
    let name = name_of c.args.reader.now in
    let snap = c.args.reader.now.snap in
    let number = number_of c.args.sender.now in
    let old : SourceFacts = source_facts (g.S.Source.taken c.args.source.now) (g.S.Source.left c.args.source.now) (g.S.Source.ends c.args.source.now) (g.S.Source.faults c.args.source.now) in
    let new : SourceFacts = source_facts (g.S.Source.taken c.read_piece.new.source) (g.S.Source.left c.read_piece.new.source) (g.S.Source.ends c.read_piece.new.source) (g.S.Source.faults c.read_piece.new.source) in
    let k = rw c.in-Ok-Broken.field-0-is at c.in-Ok-Broken.ensures.progress in
    broken c.args.cell.now c.read_piece.new.reader c.read_piece.new.sender name snap number old new c.read_piece.ensures.sender (c.read_piece.ensures.keeps.number ∙ i.number) (c.read_piece.ensures.name ∙ i.name) (c.read_piece.ensures.snap ∙ i.snap) refl refl (c.read_piece.ensures.content ∙ i.content) c.finish-in-Ok-Broken.result c.finish-in-Ok-Broken.ensures.end c.finish-in-Ok-Broken.ensures.how k.0 c.finish-in-Ok-Broken.ensures.ends (c.in-Ok-Broken.ensures.reads (g.S.Source.taken c.args.source.now) i.reads) c.read_piece.ensures.few c.read_piece.ensures.empty c.in-Ok-Broken.ensures.numbered (k.1 ∙ i.ends) (k.2 ∙ i.faults)

pub returns-in-Err-clause-entered : goal.returns-in-Err-clause-entered
returns-in-Err-clause-entered g c =
    let i = c.pieces.invariant in
    let name = name_of c.args.reader.now in
    let snap = c.args.reader.now.snap in
    let number = number_of c.args.sender.now in
    let old : SourceFacts = source_facts (g.S.Source.taken c.args.source.now) (g.S.Source.left c.args.source.now) (g.S.Source.ends c.args.source.now) (g.S.Source.faults c.args.source.now) in
    let new : SourceFacts = source_facts (g.S.Source.taken c.read_piece.new.source) (g.S.Source.left c.read_piece.new.source) (g.S.Source.ends c.read_piece.new.source) (g.S.Source.faults c.read_piece.new.source) in
    broke_off c.args.cell.now c.pieces.reader c.read_piece.new.sender name snap number old new c.read_piece.ensures.sender (c.read_piece.ensures.keeps.number ∙ i.number) i.name i.snap refl refl (c.read_piece.ensures.content ∙ i.content) c.in-Err.how c.in-Err.ensures.cause (c.in-Err.ensures.front (g.S.Source.taken c.args.source.now) i.reads) c.read_piece.ensures.empty (c.in-Err.ensures.counts.0 ∙ i.ends) (c.in-Err.ensures.counts.1 ∙ i.faults)

pub returns-clause-entered : goal.returns-clause-entered
returns-clause-entered g c =
    let i = c.pieces.invariant in
    let name = name_of c.args.reader.now in
    let snap = c.args.reader.now.snap in
    let number = number_of c.args.sender.now in
    let old : SourceFacts = source_facts (g.S.Source.taken c.args.source.now) (g.S.Source.left c.args.source.now) (g.S.Source.ends c.args.source.now) (g.S.Source.faults c.args.source.now) in
    let new : SourceFacts = source_facts (g.S.Source.taken c.pieces.source) (g.S.Source.left c.pieces.source) (g.S.Source.ends c.pieces.source) (g.S.Source.faults c.pieces.source) in
    too_long c.args.cell.now c.pieces.reader c.pieces.sender name snap number old new i.sender i.number i.name i.snap refl refl i.content i.reads i.waits.sound i.empty i.numbered (omega (arith, i.fed, c.pieces-test.false)) i.ends i.faults

pub pieces-init : goal.pieces-init
pieces-init g c = record {
  sender = c.requires.sender;
  numbered = ap (list_any is_refused) c.requires.fresh;
  empty = c.requires.empty;
  number = refl;
  reads = nothing_read (g.S.Source.taken c.args.source.now) c.args.reader.now c.args.sender.now c.requires.stands c.requires.fresh c.requires.empty;
  waits = c.requires.waits;
  drained = c.requires.drained;
  name = refl;
  snap = refl;
  fed = omega (arith, c.requires.begun);
  piece = c.requires.piece;
  content = refl;
  ends = refl;
  faults = refl;
}
