use Rattle.std.proofs.Common.{refl}
use Rattle.source_thread.specs.Sources.{source_facts}
use Rattle.source_thread.specs.inner.Sending.{number_of, entries_of}
use Rattle.source_thread.proofs.Causes.{could_not_begin}
use Rattle.source_thread.proofs.source.read_with.Goals as goal

pub returns-in_default-clause-entered : goal.returns-in_default-clause-entered
returns-in_default-clause-entered g c = could_not_begin (number_of c.args.sender.now) c.args.name.now c.args.snap (source_facts (g.S.Source.taken c.args.source.now) (g.S.Source.left c.args.source.now) (g.S.Source.ends c.args.source.now) (g.S.Source.faults c.args.source.now)) (entries_of c.args.sender.now) refl c.requires.fresh

pub returns-in_default-new_reader-clause-entered : goal.returns-in_default-new_reader-clause-entered
returns-in_default-new_reader-clause-entered g c = could_not_begin (number_of c.args.sender.now) c.args.name.now c.args.snap (source_facts (g.S.Source.taken c.args.source.now) (g.S.Source.left c.args.source.now) (g.S.Source.ends c.args.source.now) (g.S.Source.faults c.args.source.now)) (entries_of c.args.sender.now) refl c.requires.fresh
