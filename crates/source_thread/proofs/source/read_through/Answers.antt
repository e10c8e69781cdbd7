use Rattle.std.proofs.Common.{refl}
use Rattle.packet_queue.specs.Ends.{mine, port_pass, port_source}
use Rattle.source_thread.specs.Sources.{source_facts}
use Rattle.source_thread.proofs.Causes.{could_not_begin}
use Rattle.source_thread.proofs.source.read_through.Goals as goal

pub returns-in_default-clause-entered : goal.returns-in_default-clause-entered
returns-in_default-clause-entered g c = could_not_begin (port_source c.args.port) c.args.name.now c.args.snap (source_facts (g.S.Source.taken c.args.source.now) (g.S.Source.left c.args.source.now) (g.S.Source.ends c.args.source.now) (g.S.Source.faults c.args.source.now)) (mine (port_pass c.args.port)) refl c.requires.fresh
