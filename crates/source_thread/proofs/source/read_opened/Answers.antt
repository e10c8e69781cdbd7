use Rattle.std.proofs.Common.{sym, subst, Option}
use Rattle.cap_base.specs.declared.endings.How.TheVariants as hows
use Rattle.packet_queue.specs.Ends.{mine, port_pass, port_source}
use Rattle.source_thread.specs.Sources.{facts_of}
use Rattle.source_thread.specs.inner.Sending.{SourceEntered}
use Rattle.source_thread.proofs.Causes.{had_none}
use Rattle.source_thread.proofs.source.read_opened.Goals as goal

pub returns-in-None-clause-entered : goal.returns-in-None-clause-entered
returns-in-None-clause-entered g c = rw c.in-None.is (had_none (port_source c.args.port) c.args.name.now c.args.snap (mine (port_pass c.args.port)) c.requires.fresh)
