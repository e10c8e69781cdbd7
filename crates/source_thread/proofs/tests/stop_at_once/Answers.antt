use Rattle.std.proofs.Common.{ap, arith}
use Rattle.std.specs.List.{list_any}
use Rattle.cap_base.specs.Legal.{is_a_stop}
use Rattle.cap_base.specs.declared.entries.Why.TheVariants as W
use Rattle.packet_queue.specs.Ends.{mine, drain_pass}
use Rattle.packet_queue.proofs.FirstStop.{first_stop}
use Rattle.source_thread.proofs.tests.stop_at_once.Goals as goal

pub stop-requires-clause-may : goal.stop-requires-clause-may
stop-requires-clause-may g c = first_stop (mine (drain_pass c.args.drain.now)) W.Packets 0 0 (record { stops = ap (list_any is_a_stop) c.requires.fresh; packets_taken = omega arith }) (omega arith) (omega arith)
