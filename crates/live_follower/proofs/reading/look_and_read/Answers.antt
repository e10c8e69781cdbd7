use Rattle.pcapng_pipe.specs.Pipe.{fed_count}
use Rattle.live_follower.proofs.Askings.{look_alone, look_then}
use Rattle.live_follower.proofs.reading.look_and_read.Goals as goal

pub returns-in_err-look-clause-asked : goal.returns-in_err-look-clause-asked
returns-in_err-look-clause-asked g c = look_alone g.V.View.asked c.args.view.now c.look.new.view c.args.name.now (fed_count c.args.pipe.now) _ c.look.ensures.asked

pub returns-clause-asked : goal.returns-clause-asked
returns-clause-asked g c = look_then g.V.View.asked c.args.view.now c.look.new.view c.read_on.new.view c.args.name.now (fed_count c.args.pipe.now) (fed_count c.read_on.new.pipe) c.read_on.result c.look.ensures.asked c.read_on.ensures.asked
