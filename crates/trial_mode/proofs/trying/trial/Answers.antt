use Rattle.trial_mode.specs.Streams.{streams_from}
use Rattle.trial_mode.proofs.Results.{tried}
use Rattle.trial_mode.proofs.trying.trial.Goals as goal

pub returns-clause-tried : goal.returns-clause-tried
returns-clause-tried g c = tried g.K.Sink.written g.K.Sink.faults (streams_from c.args.start c.args.sources c.args.packets) (record { some_sources = c.requires.sources; few_sources = c.requires.few_sources; few_packets = c.requires.few_packets })
    c.in-Ok.captured.sources.items c.in-Ok.captured.writer c.in-Ok.captured.front c.capture_streams.new.outlet c.args.note.now c.conclude-end.new.note c.conclude-end.result c.exit_by.result
    c.in-Ok.ensures c.conclude-end.ensures c.exit_by.ensures
