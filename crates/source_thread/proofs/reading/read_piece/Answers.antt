use Rattle.std.proofs.Common.{◌∙◌, sym, ap, take, arith}
use Rattle.std.proofs.lemmas.Result.{err_from_is_err_and}
use Rattle.std.proofs.lemmas.List.{length-take}
use Rattle.source_thread.proofs.Pieces.{given_fed, piece_read, piece_front, piece_lost, keeps_same}
use Rattle.source_thread.proofs.reading.read_piece.Goals as goal

pub returns-in_default-feed_piece-clause-front : goal.returns-in_default-feed_piece-clause-front
returns-in_default-feed_piece-clause-front g c =
    piece_lost c.args.reader.now c.args.sender.now (g.S.Source.taken c.args.source.now) (g.S.Source.taken c.read.new.self) (take c.in-Ok.count c.read.new.into) c.requires.waits.sound c.requires.empty (sym c.requires.sender.flushed ∙ c.requires.going) (omega (arith, length-take c.in-Ok.count c.read.new.into, c.in-Ok.ensures.bound, c.requires.short)) (omega (arith, length-take c.in-Ok.count c.read.new.into, c.in-Ok.ensures.bound, c.requires.fits)) c.in-Ok.ensures.taken (keeps_same c.args.sender.now)

pub enter_events-requires-clause-given : goal.enter_events-requires-clause-given
enter_events-requires-clause-given g c = given_fed c.args.reader.now c.feed_piece.new.reader c.args.sender.now (take c.in-Ok.count c.read.new.into) c.requires.given c.in-Ok-feed_piece.ensures.fed

pub returns-in_err-broken-clause-front : goal.returns-in_err-broken-clause-front
returns-in_err-broken-clause-front g c =
    let p = err_from_is_err_and c.from_residual.result c.from_residual.ensures.1 in
    let same = c.enter_events.ensures.name ∙ c.feed_piece.ensures.name in
    let cut = c.enter_events.ensures.snap ∙ c.feed_piece.ensures.snap in
    rw p.1 (piece_front c.args.reader.now c.args.sender.now (g.S.Source.taken c.args.source.now) (g.S.Source.taken c.read.new.self) (take c.in-Ok.count c.read.new.into) c.requires.waits.sound c.requires.empty (sym c.requires.sender.flushed ∙ c.requires.going) (omega (arith, length-take c.in-Ok.count c.read.new.into, c.in-Ok.ensures.bound, c.requires.short)) (omega (arith, length-take c.in-Ok.count c.read.new.into, c.in-Ok.ensures.bound, c.requires.fits)) c.in-Ok.ensures.taken c.feed_piece.new.reader c.enter_events.new.reader c.enter_events.new.sender same cut c.in-Ok-feed_piece.ensures.fed c.in_err-broken.ensures.front c.enter_events.ensures.keeps)

pub returns-then-broken-clause-reads : goal.returns-then-broken-clause-reads
returns-then-broken-clause-reads g c =
    let same = c.enter_events.ensures.name ∙ c.feed_piece.ensures.name in
    let cut = c.enter_events.ensures.snap ∙ c.feed_piece.ensures.snap in
    piece_read c.args.reader.now c.args.sender.now (g.S.Source.taken c.args.source.now) (g.S.Source.taken c.read.new.self) (take c.in-Ok.count c.read.new.into) c.requires.waits.sound c.requires.empty (sym c.requires.sender.flushed ∙ c.requires.going) (omega (arith, length-take c.in-Ok.count c.read.new.into, c.in-Ok.ensures.bound, c.requires.short)) (omega (arith, length-take c.in-Ok.count c.read.new.into, c.in-Ok.ensures.bound, c.requires.fits)) c.in-Ok.ensures.taken c.feed_piece.new.reader c.enter_events.new.reader c.enter_events.new.sender same cut c.in-Ok-feed_piece.ensures.fed c.in_ok-broken.ensures.passed c.enter_events.ensures.keeps

pub returns-else-broken-clause-reads : goal.returns-else-broken-clause-reads
returns-else-broken-clause-reads g c =
    let same = c.enter_events.ensures.name ∙ c.feed_piece.ensures.name in
    let cut = c.enter_events.ensures.snap ∙ c.feed_piece.ensures.snap in
    piece_read c.args.reader.now c.args.sender.now (g.S.Source.taken c.args.source.now) (g.S.Source.taken c.read.new.self) (take c.in-Ok.count c.read.new.into) c.requires.waits.sound c.requires.empty (sym c.requires.sender.flushed ∙ c.requires.going) (omega (arith, length-take c.in-Ok.count c.read.new.into, c.in-Ok.ensures.bound, c.requires.short)) (omega (arith, length-take c.in-Ok.count c.read.new.into, c.in-Ok.ensures.bound, c.requires.fits)) c.in-Ok.ensures.taken c.feed_piece.new.reader c.enter_events.new.reader c.enter_events.new.sender same cut c.in-Ok-feed_piece.ensures.fed c.in_ok-broken.ensures.passed c.enter_events.ensures.keeps
