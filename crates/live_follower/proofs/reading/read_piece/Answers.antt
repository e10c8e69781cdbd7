use Rattle.std.proofs.Common.{ℕ, ◌≡◌, ◌≤◌, ◌<◌, [], length, Some, None, refl, ap, arith}
use Rattle.std.proofs.lemmas.Result.{err_from_is_err_and}
use Rattle.live_follower.specs.inner.Seeking.{found_packets}
use Rattle.pcapng_pipe.specs.Pipe.{fed_count}
use Rattle.live_follower.proofs.Readings.{reads_none, piece_read, fed_whole}
use Rattle.live_follower.proofs.Askings.{read_kept, read_lost}
use Rattle.live_follower.proofs.reading.read_piece.Goals as goal

pub returns-then-count-eq0-clause-reads : goal.returns-then-count-eq0-clause-reads
returns-then-count-eq0-clause-reads g c = reads_none (g.V.View.shown c.args.view.now c.args.name.now) c.args.pipe.now

pub returns-in_err-next_packet-clause-reads : goal.returns-in_err-next_packet-clause-reads
returns-in_err-next_packet-clause-reads g c =
    let p = err_from_is_err_and c.from_residual-in_err-next_packet.result c.from_residual-in_err-next_packet.ensures.1 in
    let within : c.in-Ok.count ≤ length c.read_at.new.into = omega (arith, c.in-Ok.ensures.bound, c.read_at.auto.into) in
    rw p.1 (piece_read (g.V.View.shown c.args.view.now c.args.name.now) c.args.pipe.now c.feed_piece.new.pipe c.next_packet.new.pipe c.fed-at.result c.in-Ok.count c.read_at.new.into [] c.fed-at.ensures within c.in-Ok.ensures.shown c.in_ok-feed_piece.ensures.fed c.in_ok-feed_piece.ensures.kept c.next_packet.ensures.same c.in_err-next_packet.ensures.err)

pub returns-clause-reads : goal.returns-clause-reads
returns-clause-reads g c =
    let within : c.in-Ok.count ≤ length c.read_at.new.into = omega (arith, c.in-Ok.ensures.bound, c.read_at.auto.into) in
    piece_read (g.V.View.shown c.args.view.now c.args.name.now) c.args.pipe.now c.feed_piece.new.pipe c.next_packet.new.pipe c.fed-at.result c.in-Ok.count c.read_at.new.into (found_packets c.in_ok-next_packet.field-0) c.fed-at.ensures within c.in-Ok.ensures.shown c.in_ok-feed_piece.ensures.fed c.in_ok-feed_piece.ensures.kept c.next_packet.ensures.same c.in_ok-next_packet.ensures.gives

pub returns-in_default-clause-asked : goal.returns-in_default-clause-asked
returns-in_default-clause-asked g c = read_lost g.V.View.asked c.args.view.now c.read_at.new.self c.args.name.now (fed_count c.args.pipe.now) c.fed-at.result (fed_count c.args.pipe.now) None _ c.fed-at.ensures refl c.in_default.ensures.asked refl

pub returns-then-count-eq0-clause-asked : goal.returns-then-count-eq0-clause-asked
returns-then-count-eq0-clause-asked g c =
    let none : c.in-Ok.count ≡ 0 = omega (arith, c.if-count-eq0.true) in
    read_lost g.V.View.asked c.args.view.now c.read_at.new.self c.args.name.now (fed_count c.args.pipe.now) c.fed-at.result (fed_count c.args.pipe.now) (Some c.in-Ok.count) _ c.fed-at.ensures refl c.in-Ok.ensures.asked (ap (λ (n : ℕ). Some n) none)

pub returns-in_err-feed_piece-clause-asked : goal.returns-in_err-feed_piece-clause-asked
returns-in_err-feed_piece-clause-asked g c =
    let p = err_from_is_err_and c.from_residual.result c.from_residual.ensures.1 in
    let some : 0 < c.in-Ok.count = omega (arith, c.if-count-eq0.false) in
    rw p.1 (rw p.2 (read_lost g.V.View.asked c.args.view.now c.read_at.new.self c.args.name.now (fed_count c.args.pipe.now) c.fed-at.result (fed_count c.feed_piece.new.pipe) (Some c.in-Ok.count) _ c.fed-at.ensures (ap fed_count c.in_err-feed_piece.ensures.err) c.in-Ok.ensures.asked (c.in-Ok.count, refl, some)))

pub returns-in_err-next_packet-clause-asked : goal.returns-in_err-next_packet-clause-asked
returns-in_err-next_packet-clause-asked g c =
    let within : c.in-Ok.count ≤ length c.read_at.new.into = omega (arith, c.in-Ok.ensures.bound, c.read_at.auto.into) in
    let some : 0 < c.in-Ok.count = omega (arith, c.if-count-eq0.false) in
    read_kept g.V.View.asked c.args.view.now c.read_at.new.self c.args.name.now (fed_count c.args.pipe.now) c.fed-at.result c.in-Ok.count (fed_count c.next_packet.new.pipe) _ c.fed-at.ensures c.in-Ok.ensures.asked some (fed_whole c.args.pipe.now c.feed_piece.new.pipe c.next_packet.new.pipe c.in-Ok.count c.read_at.new.into within c.in_ok-feed_piece.ensures.kept c.next_packet.ensures.same)

pub returns-clause-asked : goal.returns-clause-asked
returns-clause-asked g c =
    let within : c.in-Ok.count ≤ length c.read_at.new.into = omega (arith, c.in-Ok.ensures.bound, c.read_at.auto.into) in
    let some : 0 < c.in-Ok.count = omega (arith, c.if-count-eq0.false) in
    read_kept g.V.View.asked c.args.view.now c.read_at.new.self c.args.name.now (fed_count c.args.pipe.now) c.fed-at.result c.in-Ok.count (fed_count c.next_packet.new.pipe) _ c.fed-at.ensures c.in-Ok.ensures.asked some (fed_whole c.args.pipe.now c.feed_piece.new.pipe c.next_packet.new.pipe c.in-Ok.count c.read_at.new.into within c.in_ok-feed_piece.ensures.kept c.next_packet.ensures.same)
