use Rattle.std.proofs.Common.{◌≡◌, ◌+◌, [], ◌∷◌, refl, subst, arith}
use Rattle.std.proofs.lemmas.Result.{err_from_is_err_and}
use Rattle.live_follower.specs.declared.found.Found.{Found}
use Rattle.live_follower.specs.inner.Seeking.{Reads, found_packets}
use Rattle.live_follower.specs.Following.{Following}
use Rattle.live_follower.proofs.Followings.{reads_inside, looks_inside}
use Rattle.live_follower.proofs.Askings.{asks_inside}
use Rattle.pcapng_pipe.specs.Pipe.{fed_count}
use Rattle.live_follower.proofs.follower.Follower.catch_up.Goals as goal

pub returns-in_err-packet-clause-reads : goal.returns-in_err-packet-clause-reads
returns-in_err-packet-clause-reads g c =
    let i = c.self.inside in
    let inside : Following = record { file = i.file; announced = i.announced; given = i.given; pipe = i.pipe } in
    let new : Following = record { file = i.file; announced = i.announced; given = i.given; pipe = c.seek.new.pipe } in
    let p = err_from_is_err_and c.from_residual.result c.from_residual.ensures.1 in
    rw p.1 (reads_inside (g.V.View.shown c.args.view.now) inside c.args.self.now new c.in-Some.name [] c.self.view_is c.in-Some.is refl refl (omega arith) c.self.invariant.0 c.in_err-packet.ensures.reads)

pub returns-in-Packet-clause-reads : goal.returns-in-Packet-clause-reads
returns-in-Packet-clause-reads g c =
    let i = c.self.inside in
    let inside : Following = record { file = i.file; announced = i.announced; given = i.given; pipe = i.pipe } in
    let new : Following = record { file = i.file; announced = i.announced; given = i.given + 1; pipe = c.seek.new.pipe } in
    let reads = subst (λ (f : Found). Reads (g.V.View.shown c.args.view.now c.in-Some.name) i.pipe c.seek.new.pipe (found_packets f)) c.in-Packet.is c.in_ok-packet.ensures.reads in
    reads_inside (g.V.View.shown c.args.view.now) inside c.args.self.now new c.in-Some.name (c.in-Packet.packet ∷ []) c.self.view_is c.in-Some.is refl refl (omega arith) (omega (arith, c.self.invariant.0, c.if-self.false)) reads

pub returns-in-More-clause-reads : goal.returns-in-More-clause-reads
returns-in-More-clause-reads g c =
    let i = c.self.inside in
    let inside : Following = record { file = i.file; announced = i.announced; given = i.given; pipe = i.pipe } in
    let new : Following = record { file = i.file; announced = i.announced; given = i.given; pipe = c.seek.new.pipe } in
    let reads = subst (λ (f : Found). Reads (g.V.View.shown c.args.view.now c.in-Some.name) i.pipe c.seek.new.pipe (found_packets f)) c.in-More.is c.in_ok-packet.ensures.reads in
    reads_inside (g.V.View.shown c.args.view.now) inside c.args.self.now new c.in-Some.name [] c.self.view_is c.in-Some.is refl refl (omega arith) c.self.invariant.0 reads

pub returns-in-Bad-clause-reads : goal.returns-in-Bad-clause-reads
returns-in-Bad-clause-reads g c =
    let i = c.self.inside in
    let inside : Following = record { file = i.file; announced = i.announced; given = i.given; pipe = i.pipe } in
    let new : Following = record { file = i.file; announced = i.announced; given = i.given; pipe = c.seek.new.pipe } in
    let reads = subst (λ (f : Found). Reads (g.V.View.shown c.args.view.now c.in-Some.name) i.pipe c.seek.new.pipe (found_packets f)) c.in-Bad.is c.in_ok-packet.ensures.reads in
    reads_inside (g.V.View.shown c.args.view.now) inside c.args.self.now new c.in-Some.name [] c.self.view_is c.in-Some.is refl refl (omega arith) c.self.invariant.0 reads

pub returns-in_err-packet-clause-looks : goal.returns-in_err-packet-clause-looks
returns-in_err-packet-clause-looks g c =
    let i = c.self.inside in
    let inside : Following = record { file = i.file; announced = i.announced; given = i.given; pipe = i.pipe } in
    looks_inside (c.seek.new.view ≡ c.args.view.now) inside c.args.self.now c.in-Some.name c.self.view_is c.in-Some.is (omega (arith, c.self.invariant.0, c.if-self.false)) c.in_err-packet.ensures.looks

pub returns-in-Packet-clause-looks : goal.returns-in-Packet-clause-looks
returns-in-Packet-clause-looks g c =
    let i = c.self.inside in
    let inside : Following = record { file = i.file; announced = i.announced; given = i.given; pipe = i.pipe } in
    looks_inside (c.seek.new.view ≡ c.args.view.now) inside c.args.self.now c.in-Some.name c.self.view_is c.in-Some.is (omega (arith, c.self.invariant.0, c.if-self.false)) c.in_ok-packet.ensures.looks

pub returns-in-More-clause-looks : goal.returns-in-More-clause-looks
returns-in-More-clause-looks g c =
    let i = c.self.inside in
    let inside : Following = record { file = i.file; announced = i.announced; given = i.given; pipe = i.pipe } in
    looks_inside (c.seek.new.view ≡ c.args.view.now) inside c.args.self.now c.in-Some.name c.self.view_is c.in-Some.is (omega (arith, c.self.invariant.0, c.if-self.false)) c.in_ok-packet.ensures.looks

pub returns-in-Bad-clause-looks : goal.returns-in-Bad-clause-looks
returns-in-Bad-clause-looks g c =
    let i = c.self.inside in
    let inside : Following = record { file = i.file; announced = i.announced; given = i.given; pipe = i.pipe } in
    looks_inside (c.seek.new.view ≡ c.args.view.now) inside c.args.self.now c.in-Some.name c.self.view_is c.in-Some.is (omega (arith, c.self.invariant.0, c.if-self.false)) c.in_ok-packet.ensures.looks

pub returns-in_err-packet-clause-asked : goal.returns-in_err-packet-clause-asked
returns-in_err-packet-clause-asked g c =
    let i = c.self.inside in
    let inside : Following = record { file = i.file; announced = i.announced; given = i.given; pipe = i.pipe } in
    let p = err_from_is_err_and c.from_residual.result c.from_residual.ensures.1 in
    rw p.1 (asks_inside g.V.View.asked c.args.view.now c.seek.new.view inside c.args.self.now c.in-Some.name (fed_count c.seek.new.pipe) _ _ c.self.view_is c.in-Some.is (λ gave v. rw p.2 v) c.in_err-packet.ensures.asked)

pub returns-in-Packet-clause-asked : goal.returns-in-Packet-clause-asked
returns-in-Packet-clause-asked g c =
    let i = c.self.inside in
    let inside : Following = record { file = i.file; announced = i.announced; given = i.given; pipe = i.pipe } in
    (asks_inside g.V.View.asked c.args.view.now c.seek.new.view inside c.args.self.now c.in-Some.name (fed_count c.seek.new.pipe) _ _ c.self.view_is c.in-Some.is (λ gave v. absurd v) c.in_ok-packet.ensures.asked)

pub returns-in-More-clause-asked : goal.returns-in-More-clause-asked
returns-in-More-clause-asked g c =
    let i = c.self.inside in
    let inside : Following = record { file = i.file; announced = i.announced; given = i.given; pipe = i.pipe } in
    (asks_inside g.V.View.asked c.args.view.now c.seek.new.view inside c.args.self.now c.in-Some.name (fed_count c.seek.new.pipe) _ _ c.self.view_is c.in-Some.is (λ gave v. absurd v) c.in_ok-packet.ensures.asked)

pub returns-in-Bad-clause-asked : goal.returns-in-Bad-clause-asked
returns-in-Bad-clause-asked g c =
    let i = c.self.inside in
    let inside : Following = record { file = i.file; announced = i.announced; given = i.given; pipe = i.pipe } in
    (asks_inside g.V.View.asked c.args.view.now c.seek.new.view inside c.args.self.now c.in-Some.name (fed_count c.seek.new.pipe) _ _ c.self.view_is c.in-Some.is (λ gave v. absurd v) c.in_ok-packet.ensures.asked)
