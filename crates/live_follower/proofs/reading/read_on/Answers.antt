use Rattle.std.proofs.Common.{◌≡◌, [], length, drop, subst, ◌∙◌, arith}
use Rattle.std.proofs.lemmas.Result.{err_from_is_err_and}
use Rattle.std.proofs.lemmas.List.{length-append, length-drop, length-take}
use Rattle.pcapng_pipe.specs.Pipe.{fed_count}
use Rattle.live_follower.specs.declared.found.Found.{Found}
use Rattle.live_follower.specs.Faults.{reading_end}
use Rattle.live_follower.specs.inner.Seeking.{Reads, FoundIs, found_packets}
use Rattle.live_follower.proofs.Readings.{reads_on, found_other}
use Rattle.live_follower.proofs.Askings.{reads_both, reads_found, reads_end}
use Rattle.live_follower.proofs.reading.read_on.Goals as goal

pub returns-in_err-found-clause-reads : goal.returns-in_err-found-clause-reads
returns-in_err-found-clause-reads g c =
    let p = err_from_is_err_and c.from_residual.result c.from_residual.ensures.1 in
    rw p.1 (reads_on (g.V.View.shown c.args.view.now c.args.name.now) (g.V.View.shown c.reads.view c.args.name.now) c.args.pipe.now c.reads.pipe c.read_piece.new.pipe [] (c.reads.invariant.same c.args.name.now) c.reads.invariant.reads c.in_err-found.ensures.reads)

pub reads-preserved : goal.reads-preserved
reads-preserved g c =
    let read = subst (λ (f : Found). Reads (g.V.View.shown c.reads.view c.args.name.now) c.reads.pipe c.read_piece.new.pipe (found_packets f)) c.in-More.is c.in_ok-found.ensures.reads in
    let long : length c.read_piece.new.piece ≡ c.min-most.result = omega (arith, c.read_piece.auto.piece, length-take c.min-most.result c.reads.piece, c.reads.invariant.piece) in
    let whole : length c.reads.piece ≡ 65536 = c.reads.invariant.piece in
    record {
      reads = reads_on (g.V.View.shown c.args.view.now c.args.name.now) (g.V.View.shown c.reads.view c.args.name.now) c.args.pipe.now c.reads.pipe c.read_piece.new.pipe [] (c.reads.invariant.same c.args.name.now) c.reads.invariant.reads read;
      waits = subst (λ (f : Found). FoundIs c.read_piece.new.pipe f) c.in-More.is c.in_ok-found.ensures.found;
      left = omega (arith, c.reads.invariant.left, c.in_ok-found.ensures.most, c.in_ok-found.ensures.more, c.fed-in-More.ensures, c.fed-before.ensures, length-take c.min-most.result c.reads.piece);
      piece = omega (arith, length-append c.read_piece.new.piece (drop c.min-most.result c.reads.piece), length-drop c.min-most.result c.reads.piece);
      quiet = record {
        absent = c.in_ok-found.ensures.quiet.absent ∙ c.reads.invariant.quiet.absent;
        ends = c.in_ok-found.ensures.quiet.ends ∙ c.reads.invariant.quiet.ends;
        faults = c.in_ok-found.ensures.quiet.faults ∙ c.reads.invariant.quiet.faults;
      };
      asked = reads_found g.V.View.asked c.args.view.now c.read_piece.new.view c.args.name.now (fed_count c.args.pipe.now) (fed_count c.read_piece.new.pipe) c.in_ok-found.found (reads_both g.V.View.asked c.args.view.now c.reads.view c.read_piece.new.view c.args.name.now (fed_count c.args.pipe.now) (fed_count c.reads.pipe) (fed_count c.read_piece.new.pipe) _ c.reads.invariant.asked c.in_ok-found.ensures.asked);
      same = λ other. c.in_ok-found.ensures.same other ∙ c.reads.invariant.same other;
    }

pub returns-in_default : goal.returns-in_default
returns-in_default g c = record {
  reads = reads_on (g.V.View.shown c.args.view.now c.args.name.now) (g.V.View.shown c.reads.view c.args.name.now) c.args.pipe.now c.reads.pipe c.read_piece.new.pipe (found_packets c.in_ok-found.found) (c.reads.invariant.same c.args.name.now) c.reads.invariant.reads c.in_ok-found.ensures.reads;
  found = c.in_ok-found.ensures.found;
  more = found_other c.in_ok-found.found (fed_count c.read_piece.new.pipe ≡ reading_end c.args.budget c.args.pipe.now) c.in_default.not-More;
  most = omega (arith, c.reads.invariant.left, c.in_ok-found.ensures.most, length-take c.min-most.result c.reads.piece);
  quiet = record {
    absent = c.in_ok-found.ensures.quiet.absent ∙ c.reads.invariant.quiet.absent;
    ends = c.in_ok-found.ensures.quiet.ends ∙ c.reads.invariant.quiet.ends;
    faults = c.in_ok-found.ensures.quiet.faults ∙ c.reads.invariant.quiet.faults;
  };
  fault = tt;
  same = λ other. c.in_ok-found.ensures.same other ∙ c.reads.invariant.same other;
  asked = reads_both g.V.View.asked c.args.view.now c.reads.view c.read_piece.new.view c.args.name.now (fed_count c.args.pipe.now) (fed_count c.reads.pipe) (fed_count c.read_piece.new.pipe) _ c.reads.invariant.asked c.in_ok-found.ensures.asked;
}

pub returns-in_err-found-clause-asked : goal.returns-in_err-found-clause-asked
returns-in_err-found-clause-asked g c =
    let p = err_from_is_err_and c.from_residual.result c.from_residual.ensures.1 in
    rw p.1 (reads_both g.V.View.asked c.args.view.now c.reads.view c.read_piece.new.view c.args.name.now (fed_count c.args.pipe.now) (fed_count c.reads.pipe) (fed_count c.read_piece.new.pipe) _ c.reads.invariant.asked (rw p.2 c.in_err-found.ensures.asked))

pub returns-clause-asked : goal.returns-clause-asked
returns-clause-asked g c = reads_end g.V.View.asked c.args.view.now c.reads.view c.args.name.now (fed_count c.args.pipe.now) (fed_count c.reads.pipe) _ c.reads.invariant.asked
