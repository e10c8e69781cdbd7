use Rattle.std.proofs.Common.{◌∙◌, refl}
use Rattle.std.proofs.lemmas.Result.{err_from_is_err_and}
use Rattle.source_thread.proofs.Pieces.{keeps_same}
use Rattle.source_thread.proofs.Passing.{passed_none, passed_both, passed_front, given_after, gives_nothing, keeps_both}
use Rattle.source_thread.proofs.entering.enter_kept.Goals as goal

pub returns-in_err-next-clause-front : goal.returns-in_err-next-clause-front
returns-in_err-next-clause-front g c =
    let p = err_from_is_err_and c.from_residual.result c.from_residual.ensures.1 in
    rw p.1 (passed_front c.events.invariant.passed c.in_err-next.ensures.front)

pub events-preserved : goal.events-preserved
events-preserved g c =
    let i = c.events.invariant in
    let e = c.in_ok-next.ensures in
    record {
      sender = e.sender;
      numbered = e.numbered;
      given = given_after c.events.reader c.enter_next.new.reader c.events.sender c.enter_next.new.sender i.given e.passed;
      keeps = keeps_both c.args.sender.now c.events.sender c.enter_next.new.sender i.keeps e.keeps;
      passed = passed_both i.passed e.passed;
      name = e.name ∙ i.name;
      snap = e.snap ∙ i.snap;
      fed = e.fed ∙ i.fed;
    }

pub returns-in-Waits-clause-passed : goal.returns-in-Waits-clause-passed
returns-in-Waits-clause-passed g c = passed_both c.events.invariant.passed c.in_ok-next.ensures.passed

pub returns-in-Broken-clause-passed : goal.returns-in-Broken-clause-passed
returns-in-Broken-clause-passed g c = passed_both c.events.invariant.passed c.in_ok-next.ensures.passed

pub events-init : goal.events-init
events-init g c = record {
  sender = c.requires.sender;
  numbered = c.requires.numbered;
  given = c.requires.given;
  keeps = keeps_same c.args.sender.now;
  passed = passed_none c.args.reader.now c.args.reader.now c.args.sender.now (gives_nothing c.args.reader.now c.args.reader.now refl);
  name = refl;
  snap = refl;
  fed = refl;
}
