use Rattle.capture_core.proofs.Grammar.{reaches}
use Rattle.capture_core.proofs.Listened.{reached}
use Rattle.capture_core.proofs.laws.views_reach_the_announced.Goals as goal

pub returns-clause-acts : goal.returns-clause-acts
returns-clause-acts c = reaches

pub returns-clause-done : goal.returns-clause-done
returns-clause-done c = λ s h done legal sync o stands events reads before rest messages e w. reached s h legal sync o events reads done stands before rest messages e w
