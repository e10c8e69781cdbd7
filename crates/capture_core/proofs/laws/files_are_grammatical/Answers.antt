use Rattle.capture_core.proofs.Grammar.{finished, acts_finished}
use Rattle.capture_core.proofs.laws.files_are_grammatical.Goals as goal

pub returns-clause-done : goal.returns-clause-done
returns-clause-done c = finished

pub returns-clause-acts : goal.returns-clause-acts
returns-clause-acts c = acts_finished
