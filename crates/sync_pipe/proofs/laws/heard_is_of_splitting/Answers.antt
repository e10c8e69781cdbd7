use Rattle.sync_pipe.proofs.SplitHeard.{messages_are_of_splitting, defect_is_of_rest}
use Rattle.sync_pipe.proofs.laws.heard_is_of_splitting.Goals as goal

pub returns-clause-messages : goal.returns-clause-messages
returns-clause-messages c = messages_are_of_splitting

pub returns-clause-defect : goal.returns-clause-defect
returns-clause-defect c = defect_is_of_rest
