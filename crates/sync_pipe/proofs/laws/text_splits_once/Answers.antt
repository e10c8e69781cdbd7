use Rattle.sync_pipe.proofs.Splitting.{each_text_splits, splits_once}
use Rattle.sync_pipe.proofs.laws.text_splits_once.Goals as goal

pub returns-clause-splits : goal.returns-clause-splits
returns-clause-splits c = each_text_splits

pub returns-clause-once : goal.returns-clause-once
returns-clause-once c = splits_once
