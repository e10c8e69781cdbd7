use Rattle.trial_mode.proofs.Countings.{no_file}
use Rattle.trial_mode.proofs.checking.check_text.Goals as goal

pub returns-in-Err-Bad : goal.returns-in-Err-Bad
returns-in-Err-Bad c = let bad = rw c.in-Err-Bad.field-0-is at c.in-Err-Bad.ensures.answers in no_file c.args.text.now _ bad
