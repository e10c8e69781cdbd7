use Rattle.capture_core.proofs.Example.{large_are_orderly, large_names, large_sizes}
use Rattle.capture_core.proofs.laws.full_files.Goals as goal

pub returns-clause-orderly : goal.returns-clause-orderly
returns-clause-orderly c = large_are_orderly

pub returns-clause-names : goal.returns-clause-names
returns-clause-names c = large_names

pub returns-clause-sizes : goal.returns-clause-sizes
returns-clause-sizes c = large_sizes
