use Rattle.pcapng_options.proofs.Lists.{one_list, options_are_read, read_are_options, runs_over_is_read, read_runs_over}
use Rattle.pcapng_options.proofs.laws.options_are_one.Goals as goal

pub returns-clause-one : goal.returns-clause-one
returns-clause-one c = one_list

pub returns-clause-options : goal.returns-clause-options
returns-clause-options c = options_are_read

pub returns-clause-read : goal.returns-clause-read
returns-clause-read c = read_are_options

pub returns-clause-over : goal.returns-clause-over
returns-clause-over c = runs_over_is_read

pub returns-clause-read_over : goal.returns-clause-read_over
returns-clause-read_over c = read_runs_over
