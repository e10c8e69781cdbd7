use Rattle.pcapng_grammar.proofs.Splits.{reads_file, reads_defect, reads_each}
use Rattle.pcapng_grammar.proofs.Sums.{reads_few}
use Rattle.pcapng_grammar.proofs.check.check_file.Goals as goal

pub returns-clause-answers : goal.returns-clause-answers
returns-clause-answers c = reads_defect c.args.bytes.now c.read_file.result c.read_file.ensures

pub returns-clause-facts : goal.returns-clause-facts
returns-clause-facts c = reads_file c.args.bytes.now c.read_file.result c.read_file.ensures

pub returns-clause-each : goal.returns-clause-each
returns-clause-each c = reads_each c.args.bytes.now c.read_file.result c.read_file.ensures

pub returns-clause-few : goal.returns-clause-few
returns-clause-few c = reads_few c.args.bytes.now c.read_file.result (reads_file c.args.bytes.now c.read_file.result c.read_file.ensures)
