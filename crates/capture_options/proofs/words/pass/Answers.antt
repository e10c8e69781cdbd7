use Rattle.std.proofs.Common.{map, string_bytes}
use Rattle.capture_options.specs.Arguments.{is_defect_of_pass, pass_command, pass_mode}
use Rattle.capture_options.proofs.Answered.{by_rows}
use Rattle.capture_options.proofs.words.pass.Goals as goal

pub returns : goal.returns
returns c =
    by_rows pass_command _ (map string_bytes c.args.words.now) _ pass_mode is_defect_of_pass c.passed.result
    c.in_ok-pass_command.ensures.ok c.in_ok-matches.ensures c.passed.ensures
