-- A line with its newline.
use Rattle.std.proofs.Common.{◌≡◌, Some, rules, arith}
use Rattle.std.proofs.lemmas.Str.Pattern.{strip_suffix_char}
use Rattle.spindle_commands.proofs.Said.{said_before_newline}
use Rattle.spindle_commands.proofs.step_lines.parse_step.Goals as goal

pub returns-in-Some : goal.returns-in-Some
returns-in-Some c =
    let text = c.in_ok-text.text.now in
    let said = c.in-Some.said in
    let whole : text ≡ c.args.line.now = search rules in
    let newline = strip_suffix_char 10 text (Some said) c.in-Some.ensures.cases (omega arith) in
    said_before_newline c.args.line.now text said.now c.step_said.result whole newline c.step_said.ensures
