-- A line with two numbers.
use Rattle.std.proofs.Common.{Some, arith, sym}
use Rattle.std.proofs.lemmas.Str.Pattern.{split_parts}
use Rattle.spindle_commands.specs.StepLines.{Writes}
use Rattle.spindle_commands.proofs.Said.{said_with}
use Rattle.spindle_commands.proofs.step_lines.step_said.Goals as goal

pub returns-in_ok-number-in-Some-2 : goal.returns-in_ok-number-in-Some-2
returns-in_ok-number-in-Some-2 c =
    let name = c.in_ok-name.name in
    let numbers = c.in_ok-name.numbers in
    let first = split_parts 32 c.args.text.now (Some (name, numbers)) c.in_ok-name.ensures.cases (omega arith) in
    let second = split_parts 32 numbers.now (Some (c.in-Some.party, c.in-Some.operand)) c.in-Some.ensures.cases (omega arith) in
    let party : Writes c.in-Some.party.now c.in_ok-number-in-Some.field-0 = (c.in_ok-number-in-Some.ensures.0, sym c.in_ok-number-in-Some.ensures.1) in
    let operand : Writes c.in-Some.operand.now c.in_ok-number-in-Some-2.field-0 =
    (c.in_ok-number-in-Some-2.ensures.0, sym c.in_ok-number-in-Some-2.ensures.1) in
    said_with c.args.text.now name.now numbers.now c.in-Some.party.now c.in-Some.operand.now c.in_ok-number-in-Some.field-0 c.in_ok-number-in-Some-2.field-0
    c.step_with.result first.0 second.0 party operand c.step_with.ensures.name c.step_with.ensures.party c.step_with.ensures.operand
