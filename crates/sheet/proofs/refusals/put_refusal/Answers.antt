-- The parts of a refusal one after the other; no line is shown of a text that is too long.
use Rattle.std.proofs.Common.{arith}
use Rattle.std.proofs.Common.{rules}
use Rattle.rules.specs.Numbers.{number}
use Rattle.buffer.proofs.Outputs.{◌▹◌, same_text}
use Rattle.sheet.proofs.RefusalLaws.{refusal_text, overlong_text}
use Rattle.sheet.proofs.refusals.put_refusal.Goals as goal

pub returns-then-ne : goal.returns-then-ne
returns-then-ne c =
    same_text 292 (refusal_text (number c.args.refused.fault) c.args.refused.line c.args.text.now c.find_line.ensures.result_value (search rules)) (omega arith)
    (c.put_text.ensures ▹ c.put_number_word.ensures ▹ c.put_text-2.ensures ▹ c.put_number.ensures ▹ c.put_editor_line.ensures ▹ c.put_shown.ensures)

pub returns-else-ne : goal.returns-else-ne
returns-else-ne c =
    same_text 292 (overlong_text (number c.args.refused.fault) c.args.refused.line c.args.text.now (search rules)) (omega arith)
    (c.put_text.ensures ▹ c.put_number_word.ensures ▹ c.put_text-2.ensures ▹ c.put_number.ensures ▹ c.put_editor_line.ensures)
