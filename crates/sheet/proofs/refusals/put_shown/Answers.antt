-- Of an empty line nothing is written; of any other the line and the marks, each as long as what is shown of the line.
use Rattle.std.proofs.Common.{arith, rules, length-take}
use Rattle.rules.specs.Numbers.{number}
use Rattle.sheet.specs.SheetText.{visible, mark_under}
use Rattle.buffer.proofs.Outputs.{nothing, ◌▹◌, same_text}
use Rattle.sheet.proofs.RefusalLaws.{shown_none, shown_some}
use Rattle.sheet.proofs.refusals.put_shown.Goals as goal

pub returns-then-is_empty : goal.returns-then-is_empty
returns-then-is_empty c = same_text 216 (shown_none (number c.args.fault) c.args.line.now (search rules)) (omega arith) (nothing 0 (omega (arith, c.requires)))

pub returns : goal.returns
returns c =
    same_text 216 (shown_some (number c.args.fault) c.args.line.now c.min.result (search rules) c.min.ensures) (omega (arith, length-take c.min.result c.args.line.now, c.min.ensures))
    (c.put_text.ensures ▹ c.put_line.ensures.text visible (λ b r low told. told) ▹ c.put_text-2.ensures ▹ c.put_line-2.ensures.text (mark_under (number c.args.fault)) (λ b r low told. search rules) ▹ c.put_text-3.ensures)
