-- trial
use Rattle.std.proofs.Common.{◌*◌, take}
use Rattle.rules.specs.Templates.{print_many}
use Rattle.buffer.specs.Outputs.{Wrote}
use Rattle.writer.specs.Lines.{items_of}
use Rattle.writer.proofs.script_lines.put_items.Given as goal

abbrev pub invariant-loop-item : goal.invariant-loop-item
invariant-loop-item g l = Wrote (l.item-index * g.item.1) l.fn.out l.out (print_many g.item.0 (items_of (take l.item-index l.fn.items)))
