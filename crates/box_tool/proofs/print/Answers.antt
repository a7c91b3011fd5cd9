-- Each job is its library's; an output that is long enough for an input is so for a run, a report and a drawing.
use mathlib.Core.Path.{refl}
use Rattle.rules.specs.Mosts as Most
use Rattle.box_tool.proofs.JobTexts.{prints_in, prints_run, prints_saved}
use Rattle.box_tool.proofs.print.Goals as goal

pub returns-in-Run : goal.returns-in-Run
returns-in-Run c =
    rw c.in-Run.is (prints_run _ refl c.args.output.now c.requires (c.print_input.ensures.value, c.print_input.ensures.output_after))

pub returns-in-Save : goal.returns-in-Save
returns-in-Save c =
    rw c.in-Save.is (prints_saved _ refl c.args.output.now c.requires (c.print_saved.ensures.value, c.print_saved.ensures.output_after))

pub returns-in-Strip : goal.returns-in-Strip
returns-in-Strip c =
    rw c.in-Strip.is (c.print_stripped.ensures.prints c.requires)

pub returns-in-Draw : goal.returns-in-Draw
returns-in-Draw c =
    rw c.in-Draw.is (prints_in _ refl c.args.output.now Most.drawing c.requires (c.print_drawn.ensures.value, c.print_drawn.ensures.output_after))

pub returns-in-Reached : goal.returns-in-Reached
returns-in-Reached c =
    rw c.in-Reached.is (prints_run _ refl c.args.output.now c.requires (c.print_reached.ensures.value, c.print_reached.ensures.output_after))
