-- A last line with a fault ends the text before it; nothing is looked at in an input that is turned away whole.
use Rattle.std.proofs.Common.{sym, length-take-le}
use Rattle.sheet.proofs.put_misfit.Goals as goal

pub slice_bounds-put_faulty-end : goal.slice_bounds-put_faulty-end
slice_bounds-put_faulty-end c = sym (length-take-le c.in-Some.at c.args.input.now (rw c.in-Some.is at c.requires.1))

pub returns-in-Some : goal.returns-in-Some
returns-in-Some c = rw c.in-Some.is c.put_faulty.ensures

pub returns-in-None : goal.returns-in-None
returns-in-None c = rw c.in-None.is c.put_away.ensures
