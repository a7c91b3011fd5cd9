-- What was found of both runs, written part by part.
use Rattle.sheet.proofs.SheetLaws.{ran_written}
use Rattle.sheet.proofs.sheets.put_ran.Goals as goal

pub returns : goal.returns
returns c = ran_written c.args.guarded c.examine-found.ensures c.put_read.ensures c.put_two.ensures c.put_three.ensures c.put_last.ensures
