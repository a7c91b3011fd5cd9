-- `table::program::kind_fields` meets its contract: kind n is line n, whose first part is the number of fields.
use Rattle.std.proofs.Common.{◌∙◌}
use Rattle.rules.specs.Script.{lines_of}
use Rattle.table.proofs.ProgramLines.{kind_there, kind_fields_is}
use Rattle.table.proofs.program.kind_fields.Goals as goal

pub returns-clause-kind_fields : goal.returns-clause-kind_fields
returns-clause-kind_fields c = record {
  is = λ P counts rest filled h.
      c.line_word.ensures.line_word.is counts rest (lines_of P) filled (kind_there P c.args.n h) ∙ kind_fields_is P c.args.n h;
}
