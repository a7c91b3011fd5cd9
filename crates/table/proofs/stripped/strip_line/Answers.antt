-- `table::stripped::strip_line` meets its contract: the first word of its row tells whether the line names a capability, whose word is the next.
use Rattle.std.proofs.Common.{sym, refl, ap, ◌∙◌, rules}
use Rattle.table.specs.StrippedTables.{names_cap}
use Rattle.table.proofs.StrippedWords.{line_stripped, line_kept}
use Rattle.table.proofs.stripped.strip_line.Goals as goal

pub returns-then-names_cap : goal.returns-then-names_cap
returns-then-names_cap c =
    let names = sym (c.names_cap.ensures ∙ ap names_cap c.from.ensures) ∙ c.if-names_cap.true in
    let a = c.args in
    rw c.rank.ensures.value (line_stripped a.n c.line_word.result (search rules) c.line_word.ensures.value _ refl names)

pub returns-else-names_cap : goal.returns-else-names_cap
returns-else-names_cap c =
    let names = sym (c.names_cap.ensures ∙ ap names_cap c.from.ensures) ∙ c.if-names_cap.false in
    let a = c.args in
    line_kept a.n c.line_word.result (search rules) c.line_word.ensures.value names
