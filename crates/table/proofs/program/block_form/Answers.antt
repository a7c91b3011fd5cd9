-- `table::program::block_form` meets its contract: the line before a block's first line is its opener, and stands within the table.
use Rattle.std.proofs.Common.{◌+◌, ◌*◌, ◌%◌, get_or, ap, ◌∙◌}
use Rattle.table.proofs.ProgramLines.{block_form_is}
use Rattle.table.proofs.program.block_form.Goals as goal

pub returns : goal.returns
returns c =
    let a = c.args in
    let read = ap (λ f. get_or a.t.now ((64 + f * 8) % 8192) 0) c.first_line-first.ensures.value.0 in
    record { value = read; block_form = record { is = λ counts rest Fs filled h. read ∙ block_form_is filled a.b h } }
