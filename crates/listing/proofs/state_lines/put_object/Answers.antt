-- `listing::state_lines::put_object` meets its contract: the parts of its line, one after the other.
use Rattle.std.proofs.Common.{arith}
use Rattle.rules.specs.State.{object_at}
use Rattle.listing.proofs.StateTexts.{fixed, ◌▹◌, same_texts}
use Rattle.listing.proofs.LineTexts.{object_line_lem}
use Rattle.listing.proofs.state_lines.put_object.Goals as goal

pub returns : goal.returns
returns c =
    same_texts 86 (λ P n S rest held fits made. object_line_lem c.args.o (object_at S.objects c.args.o)) (omega arith)
    (fixed c.put_text.ensures ▹ fixed c.put_number.ensures ▹ c.put_traits.ensures ▹ fixed c.put_text-2.ensures)
