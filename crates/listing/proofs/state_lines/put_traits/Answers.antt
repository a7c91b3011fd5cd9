-- `listing::state_lines::put_traits` meets its contract: the parts one after the other, each of what was read.
use Rattle.std.proofs.Common.{◌∷◌}
use Rattle.rules.specs.Text.{space}
use Rattle.rules.specs.Templates.{cap_word, print_many}
use Rattle.buffer.specs.Writing.{number_part}
use Rattle.listing.specs.StateWriting.{value_parts, object_parts}
use Rattle.listing.proofs.StateTexts.{of_seen, ◌▹◌}
use Rattle.listing.proofs.state_lines.put_traits.Goals as goal

pub returns : goal.returns
unfolding object_parts value_parts print_many
returns c =
    of_seen (λ k. space ∷ cap_word k) (λ P n S fits made. made) c.cap.ensures.sees c.put_cap.ensures
    ▹ of_seen number_part (λ P n S fits made. made) c.kind.ensures.sees c.put_number.ensures
    ▹ of_seen number_part (λ P n S fits made. made) c.creator.ensures.sees c.put_number-2.ensures ▹ c.put_fields.ensures
