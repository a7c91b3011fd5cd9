-- `listing::state_lines::put_frame` meets its contract: the parts one after the other, each of what was read.
use Rattle.rules.specs.Templates.{print_many}
use Rattle.buffer.specs.Writing.{number_part}
use Rattle.listing.specs.StateWriting.{value_parts, frame_parts}
use Rattle.listing.proofs.StateTexts.{of_seen, ◌▹◌}
use Rattle.listing.proofs.state_lines.put_frame.Goals as goal

pub returns : goal.returns
unfolding frame_parts value_parts print_many
returns c =
    of_seen number_part (λ P n S fits inner. tt) c.frame_block.ensures.sees c.put_number.ensures
    ▹ of_seen number_part (λ P n S fits inner. tt) c.frame_line.ensures.sees c.put_number-2.ensures ▹ c.put_slots.ensures
