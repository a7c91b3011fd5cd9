-- `listing::state_lines::put_channel` meets its contract: the parts of its line, one after the other.
use Rattle.std.proofs.Common.{arith, ◌∷◌}
use Rattle.rules.specs.Text.{space}
use Rattle.rules.specs.State.{channel_at}
use Rattle.rules.specs.Listing.{message_text}
use Rattle.table.proofs.Places.{message_in_table}
use Rattle.listing.proofs.StateTexts.{fixed, of_seen, ◌▹◌, same_texts}
use Rattle.listing.proofs.LineTexts.{channel_line_lem}
use Rattle.listing.proofs.state_lines.put_channel.Goals as goal

pub returns : goal.returns
returns c =
    same_texts 29 (λ P n S rest held fits any. channel_line_lem c.args.c (channel_at S c.args.c)) (omega arith)
    (fixed c.put_text.ensures
    ▹ fixed c.put_number.ensures
    ▹ of_seen (λ v. space ∷ message_text v) (λ P n S fits any. message_in_table fits c.args.c) c.message.ensures.sees
    c.put_message.ensures ▹ fixed c.put_text-2.ensures)
