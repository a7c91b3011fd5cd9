-- `listing::answers::put_ended` meets its contract: the parts of its line, one after the other.
use Rattle.std.proofs.Common.{refl, rules}
use Rattle.buffer.proofs.Outputs.{◌▹◌, same_text}
use Rattle.listing.proofs.answers.put_ended.Goals as goal

pub returns : goal.returns
returns c = same_text 21 refl (search rules) (c.put_text.ensures ▹ c.put_text-2.ensures ▹ c.put_number.ensures ▹ c.put_text-3.ensures)
