-- `listing::state_lines::put_state` meets its contract: objects, channels and threads, one after the other.
use Rattle.rules.specs.Listing.{state_lines}
use Rattle.listing.proofs.StateTexts.{◌▹◌}
use Rattle.listing.proofs.state_lines.put_state.Goals as goal

pub returns : goal.returns
unfolding state_lines
returns c =
    c.put_objects.ensures ▹ c.put_channels.ensures ▹ c.put_threads.ensures
