-- `listing::state_lines::put_channels` meets its contract: before turn c the lines of the channels below c are written.
use Rattle.std.proofs.Common.{◌*◌, ◌≤◌, take, drop}
use Rattle.rules.specs.Listing.{channel_line, numbered}
use Rattle.table.specs.StateTable.{Any}
use Rattle.listing.specs.StateWriting.{Writes}
use Rattle.listing.proofs.state_lines.put_channels.Given as goal

abbrev pub invariant-loop-c : goal.invariant-loop-c
invariant-loop-c l =
    record {
      few : l.c ≤ 16;
      written : Writes (29 * l.c) l.s l.initial.out l.out Any (λ S. numbered channel_line 1 (drop 1 (take l.c S.channels)));
    }
