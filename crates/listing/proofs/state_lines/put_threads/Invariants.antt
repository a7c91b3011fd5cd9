-- `listing::state_lines::put_threads` meets its contract: before turn t the lines of the threads below t are written.
use Rattle.std.proofs.Common.{◌*◌, take}
use Rattle.rules.specs.Listing.{thread_line, numbered}
use Rattle.table.specs.StateTable.{Any}
use Rattle.listing.specs.StateWriting.{Writes}
use Rattle.listing.proofs.state_lines.put_threads.Given as goal

abbrev pub invariant-loop-t : goal.invariant-loop-t
invariant-loop-t l = Writes (243 * l.t) l.s l.initial.out l.out Any (λ S. numbered thread_line 0 (take l.t S.threads))
