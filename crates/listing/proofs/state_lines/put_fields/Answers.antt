-- `listing::state_lines::put_fields` meets its contract: before turn j the first j fields are written.
use Rattle.std.proofs.Common.{rules}
use Rattle.listing.proofs.StateRows.{no_field_yet, field_after, all_fields}
use Rattle.listing.proofs.state_lines.put_fields.Goals as goal

pub loop-j-init : goal.loop-j-init
loop-j-init c = no_field_yet c.args.o (search rules)

pub loop-j-preserved : goal.loop-j-preserved
loop-j-preserved c = field_after c.args.o c.loop-j.j c.loop-j.invariant c.field.ensures.sees c.put_field.ensures

pub returns : goal.returns
returns c = all_fields c.args.o c.loop-j.j c.loop-j-test.false (search rules) c.loop-j.invariant
