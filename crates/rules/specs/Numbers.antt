-- The numbers of document 01's "Turning away", and of document 02's. Each stands here and nowhere else.
use Rattle.std.specs.Prelude.{ℕ, Bool, ◌||◌, eqb}
use Rattle.rules.specs.declared.Ground.{Ground}
use Rattle.rules.specs.declared.Ground.TheVariants.{Foreign, Alias, Other}
use Rattle.rules.specs.declared.faults.Fault.{Fault}
use Rattle.rules.specs.declared.faults.Fault.TheVariants as F

-- text or turns too long
abbrev pub overlong : ℕ
overlong = 1

-- a byte outside the list
abbrev pub stray_byte : ℕ
stray_byte = 2

-- not a form, out of its place, or without its LF
abbrev pub malformed : ℕ
malformed = 3

-- a most, or 255, exceeded
abbrev pub over_count : ℕ
over_count = 4

-- slot not yet filled in its block
abbrev pub unbound : ℕ
unbound = 5

-- take of slot 0 in a method
abbrev pub self_taken : ℕ
self_taken = 6

-- no block, or the last one open
abbrev pub unfinished : ℕ
unfinished = 7

-- no such kind or block, wrong sort of block, operands unlike the kind's fields, block 0 not a thread
abbrev pub dangling : ℕ
dangling = 8

-- a lent table or list under its length
abbrev pub short_table : ℕ
short_table = 9

-- a slot that holds nothing
abbrev pub absent : ℕ
absent = 10

-- no such field
abbrev pub no_field : ℕ
no_field = 11

-- no such method
abbrev pub no_method : ℕ
no_method = 12

-- a channel where an object is wanted, or an object where a channel is
abbrev pub wrong_thing : ℕ
wrong_thing = 13

-- the capabilities do not allow it, by its ground; document 02, L5: "Turned away: 19 alias and 20 foreign, each in the place that 14 had."
abbrev pub permission : Ground → ℕ
permission Foreign = 20
permission Alias = 19
permission Other = 14

-- capability not K
abbrev pub cast : ℕ
cast = 15

-- objects, threads or frames used up
abbrev pub used_up : ℕ
used_up = 16

-- report on a thread never started
abbrev pub no_thread : ℕ
no_thread = 17

-- document 02, L2: no accepted text reads to this table
abbrev pub no_script : ℕ
no_script = 18

-- document 02, L7: "21 no object, when the number was never made"
abbrev pub no_object : ℕ
no_object = 21

-- document 02, L5: "The stripped-script rule now counts 14, 15, 19 and 20 as permission or cast."
abbrev pub is_guard : ℕ → Bool
is_guard n = eqb n (permission Foreign) || eqb n (permission Alias) || eqb n (permission Other) || eqb n cast

-- the number of a fault
abbrev pub number : Fault → ℕ
number F.Overlong = overlong
number F.StrayByte = stray_byte
number F.Malformed = malformed
number F.OverCount = over_count
number F.Unbound = unbound
number F.SelfTaken = self_taken
number F.Unfinished = unfinished
number F.Dangling = dangling
number F.ShortTable = short_table
number F.Absent = absent
number F.NoField = no_field
number F.NoMethod = no_method
number F.WrongThing = wrong_thing
number F.Permission = permission Other
number F.Cast = cast
number F.UsedUp = used_up
number F.NoThread = no_thread
number F.NoScript = no_script
number F.Alias = permission Alias
number F.Foreign = permission Foreign
number F.NoObject = no_object

-- the fault on a ground, whose number is that of the ground
abbrev pub fault_on : Ground → Fault
fault_on Foreign = F.Foreign
fault_on Alias = F.Alias
fault_on Other = F.Permission
