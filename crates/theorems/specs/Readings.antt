-- What the orders of refusals and checks and the four "Readings that sound reasonable" come to: cases in which another order or reading
-- would give something else; what copies give; what messages in flight add to the reports; a drawing; and turns that race and that do not.
use Rattle.std.specs.Prelude.{ℕ, ◌≡◌, Bool, true, false, List, [], ◌∷◌, map}
use Prim.Native.String as S
use Rattle.rules.specs.declared.Cap.{Cap}
use Rattle.rules.specs.declared.Cap.TheVariants.{Imm, Local, Unsafe}
use Rattle.rules.specs.declared.Value.TheVariants.{Obj}
use Rattle.rules.specs.declared.Event.{Event}
use Rattle.rules.specs.declared.Event.TheVariants.{Quiet, Reads, Swaps, Copies}
use Rattle.rules.specs.Mosts.{mosts}
use Rattle.rules.specs.Text.{bytes}
use Rattle.rules.specs.Reading.{Reading, turned_away, accepted, script}
use Rattle.rules.specs.State.{ready, State}
use Rattle.rules.specs.Turn.{Res, stop, copy_line}
use Rattle.rules.specs.Run.{run, refused, ended, halted, finished, stuck, open_end}
use Rattle.rules.specs.Races.{event_at, races_on}
use Rattle.rules.specs.Reach.{roots, reach_list}
use Rattle.rules.specs.Drawing.{drawing}
use Rattle.theorems.specs.Cases.{Case, guarded, stripped, prints, answers}

unfoldable pub refusals : List Case
refusals =
    -- Two refusals hold of a line: 2 before 3, 3 before 4, 4 before 5, 5 before 6. A 6 goes before what is found after all lines.
    answers "(thraed!)\n" [] guarded (refused 2 0)
    ∷ answers "(thread)\n(let (swap 256 007 (read 0)))\n" [] guarded (refused 3 1)
    ∷ answers "(thread)\n(give (read 256))\n" [] guarded (refused 4 1)
    ∷ answers "(method)\n(let (call 5 0 (take 0)))\n" [] guarded (refused 5 1)
    ∷ answers "(method)\n(give (take 0))\n" [] guarded (refused 6 1)
    -- A line out of its place, and one without its LF, are 3; five operands are 4.
    ∷ answers "(thread)\n(give (read 0))\n(kind (fields 0) (does))\n" [] guarded (refused 3 2)
    ∷ answers "(thread)\n(give (read 0))" [] guarded (refused 3 1)
    ∷ answers "(thread)\n(let (new imm 0 (read 0) (read 0) (read 0) (read 0) (read 0)))\n" [] guarded (refused 4 1)
    -- A kind dangles: a 5 on a later line, and an unfinished script, go before 8.
    ∷ answers "(kind (fields 0) (does 7))\n(thread)\n(give (read 1))\n" [] guarded (refused 5 2)
    ∷ answers "(kind (fields 0) (does 7))\n" [] guarded (refused 7 1)
    -- 8 in line order: block 0 is a method, then a spawn names no block.
    ∷ answers "(kind (fields 0) (does 0))\n(method)\n(let (spawn 9))\n(give (read 1))\n" [] guarded (refused 8 1)
    ∷ []

unfoldable pub cases : List Case
cases =
    -- Thread 1 holds an object that is local to thread 0, and its kind has no field and no method: 11 and 12 go before 20.
    answers "(kind (fields 0) (does))\n(kind (fields 1) (does))\n(thread)\n(let (spawn 1))\n(let (new local 0))\n(let (new unsafe 1 (read 2)))\n(let (send 1 (read 3)))\n(give (read 1))\n(thread)\n(let (recv 0))\n(let (field 1 0))\n(let (field 2 0))\n(give (read 1))\n" (0 ∷ 0 ∷ 0 ∷ 0 ∷ 1 ∷ 1 ∷ 1 ∷ []) guarded (halted 11 1 1 2 6)
    ∷ answers "(kind (fields 0) (does))\n(kind (fields 1) (does))\n(thread)\n(let (spawn 1))\n(let (new local 0))\n(let (new unsafe 1 (read 2)))\n(let (send 1 (read 3)))\n(give (read 1))\n(thread)\n(let (recv 0))\n(let (field 1 0))\n(let (swap 2 0 (read 1)))\n(give (read 1))\n" (0 ∷ 0 ∷ 0 ∷ 0 ∷ 1 ∷ 1 ∷ 1 ∷ []) guarded (halted 11 1 1 2 6)
    ∷ answers "(kind (fields 0) (does))\n(kind (fields 1) (does))\n(thread)\n(let (spawn 1))\n(let (new local 0))\n(let (new unsafe 1 (read 2)))\n(let (send 1 (read 3)))\n(give (read 1))\n(thread)\n(let (recv 0))\n(let (field 1 0))\n(let (call 2 0 (read 1)))\n(give (read 1))\n" (0 ∷ 0 ∷ 0 ∷ 0 ∷ 1 ∷ 1 ∷ 1 ∷ []) guarded (halted 12 1 1 2 6)
    -- "a swap stores another thread's local in an unsafe object, a new stops", with 20 since document 02, L5
    ∷ answers "(kind (fields 0) (does))\n(kind (fields 1) (does))\n(thread)\n(let (spawn 1))\n(let (new local 0))\n(let (new unsafe 1 (read 2)))\n(let (send 1 (read 3)))\n(give (read 1))\n(thread)\n(let (recv 0))\n(let (field 1 0))\n(let (swap 1 0 (read 2)))\n(give (read 1))\n" (0 ∷ 0 ∷ 0 ∷ 0 ∷ 1 ∷ 1 ∷ 1 ∷ []) guarded (ended open_end 7)
    ∷ answers "(kind (fields 0) (does))\n(kind (fields 1) (does))\n(thread)\n(let (spawn 1))\n(let (new local 0))\n(let (new unsafe 1 (read 2)))\n(let (send 1 (read 3)))\n(give (read 1))\n(thread)\n(let (recv 0))\n(let (field 1 0))\n(let (new unsafe 1 (read 2)))\n(give (read 1))\n" (0 ∷ 0 ∷ 0 ∷ 0 ∷ 1 ∷ 1 ∷ 1 ∷ []) guarded (halted 20 1 1 2 6)
    -- A swap's target is absent and its value a channel: the target goes first.
    ∷ answers "(thread)\n(let (spawn 0))\n(let (swap 0 0 (read 1)))\n(give (read 1))\n" (0 ∷ 0 ∷ []) guarded (halted 10 0 0 1 1)
    -- A swap's value is a channel and there is no such field: 13 goes before 11.
    ∷ answers "(kind (fields 0) (does))\n(thread)\n(let (spawn 0))\n(let (new unsafe 0))\n(let (swap 2 0 (read 1)))\n(give (read 1))\n" (0 ∷ 0 ∷ 0 ∷ []) guarded (halted 13 0 0 2 2)
    -- A new's first value is above K and its second is a channel: 13 goes before 14.
    ∷ answers "(kind (fields 0) (does))\n(kind (fields 2) (does))\n(thread)\n(let (spawn 0))\n(let (new unsafe 0))\n(let (new imm 1 (read 2) (read 1)))\n(give (read 1))\n" (0 ∷ 0 ∷ 0 ∷ []) guarded (halted 13 0 0 2 2)
    -- A new reads an iso and then an absent slot: each operand passes its own checks before the next.
    ∷ answers "(kind (fields 0) (does))\n(kind (fields 2) (does))\n(thread)\n(let (new iso 0))\n(let (new iso 1 (read 1) (read 0)))\n(give (read 0))\n" (0 ∷ 0 ∷ []) guarded (halted 19 0 0 1 1)
    -- A send's target is an object and its value local: 13 goes before 14.
    ∷ answers "(kind (fields 0) (does))\n(thread)\n(let (new local 0))\n(let (send 1 (read 1)))\n(give (read 0))\n" (0 ∷ 0 ∷ []) guarded (halted 13 0 0 1 1)
    -- The channel is full. A local stops with 14; "letting a send that finds its channel full empty its slot: the record is lost".
    ∷ answers "(kind (fields 0) (does))\n(thread)\n(let (spawn 1))\n(let (new local 0))\n(let (send 1 (take 2)))\n(give (read 1))\n(thread)\n(let (new imm 0))\n(let (send 0 (read 1)))\n(give (read 0))\n" (0 ∷ 1 ∷ 1 ∷ 0 ∷ 0 ∷ []) guarded (halted 14 0 0 2 4)
    ∷ record {
      text = "(kind (fields 0) (does))\n(thread)\n(let (spawn 1))\n(let (new iso 0))\n(let (send 1 (take 2)))\n(give (read 1))\n(thread)\n(let (new imm 0))\n(let (send 0 (read 1)))\n(give (read 0))\n";
      turns = 0 ∷ 1 ∷ 1 ∷ 0 ∷ 0 ∷ [];
      way = guarded;
      answer = ended stuck 4;
      output = prints (bytes "(end stuck 4)\n(object 0 imm 0 1)\n(object 1 iso 0 0)\n(channel 1 (obj 0))\n(thread 0 ready 0 2 absent (chan 1) (obj 1))\n(thread 1 waiting 1 1 (chan 1) (obj 0))\n");
    }
    -- "The other end may have answered first; the message number decides": thread 1 takes the message and puts one of its own.
    ∷ answers "(kind (fields 0) (does))\n(thread)\n(let (spawn 1))\n(let (new imm 0))\n(let (send 1 (read 2)))\n(give (read 1))\n(thread)\n(let (recv 0))\n(let (send 0 (read 1)))\n(give (read 0))\n" (0 ∷ 0 ∷ 0 ∷ 1 ∷ 1 ∷ 0 ∷ []) guarded (ended open_end 6)
    ∷ []

-- Document 02, L5: "Where several hold, 20 goes before 19 and 19 before 14 within one line's permission check; operands still go first."
unfoldable pub grounds : List Case
grounds =
    -- Thread 1 holds an object that is local to thread 0 and whose field holds an iso, in slot 2; what was sent, an unsafe object, is in slot 1.
    -- Field: the target is foreign and its field holds an iso. 20 goes before 19.
    answers "(kind (fields 0) (does))\n(kind (fields 1) (does 2))\n(kind (fields 2) (does))\n(thread)\n(let (spawn 1))\n(let (new iso 0))\n(let (new local 1 (take 2)))\n(let (new unsafe 1 (read 3)))\n(let (send 1 (read 4)))\n(give (read 1))\n(thread)\n(let (recv 0))\n(let (field 1 0))\n(let (field 2 0))\n(give (read 1))\n(method)\n(give (read 1))\n" (0 ∷ 0 ∷ 0 ∷ 0 ∷ 0 ∷ 1 ∷ 1 ∷ 1 ∷ []) guarded (halted 20 1 1 2 7)
    -- Swap: the target is foreign and the value above it. 20 goes before 14.
    ∷ answers "(kind (fields 0) (does))\n(kind (fields 1) (does 2))\n(kind (fields 2) (does))\n(thread)\n(let (spawn 1))\n(let (new iso 0))\n(let (new local 1 (take 2)))\n(let (new unsafe 1 (read 3)))\n(let (send 1 (read 4)))\n(give (read 1))\n(thread)\n(let (recv 0))\n(let (field 1 0))\n(let (swap 2 0 (read 1)))\n(give (read 1))\n(method)\n(give (read 1))\n" (0 ∷ 0 ∷ 0 ∷ 0 ∷ 0 ∷ 1 ∷ 1 ∷ 1 ∷ []) guarded (halted 20 1 1 2 7)
    -- New: its value is foreign and above K; the first value is above K and the second foreign. 20 goes before 14.
    ∷ answers "(kind (fields 0) (does))\n(kind (fields 1) (does 2))\n(kind (fields 2) (does))\n(thread)\n(let (spawn 1))\n(let (new iso 0))\n(let (new local 1 (take 2)))\n(let (new unsafe 1 (read 3)))\n(let (send 1 (read 4)))\n(give (read 1))\n(thread)\n(let (recv 0))\n(let (field 1 0))\n(let (new iso 1 (read 2)))\n(give (read 1))\n(method)\n(give (read 1))\n" (0 ∷ 0 ∷ 0 ∷ 0 ∷ 0 ∷ 1 ∷ 1 ∷ 1 ∷ []) guarded (halted 20 1 1 2 7)
    ∷ answers "(kind (fields 0) (does))\n(kind (fields 1) (does 2))\n(kind (fields 2) (does))\n(thread)\n(let (spawn 1))\n(let (new iso 0))\n(let (new local 1 (take 2)))\n(let (new unsafe 1 (read 3)))\n(let (send 1 (read 4)))\n(give (read 1))\n(thread)\n(let (recv 0))\n(let (field 1 0))\n(let (new local 2 (read 1) (read 2)))\n(give (read 1))\n(method)\n(give (read 1))\n" (0 ∷ 0 ∷ 0 ∷ 0 ∷ 0 ∷ 1 ∷ 1 ∷ 1 ∷ []) guarded (halted 20 1 1 2 7)
    -- "operands still go first": the target, or another value, is foreign, and an operand reads an iso.
    ∷ answers "(kind (fields 0) (does))\n(kind (fields 1) (does 2))\n(kind (fields 2) (does))\n(thread)\n(let (spawn 1))\n(let (new iso 0))\n(let (new local 1 (take 2)))\n(let (new unsafe 1 (read 3)))\n(let (send 1 (read 4)))\n(give (read 1))\n(thread)\n(let (recv 0))\n(let (field 1 0))\n(let (new iso 0))\n(let (swap 2 0 (read 3)))\n(give (read 1))\n(method)\n(give (read 1))\n" (0 ∷ 0 ∷ 0 ∷ 0 ∷ 0 ∷ 1 ∷ 1 ∷ 1 ∷ 1 ∷ []) guarded (halted 19 1 1 3 8)
    ∷ answers "(kind (fields 0) (does))\n(kind (fields 1) (does 2))\n(kind (fields 2) (does))\n(thread)\n(let (spawn 1))\n(let (new iso 0))\n(let (new local 1 (take 2)))\n(let (new unsafe 1 (read 3)))\n(let (send 1 (read 4)))\n(give (read 1))\n(thread)\n(let (recv 0))\n(let (field 1 0))\n(let (new iso 0))\n(let (call 2 0 (read 3)))\n(give (read 1))\n(method)\n(give (read 1))\n" (0 ∷ 0 ∷ 0 ∷ 0 ∷ 0 ∷ 1 ∷ 1 ∷ 1 ∷ 1 ∷ []) guarded (halted 19 1 1 3 8)
    ∷ answers "(kind (fields 0) (does))\n(kind (fields 1) (does 2))\n(kind (fields 2) (does))\n(thread)\n(let (spawn 1))\n(let (new iso 0))\n(let (new local 1 (take 2)))\n(let (new unsafe 1 (read 3)))\n(let (send 1 (read 4)))\n(give (read 1))\n(thread)\n(let (recv 0))\n(let (field 1 0))\n(let (new iso 0))\n(let (new iso 2 (read 2) (read 3)))\n(give (read 1))\n(method)\n(give (read 1))\n" (0 ∷ 0 ∷ 0 ∷ 0 ∷ 0 ∷ 1 ∷ 1 ∷ 1 ∷ 1 ∷ []) guarded (halted 19 1 1 3 8)
    -- "swap's two locals with other creators", each way round.
    ∷ answers "(kind (fields 0) (does))\n(kind (fields 1) (does 2))\n(kind (fields 2) (does))\n(thread)\n(let (spawn 1))\n(let (new iso 0))\n(let (new local 1 (take 2)))\n(let (new unsafe 1 (read 3)))\n(let (send 1 (read 4)))\n(give (read 1))\n(thread)\n(let (recv 0))\n(let (field 1 0))\n(let (new imm 0))\n(let (new local 1 (read 3)))\n(let (swap 4 0 (read 2)))\n(give (read 1))\n(method)\n(give (read 1))\n" (0 ∷ 0 ∷ 0 ∷ 0 ∷ 0 ∷ 1 ∷ 1 ∷ 1 ∷ 1 ∷ 1 ∷ []) guarded (halted 20 1 1 4 9)
    ∷ answers "(kind (fields 0) (does))\n(kind (fields 1) (does 2))\n(kind (fields 2) (does))\n(thread)\n(let (spawn 1))\n(let (new iso 0))\n(let (new local 1 (take 2)))\n(let (new unsafe 1 (read 3)))\n(let (send 1 (read 4)))\n(give (read 1))\n(thread)\n(let (recv 0))\n(let (field 1 0))\n(let (new local 0))\n(let (swap 2 0 (read 3)))\n(give (read 1))\n(method)\n(give (read 1))\n" (0 ∷ 0 ∷ 0 ∷ 0 ∷ 0 ∷ 1 ∷ 1 ∷ 1 ∷ 1 ∷ []) guarded (halted 20 1 1 3 8)
    -- A call on it. "The rest stays 14, any local in a send too", another thread's as well.
    ∷ answers "(kind (fields 0) (does))\n(kind (fields 1) (does 2))\n(kind (fields 2) (does))\n(thread)\n(let (spawn 1))\n(let (new iso 0))\n(let (new local 1 (take 2)))\n(let (new unsafe 1 (read 3)))\n(let (send 1 (read 4)))\n(give (read 1))\n(thread)\n(let (recv 0))\n(let (field 1 0))\n(let (call 2 0 (read 1)))\n(give (read 1))\n(method)\n(give (read 1))\n" (0 ∷ 0 ∷ 0 ∷ 0 ∷ 0 ∷ 1 ∷ 1 ∷ 1 ∷ []) guarded (halted 20 1 1 2 7)
    ∷ answers "(kind (fields 0) (does))\n(kind (fields 1) (does 2))\n(kind (fields 2) (does))\n(thread)\n(let (spawn 1))\n(let (new iso 0))\n(let (new local 1 (take 2)))\n(let (new unsafe 1 (read 3)))\n(let (send 1 (read 4)))\n(give (read 1))\n(thread)\n(let (recv 0))\n(let (field 1 0))\n(let (send 0 (read 2)))\n(give (read 1))\n(method)\n(give (read 1))\n" (0 ∷ 0 ∷ 0 ∷ 0 ∷ 0 ∷ 1 ∷ 1 ∷ 1 ∷ []) guarded (halted 14 1 1 2 7)
    ∷ []

-- ---- Copies (document 02, L6)

unfoldable pub editions : List Case
editions =
    -- The first line names the edition and counts in the numbers of lines.
    answers "(script 2)\n" [] guarded (refused 7 1)
    ∷ answers "(script 2)\n(method)\n(give (read 0))\n" [] guarded (refused 8 1)
    -- Without its LF, with another number, or anywhere else it is 3; with a stray byte 2.
    ∷ answers "(script 2)" [] guarded (refused 3 0)
    ∷ answers "(script 1)\n(thread)\n(give (read 0))\n" [] guarded (refused 3 0)
    ∷ answers "(script 2)\n(script 2)\n(thread)\n(give (read 0))\n" [] guarded (refused 3 1)
    ∷ answers "(thread)\n(give (read 0))\n(script 2)\n" [] guarded (refused 3 2)
    ∷ answers "(script-2)\n" [] guarded (refused 2 0)
    -- A copy in the first edition and a copy to iso are 3, and that before 4; then 4 and 5 as for every slot.
    ∷ answers "(thread)\n(let (copy imm 0))\n(give (read 0))\n" [] guarded (refused 3 1)
    ∷ answers "(script 2)\n(thread)\n(let (copy iso 256))\n(give (read 0))\n" [] guarded (refused 3 2)
    ∷ answers "(script 2)\n(thread)\n(let (copy imm 256))\n(give (read 0))\n" [] guarded (refused 4 2)
    ∷ answers "(script 2)\n(thread)\n(let (copy imm 1))\n(give (read 0))\n" [] guarded (refused 5 2)
    ∷ []

-- thread 1 gets an unsafe object that holds an object local to thread 0, and copies it
unfoldable pub foreign_within : S.String
foreign_within =
    "(script 2)\n(kind (fields 0) (does))\n(kind (fields 1) (does))\n(thread)\n(let (spawn 1))\n(let (new local 0))\n(let (new unsafe 1 (read 2)))\n(let (send 1 (read 3)))\n(give (read 1))\n(thread)\n(let (recv 0))\n(let (copy imm 1))\n(give (read 2))\n"

unfoldable pub copies : List Case
copies =
    -- Objects 1 and 2 hold each other, and both hold object 0. The copy of 2 meets 2, 1 and 0: they become 3, 4 and 5.
    record {
      text = "(script 2)\n(kind (fields 0) (does))\n(kind (fields 2) (does))\n(thread)\n(let (new unsafe 0))\n(let (new unsafe 1 (read 1) (read 1)))\n(let (new unsafe 1 (read 2) (read 1)))\n(let (swap 2 0 (read 3)))\n(let (copy imm 3))\n(give (read 5))\n";
      turns = 0 ∷ 0 ∷ 0 ∷ 0 ∷ 0 ∷ [];
      way = guarded;
      answer = ended open_end 5;
      output = prints (bytes "(end open 5)\n(object 0 unsafe 0 0)\n(object 1 unsafe 1 0 (obj 2) (obj 0))\n(object 2 unsafe 1 0 (obj 1) (obj 0))\n(object 3 imm 1 0 (obj 4) (obj 5))\n(object 4 imm 1 0 (obj 3) (obj 5))\n(object 5 imm 0 0)\n(thread 0 ready 0 5 absent (obj 0) (obj 1) (obj 2) (obj 0) (obj 3))\n");
    }
    -- "The slot keeps its value, even an iso."
    ∷ answers "(script 2)\n(kind (fields 0) (does))\n(thread)\n(let (new iso 0))\n(let (copy local 1))\n(give (take 1))\n" (0 ∷ 0 ∷ 0 ∷ []) guarded (ended finished 3)
    -- "slot absent 10, a channel 13, any object met local to another thread 20"; stripped, the last one moves on
    ∷ answers "(script 2)\n(thread)\n(let (copy imm 0))\n(give (read 1))\n" (0 ∷ []) guarded (halted 10 0 0 0 0)
    ∷ answers "(script 2)\n(thread)\n(let (spawn 0))\n(let (copy imm 1))\n(give (read 1))\n" (0 ∷ 0 ∷ []) guarded (halted 13 0 0 1 1)
    ∷ answers foreign_within (0 ∷ 0 ∷ 0 ∷ 0 ∷ 1 ∷ 1 ∷ 1 ∷ []) guarded (halted 20 1 1 1 5)
    ∷ answers foreign_within (0 ∷ 0 ∷ 0 ∷ 0 ∷ 1 ∷ 1 ∷ 1 ∷ []) stripped (ended open_end 7)
    ∷ []

-- Thread 1 of a box with room for one object copies an object that is local to thread 0: 20 goes before 16. For an unsafe one it is 16.
unfoldable pub copy_within : ℕ → Cap → Res State
copy_within room c =
    copy_line (record { kinds = 0; blocks = 0; lets = 0; objects = room; threads = 0 })
    (record {
      state = record { objects = record { cap = c; kind = 0; creator = 0; fields = [] } ∷ []; threads = []; channels = [] };
      self = 1;
      sender = ready;
      frame = record { block = 0; line = 0; slots = Obj 0 ∷ [] };
      callers = [];
    })
    Imm 0

abbrev pub ForeignBeforeRoom : Type 0
ForeignBeforeRoom = (copy_within 1 Local ≡ stop 20) × (copy_within 1 Unsafe ≡ stop 16)

-- ---- Reach reports (document 02, L1 and L4)

-- what a thread reaches after these turns
pub record Reach : Type 0 where
  pub text : S.String
  pub turns : List ℕ
  pub thread : ℕ
  pub reached : List ℕ

unfoldable pub reached_in : List ℕ → ℕ → Reading → List ℕ
reached_in ts t (turned_away k n) = []
reached_in ts t (accepted P) = let S = (run mosts P ts).state in reach_list S.objects (roots P S t)

-- every report of a table comes out as stated
abbrev pub AllReached : List Reach → Type 0
AllReached cs = map (λ (c : Reach). reached_in c.turns c.thread (script mosts (bytes c.text))) cs ≡ map (λ (c : Reach). c.reached) cs

-- thread 0 sends object 1, which holds object 0; thread 1 receives it and sends it back
unfoldable pub echo : S.String
echo =
    "(kind (fields 0) (does))\n(kind (fields 1) (does))\n(thread)\n(let (spawn 1))\n(let (new iso 0))\n(let (new iso 1 (take 2)))\n(let (send 1 (take 3)))\n(give (read 1))\n(thread)\n(let (recv 0))\n(let (send 0 (take 1)))\n(give (read 0))\n"

unfoldable pub reports : List Reach
reports =
    -- the message in the channel, and what it reaches, is its sender's; it is not yet the receiver's
    record { text = echo; turns = 0 ∷ 0 ∷ 0 ∷ 0 ∷ []; thread = 0; reached = 0 ∷ 1 ∷ [] }
    ∷ record { text = echo; turns = 0 ∷ 0 ∷ 0 ∷ 0 ∷ 0 ∷ []; thread = 1; reached = [] }
    -- received: the sender, which still waits, no longer reaches it
    ∷ record { text = echo; turns = 0 ∷ 0 ∷ 0 ∷ 0 ∷ 1 ∷ []; thread = 0; reached = [] }
    ∷ record { text = echo; turns = 0 ∷ 0 ∷ 0 ∷ 0 ∷ 1 ∷ []; thread = 1; reached = 0 ∷ 1 ∷ [] }
    -- the very same object is in the channel again, under another number: it is the other sender's
    ∷ record { text = echo; turns = 0 ∷ 0 ∷ 0 ∷ 0 ∷ 1 ∷ 1 ∷ []; thread = 0; reached = [] }
    ∷ record { text = echo; turns = 0 ∷ 0 ∷ 0 ∷ 0 ∷ 1 ∷ 1 ∷ []; thread = 1; reached = 0 ∷ 1 ∷ [] }
    ∷ []

-- ---- Drawings (document 02, L8)

-- what is drawn of a text's run, if it is accepted
unfoldable pub drawn_from : List ℕ → Reading → List ℕ
drawn_from ts (turned_away k n) = []
drawn_from ts (accepted P) = drawing (run mosts P ts).state

-- the example of docs/DRAWING.md: all nodes before all edges, an edge for each field with its number, the run as the guard stopped it
unfoldable pub drawn_script : S.String
drawn_script =
    "(kind (fields 0) (does))\n(kind (fields 0) (does))\n(kind (fields 1) (does 2))\n(kind (fields 2) (does))\n(thread)\n(let (spawn 1))\n(let (new imm 0))\n(let (new imm 1))\n(let (new local 2 (read 2)))\n(let (new unsafe 3 (read 4) (read 2)))\n(let (send 1 (take 5)))\n(let (call 4 0 (read 3)))\n(give (read 4))\n(thread)\n(let (recv 0))\n(let (field 1 0))\n(let (field 1 1))\n(let (call 2 0 (read 3)))\n(give (read 2))\n(method)\n(let (swap 0 0 (read 1)))\n(give (read 2))\n"

abbrev pub DrawsExample : Type 0
DrawsExample =
    drawn_from (0 ∷ 0 ∷ 0 ∷ 0 ∷ 0 ∷ 0 ∷ 1 ∷ 0 ∷ 1 ∷ 1 ∷ 0 ∷ 0 ∷ 0 ∷ 0 ∷ 1 ∷ 1 ∷ 1 ∷ 1 ∷ []) (script mosts (bytes drawn_script))
    ≡ bytes "digraph objects {\n  node [style=filled];\n  0 [label=\"0 imm\", shape=box, fillcolor=lightblue];\n  1 [label=\"1 imm\", shape=box, fillcolor=lightblue];\n  2 [label=\"2 local\", shape=house, fillcolor=khaki];\n  3 [label=\"3 unsafe\", shape=octagon, fillcolor=salmon];\n  2 -> 1 [label=\"0\"];\n  3 -> 2 [label=\"0\"];\n  3 -> 0 [label=\"1\"];\n}\n"

-- ---- Races (document 02, L9)

-- two turns of a text's run, what each does, and whether they race on a field of an object
pub record Pair : Type 0 where
  pub text : S.String
  pub turns : List ℕ
  pub first : ℕ
  pub second : ℕ
  pub object : ℕ
  pub field : ℕ
  pub does : Event × Event
  pub race : Bool

unfoldable pub race_in : Pair → Reading → (Event × Event) × Bool
race_in c (turned_away k n) = ((Quiet, Quiet), false)
race_in c (accepted P) =
    ((event_at mosts P c.turns c.first, event_at mosts P c.turns c.second), races_on mosts P c.turns c.first c.second c.object c.field)

-- every pair of a table comes out as stated
abbrev pub AllRace : List Pair → Type 0
AllRace cs = map (λ (c : Pair). race_in c (script mosts (bytes c.text))) cs ≡ map (λ (c : Pair). (c.does, c.race)) cs

-- thread 0 puts object 1 in turn 3, thread 1 receives it in turn 4, and both read and swap its field
unfoldable pub shared : S.String
shared =
    "(kind (fields 0) (does))\n(kind (fields 1) (does))\n(thread)\n(let (spawn 1))\n(let (new unsafe 0))\n(let (new unsafe 1 (read 2)))\n(let (send 1 (read 3)))\n(let (swap 3 0 (read 2)))\n(let (field 3 0))\n(give (read 1))\n(thread)\n(let (recv 0))\n(let (field 1 0))\n(let (swap 1 0 (read 2)))\n(give (read 0))\n"

unfoldable pub shared_turns : List ℕ
shared_turns = 0 ∷ 0 ∷ 0 ∷ 0 ∷ 1 ∷ 0 ∷ 0 ∷ 1 ∷ 0 ∷ 1 ∷ []

-- threads 1 and 2 do the same: thread 2 receives object 1 before thread 0 swaps its field in turn 7, thread 1 after it
unfoldable pub shared_by_three : S.String
shared_by_three =
    "(kind (fields 0) (does))\n(kind (fields 1) (does))\n(thread)\n(let (spawn 1))\n(let (spawn 1))\n(let (new unsafe 0))\n(let (new unsafe 1 (read 3)))\n(let (send 2 (read 4)))\n(let (swap 4 0 (read 3)))\n(let (send 1 (read 4)))\n(give (read 1))\n(thread)\n(let (recv 0))\n(let (field 1 0))\n(give (read 0))\n"

unfoldable pub three_turns : List ℕ
three_turns = 0 ∷ 0 ∷ 0 ∷ 0 ∷ 0 ∷ 2 ∷ 0 ∷ 0 ∷ 0 ∷ 1 ∷ 2 ∷ 1 ∷ []

-- thread 0 swaps the field of object 1, which object 2 holds; thread 1 copies object 2
unfoldable pub copied_shared : S.String
copied_shared =
    "(script 2)\n(kind (fields 0) (does))\n(kind (fields 1) (does))\n(thread)\n(let (spawn 1))\n(let (new unsafe 0))\n(let (new unsafe 1 (read 2)))\n(let (new unsafe 1 (read 3)))\n(let (send 1 (read 4)))\n(let (swap 3 0 (read 2)))\n(give (read 1))\n(thread)\n(let (recv 0))\n(let (copy imm 1))\n(give (read 0))\n"

unfoldable pub copied_turns : List ℕ
copied_turns = 0 ∷ 0 ∷ 0 ∷ 0 ∷ 0 ∷ 1 ∷ 0 ∷ 0 ∷ 1 ∷ []

unfoldable pub pairs : List Pair
pairs =
    -- a swap and then a read, a read and then a swap; what was put and received before the first of them does not count
    record { text = shared; turns = shared_turns; first = 6; second = 7; object = 1; field = 0; does = (Swaps 1 0, Reads 1 0); race = true }
    ∷ record { text = shared; turns = shared_turns; first = 8; second = 9; object = 1; field = 0; does = (Reads 1 0, Swaps 1 0); race = true }
    -- "at least one swaps": two reads do not race
    ∷ record { text = shared; turns = shared_turns; first = 7; second = 8; object = 1; field = 0; does = (Reads 1 0, Reads 1 0); race = false }
    -- "different threads made them": a thread does not race with itself
    ∷ record { text = shared; turns = shared_turns; first = 6; second = 8; object = 1; field = 0; does = (Swaps 1 0, Reads 1 0); race = false }
    -- "the first thread put a message .. and the second afterwards received one": thread 1 did; what it received does not count for thread 2
    ∷ record { text = shared_by_three; turns = three_turns; first = 7; second = 11; object = 1; field = 0; does = (Swaps 1 0, Reads 1 0); race = false }
    ∷ record { text = shared_by_three; turns = three_turns; first = 7; second = 10; object = 1; field = 0; does = (Swaps 1 0, Reads 1 0); race = true }
    -- "A copy reads every field of every object it meets": object 1 is the second that it meets
    ∷ record { text = copied_shared; turns = copied_turns; first = 7; second = 8; object = 1; field = 0; does = (Swaps 1 0, Copies 2); race = true }
    ∷ []
