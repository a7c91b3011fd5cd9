-- Capabilities play no part in a report: a thread reaches the same objects in the erased state of the stripped script.
use Prim.Native.Nat.{ℕ}
use mathlib.Core.Path.{◌≡◌, refl, ap}
use mathlib.Core.List.{List, [], ◌∷◌, ◌++◌}
use lib.ListN.{length, length-map}
use Rattle.rules.specs.declared.Value.{Value}
use Rattle.rules.specs.declared.Value.TheVariants.{Absent, Obj, Chan}
use Rattle.rules.specs.Lists.{rising, among}
use Rattle.rules.specs.Script.{Program, value, field, swap, call, new, cast, spawn, send, recv, copy, Line, bind, give, line_at}
use Rattle.rules.specs.State.{Frame, Sender, ready, waiting, State, thread_at, channel_at}
use Rattle.rules.specs.Stripped.{strip_expr, strip, erase_object, erase}
use Rattle.rules.specs.Reach.{slots_of, message_on, send_target, put_by, in_flight, roots, reach_list}
use Rattle.rules.proofs.Walks.{met_erased}
use Rattle.rules.proofs.Simulation.{strip_line, line_at_stripped}

-- a send stays what it is
send_stripped : (x : Line) (vs : List Value) → send_target (strip_line x) vs ≡ send_target x vs
unfolding send_target strip_line strip_expr
send_stripped (bind (value w)) vs = refl
send_stripped (bind (field s f)) vs = refl
send_stripped (bind (swap s f w)) vs = refl
send_stripped (bind (call s i w)) vs = refl
send_stripped (bind (new k n ws)) vs = refl
send_stripped (bind (cast k w)) vs = refl
send_stripped (bind (spawn b)) vs = refl
send_stripped (bind (send s w)) vs = refl
send_stripped (bind (recv s)) vs = refl
send_stripped (bind (copy k s)) vs = refl
send_stripped (give w) vs = refl

message_erased : (S : State) (i : ℕ) (v : Value) → message_on (erase S) i v ≡ message_on S i v
unfolding message_on erase channel_at
message_erased S i Absent = refl
message_erased S i (Obj n) = refl
message_erased S i (Chan c) = refl

put_erased : (P : Program) (S : State) (d : Sender) (fs : List Frame) → put_by (strip P) (erase S) d fs ≡ put_by P S d fs
unfolding put_by
put_erased P S ready fs = refl
put_erased P S (waiting i) [] = refl
put_erased P S (waiting i) (f ∷ fs) =
    rw (line_at_stripped P f.block f.line, send_stripped (line_at P f.block f.line) f.slots) (message_erased S i (send_target (line_at P f.block f.line) f.slots))

roots_erased : (P : Program) (S : State) (t : ℕ) → roots (strip P) (erase S) t ≡ roots P S t
unfolding roots in_flight erase thread_at
roots_erased P S t = ap (λ v. slots_of (thread_at S t).frames ++ (v ∷ [])) (put_erased P S (thread_at S t).sender (thread_at S t).frames)

-- a thread reaches the same objects, in the same order, in the erased state of the stripped script
pub reach_erased : (P : Program) (S : State) (t : ℕ) → reach_list (erase S).objects (roots (strip P) (erase S) t) ≡ reach_list S.objects (roots P S t)
unfolding reach_list erase
reach_erased P S t =
    rw (roots_erased P S t, length-map S.objects erase_object) (ap (λ (xs : List ℕ). rising (length S.objects) (λ x. among x xs)) (met_erased S.objects (roots P S t)))
