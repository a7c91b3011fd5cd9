-- One turn of the stripped script on the erased state follows the guarded turn: no check but the guards' reads a capability, and unsafe passes every guard.
use Prim.Native.Nat.{ℕ, zero, suc}
use mathlib.Core.Path.{◌≡◌, refl, sym, ap, ◌∙◌}
use mathlib.Core.Bool.{Bool, true, false, not, false≢true}
use mathlib.Core.List.{List, [], ◌∷◌, map, map-append}
use lib.ListN.{length-map, get_or-map}
use Rattle.rules.specs.declared.Cap.{Cap}
use Rattle.rules.specs.declared.Cap.TheVariants.{Unsafe}
use Rattle.rules.specs.declared.Value.{Value}
use Rattle.rules.specs.declared.Value.TheVariants.{Absent, Obj, Chan}
use Rattle.rules.specs.declared.Mosts.{Mosts}
use Rattle.rules.specs.Numbers as No
use Rattle.rules.specs.Lists.{any}
use Rattle.rules.specs.Script.{Program, no_block, Operand, reads, takes, Expr, value, field, swap, call, new, cast, spawn, send, recv, copy, Line, bind, give, kind_at, block_at, line_of, line_at}
use Rattle.rules.specs.State.{Object, Frame, Sender, ready, waiting, State, thread_at, channel_at, slot_at}
use Rattle.rules.specs.Turn.{Res, ok, wait, stop, ◌>>=◌, ◌>>◌, check, wait_unless, permit, is_imm, is_iso, is_local, same_cap, may_hold, is_foreign, is_iso_object, present, as_object, as_channel, operand, operands, all_objects, Here, object, put_thread, put_objects, put_channel, gives, value_line, field_line, are_apart, permit_swap, set_field, swap_line, call_line, new_line, cast_line, started, spawn_line, put_line, sent_line, send_line, recv_line, copy_of, copy_line, returned, give_line, let_line, perform, turn_of, turn}
use Rattle.rules.specs.Walk.{met_from}
use Rattle.rules.proofs.ListLaws.{every_all, any_none, map_set}
use Rattle.rules.specs.Stripped.{strip_expr, strip_block, strip, erase_object, erase}
use Rattle.rules.proofs.Walks.{object_erased, met_erased}

-- ---- When a stripped result follows a guarded one

-- the stripped result is the guarded one, erased, unless the guarded one is a guard's stop
abbrev pub Follows : {A : Type 0} → (A → A) → (guarded stripped : Res A) → Type 0
Follows erasing (ok a) s = s ≡ ok (erasing a)
Follows erasing wait s = s ≡ wait
Follows erasing (stop n) s = No.is_guard n ≡ false → s ≡ stop n

-- whatever the guarded result is, the stripped one is something erased, a wait, or a stop that is not a guard's
abbrev pub Unguarded : {A : Type 0} → (A → A) → Res A → Type 0
Unguarded {A = A} erasing (ok a) = (b : A) × (a ≡ erasing b)
Unguarded erasing wait = Unit {0}
Unguarded erasing (stop n) = No.is_guard n ≡ false

pub record Sim {A : Type 0} (erasing : A → A) (guarded stripped : Res A) : Type 0 where
  pub follows : Follows erasing guarded stripped
  pub unguarded : Unguarded erasing stripped

-- what holds no capability is erased to itself
abbrev same : {A : Type 0} → A → A
same a = a

-- ---- One after the other

follows_bind : {A B : Type 0} (erasing : B → B) (x y : Res A) (f g : A → Res B) → Follows same x y → ((a : A) → Sim erasing (f a) (g a))
    → Follows erasing (x >>= f) (y >>= g)
unfolding ◌>>=◌
follows_bind erasing (ok a) y f g h k = rw h (k a).follows
follows_bind erasing wait y f g h k = rw h refl
follows_bind erasing (stop n) y f g h k = λ e. rw (h e) refl

unguarded_bind : {A B : Type 0} (erasing : B → B) (y : Res A) (f g : A → Res B) → Unguarded same y → ((a : A) → Sim erasing (f a) (g a))
    → Unguarded erasing (y >>= g)
unfolding ◌>>=◌
unguarded_bind erasing (ok a) f g h k = (k a).unguarded
unguarded_bind erasing wait f g h k = tt
unguarded_bind erasing (stop n) f g h k = h

sim_bind : {A B : Type 0} {erasing : B → B} {x y : Res A} {f g : A → Res B} → Sim same x y → ((a : A) → Sim erasing (f a) (g a))
    → Sim erasing (x >>= f) (y >>= g)
sim_bind {erasing = erasing} {x} {y} {f} {g} h k =
    record { follows = follows_bind erasing x y f g h.follows k; unguarded = unguarded_bind erasing y f g h.unguarded k }

sim_then : {A B : Type 0} {erasing : B → B} {x y : Res A} {f g : Res B} → Sim same x y → Sim erasing f g → Sim erasing (x >> f) (y >> g)
unfolding ◌>>◌
sim_then h k = sim_bind h (λ _. k)

-- ---- What both sides do alike

sim_ok : {A : Type 0} {erasing : A → A} {a b : A} → b ≡ erasing a → Sim erasing (ok a) (ok b)
sim_ok {a = a} e = record { follows = ap ok e; unguarded = (a, e) }

sim_same : {A : Type 0} (x : Res A) → Unguarded same x → Sim same x x
sim_same (ok a) h = record { follows = refl; unguarded = h }
sim_same wait h = record { follows = refl; unguarded = h }
sim_same (stop n) h = record { follows = λ _. refl; unguarded = h }

sim_check : (b : Bool) (n : ℕ) → No.is_guard n ≡ false → Sim same (check b n) (check b n)
unfolding check
sim_check true n h = sim_ok refl
sim_check false n h = sim_same (stop n) h

sim_wait : (b : Bool) → Sim same (wait_unless b) (wait_unless b)
unfolding wait_unless
sim_wait true = sim_ok refl
sim_wait false = sim_same wait tt

sim_present : (v : Value) → Sim same (present v) (present v)
unfolding present
sim_present Absent = sim_same _ refl
sim_present (Obj n) = sim_ok refl
sim_present (Chan c) = sim_ok refl

sim_object : (v : Value) → Sim same (as_object v) (as_object v)
unfolding as_object
sim_object Absent = sim_same _ refl
sim_object (Obj n) = sim_ok refl
sim_object (Chan c) = sim_same _ refl

sim_objects : (vs : List Value) → Sim same (all_objects vs) (all_objects vs)
unfolding all_objects
sim_objects [] = sim_ok refl
sim_objects (v ∷ vs) = sim_bind (sim_object v) λ n. sim_bind (sim_objects vs) λ ns. sim_ok refl

sim_channel : (v : Value) → Sim same (as_channel v) (as_channel v)
unfolding as_channel
sim_channel Absent = sim_same _ refl
sim_channel (Obj n) = sim_same _ refl
sim_channel (Chan c) = sim_ok refl

-- ---- The guards: the stripped side passes, and the guarded side stops with a guard's number only

sim_guard : (b : Bool) {c : Bool} (n : ℕ) → No.is_guard n ≡ true → c ≡ true → Sim same (check b n) (check c n)
unfolding check
sim_guard true n h e = rw e (sim_ok refl)
sim_guard false n h e = rw e (record { follows = λ k. absurd (false≢true (sym k ∙ h)); unguarded = (tt, refl) })

sim_permit : (f a o : Bool) {f' a' o' : Bool} → f' ≡ false → a' ≡ false → o' ≡ false → Sim same (permit f a o) (permit f' a' o')
unfolding permit
sim_permit f a o no-foreign no-alias no_other =
    sim_then (sim_guard _ _ refl (ap not no-foreign))
    (sim_then (sim_guard _ _ refl (ap not no-alias))
    (sim_guard _ _ refl (ap not no_other)))

-- ---- Erased objects

no_iso : (os : List Object) (v : Value) → is_iso_object (map erase_object os) v ≡ false
unfolding is_iso_object erase_object is_iso
no_iso os Absent = refl
no_iso os (Obj n) = rw object_erased refl
no_iso os (Chan c) = refl

-- ---- Operands

sim_operand : (os : List Object) (vs : List Value) (w : Operand) → Sim same (operand os vs w) (operand (map erase_object os) vs w)
unfolding operand
sim_operand os vs (reads s) =
    sim_bind (sim_present (slot_at vs s)) λ v.
    sim_then (sim_permit _ _ _ refl (no_iso os v) refl) (sim_ok refl)
sim_operand os vs (takes s) = sim_bind (sim_present (slot_at vs s)) λ v. sim_ok refl

sim_operands : (os : List Object) (vs : List Value) (ws : List Operand) → Sim same (operands os vs ws) (operands (map erase_object os) vs ws)
unfolding operands
sim_operands os vs [] = sim_ok refl
sim_operands os vs (w ∷ ws) =
    sim_bind (sim_operand os vs w) λ p.
    sim_bind (sim_operands os p.1 ws) λ q. sim_ok refl

-- ---- The line forms

erase_here : Here → Here
erase_here H = record { state = erase H.state; self = H.self; sender = H.sender; frame = H.frame; callers = H.callers }

here_erased : (H : Here) (n : ℕ) → object (erase_here H) n ≡ erase_object (object H n)
unfolding erase_here object erase
here_erased H n = object_erased H.state.objects n

sim_value : (H : Here) (w : Operand) → Sim erase (value_line H w) (value_line (erase_here H) w)
unfolding value_line erase_here erase gives put_thread
sim_value H w = sim_bind (sim_operand _ _ w) λ p. sim_ok refl

sim_field : (H : Here) (s f : ℕ) → Sim erase (field_line H s f) (field_line (erase_here H) s f)
unfolding field_line erase_here erase gives put_thread erase_object is_foreign is_local
sim_field H s f =
    sim_bind (sim_object _) λ n.
    rw (here_erased H n)
    (sim_then (sim_check _ _ refl)
    (sim_then (sim_permit _ _ _ refl (no_iso H.state.objects _) refl)
    (sim_ok refl)))

sim_swap : (H : Here) (s f : ℕ) (w : Operand) → Sim erase (swap_line H s f w) (swap_line (erase_here H) s f w)
unfolding swap_line erase_here erase gives put_thread put_objects set_field erase_object permit_swap is_foreign are_apart is_imm is_local may_hold
sim_swap H s f w =
    sim_bind (sim_operand _ _ w) λ p.
    sim_bind (sim_object _) λ n.
    sim_bind (sim_object _) λ u.
    rw (here_erased H n, here_erased H u)
    (sim_then (sim_check _ _ refl)
    (sim_then (sim_permit _ _ _ refl refl refl)
    (sim_ok (rw map_set refl))))

sim_call : (P : Program) (H : Here) (s i : ℕ) (w : Operand) → Sim erase (call_line P H s i w) (call_line (strip P) (erase_here H) s i w)
unfolding call_line erase_here erase put_thread erase_object is_foreign is_local kind_at strip
sim_call P H s i w =
    sim_bind (sim_operand _ _ w) λ p.
    sim_bind (sim_object _) λ n.
    rw (here_erased H n)
    (sim_then (sim_check _ _ refl)
    (sim_then (sim_permit _ _ _ refl refl refl)
    (sim_then (sim_check _ _ refl)
    (sim_ok refl))))

-- a test that every erased object fails: none of these objects passes it
none_erased : (f : Object → Bool) → ((o : Object) → f (erase_object o) ≡ false) → (H : Here) (ns : List ℕ)
    → any (λ i. f (object (erase_here H) i)) ns ≡ false
none_erased f h H ns = any_none _ ns (every_all _ (λ i. ap f (here_erased H i) ∙ h (object H i)) ns)

none_foreign : (H : Here) (ns : List ℕ) → any (λ i. is_foreign H.self (object (erase_here H) i)) ns ≡ false
unfolding is_foreign erase_object is_local
none_foreign H ns = none_erased (is_foreign H.self) (λ o. refl) H ns

sim_new : (m : Mosts) (H : Here) (k : Cap) (n : ℕ) (ws : List Operand) → Sim erase (new_line m H k n ws) (new_line m (erase_here H) Unsafe n ws)
unfolding new_line erase_here erase gives put_thread put_objects erase_object is_foreign is_local may_hold
sim_new m H k n ws =
    sim_bind (sim_operands _ _ ws) λ p.
    sim_bind (sim_objects _) λ ns.
    rw (length-map H.state.objects erase_object)
    (sim_then (sim_permit _ _ _ (none_foreign H ns) refl (none_above ns))
    (sim_then (sim_check _ _ refl)
    (sim_ok (rw map-append refl))))
  where
    none_above : (ns : List ℕ) → any (λ i. not (may_hold Unsafe (object (erase_here H) i).cap)) ns ≡ false
    none_above ns = none_erased (λ o. not (may_hold Unsafe o.cap)) (λ o. refl) H ns

sim_cast : (H : Here) (k : Cap) (w : Operand) → Sim erase (cast_line H k w) (cast_line (erase_here H) Unsafe w)
unfolding cast_line erase_here erase gives put_thread erase_object same_cap
sim_cast H k w =
    sim_bind (sim_operand _ _ w) λ p.
    sim_bind (sim_object _) λ n.
    rw (here_erased H n) (sim_then (sim_guard _ _ refl refl) (sim_ok refl))

sim_spawn : (m : Mosts) (H : Here) (b : ℕ) → Sim erase (spawn_line m H b) (spawn_line m (erase_here H) b)
unfolding spawn_line erase_here erase gives put_thread started
sim_spawn m H b = sim_then (sim_check _ _ refl) (sim_ok refl)

sim_put : (H : Here) (s : ℕ) (w : Operand) → Sim erase (put_line H s w) (put_line (erase_here H) s w)
unfolding put_line erase_here erase put_thread put_channel erase_object is_local channel_at
sim_put H s w =
    sim_bind (sim_operand _ _ w) λ p.
    sim_bind (sim_channel _) λ c.
    sim_bind (sim_object _) λ n.
    rw (here_erased H n) (sim_then (sim_permit _ _ _ refl refl refl) (sim_then (sim_wait _) (sim_ok refl)))

sim_sent : (H : Here) (s i : ℕ) → Sim erase (sent_line H s i) (sent_line (erase_here H) s i)
unfolding sent_line erase_here erase gives put_thread channel_at
sim_sent H s i = sim_bind (sim_channel _) λ c. sim_then (sim_wait _) (sim_ok refl)

sim_send : (H : Here) (d : Sender) (s : ℕ) (w : Operand) → Sim erase (send_line H d s w) (send_line (erase_here H) d s w)
unfolding send_line
sim_send H ready s w = sim_put H s w
sim_send H (waiting i) s w = sim_sent H s i

sim_recv : (H : Here) (s : ℕ) → Sim erase (recv_line H s) (recv_line (erase_here H) s)
unfolding recv_line erase_here erase gives put_thread put_channel channel_at
sim_recv H s = sim_bind (sim_channel _) λ c. sim_then (sim_wait _) (sim_ok refl)

-- a copy of erased objects as unsafe is the copy, erased
copies_erased : (H : Here) (k : Cap) (met ns : List ℕ) → map (copy_of (erase_here H) Unsafe met) ns ≡ map erase_object (map (copy_of H k met) ns)
unfolding copy_of erase_here erase erase_object
copies_erased H k met [] = refl
copies_erased H k met (n ∷ ns) =
    rw (here_erased H n, length-map H.state.objects erase_object) (ap (erase_object (copy_of H k met n) ∷◌) (copies_erased H k met ns))

sim_copy : (m : Mosts) (H : Here) (k : Cap) (s : ℕ) → Sim erase (copy_line m H k s) (copy_line m (erase_here H) Unsafe s)
unfolding copy_line erase_here erase gives put_thread put_objects erase_object is_foreign is_local
sim_copy m H k s =
    sim_bind (sim_object _) λ n.
    rw (met_erased H.state.objects (Obj n ∷ []), length-map H.state.objects erase_object)
    (sim_then (sim_permit _ _ _ (none_foreign H (met_from H.state.objects (Obj n ∷ []))) refl refl)
    (sim_then (sim_check _ _ refl)
    (sim_ok (rw (map-append, copies_erased H k) refl))))

returned_erased : (S : State) (t : ℕ) (fs : List Frame) (v : Value) → returned (erase S) t fs v ≡ erase (returned S t fs v)
unfolding returned erase put_thread
returned_erased S t [] v = refl
returned_erased S t (f ∷ fs) v = refl

sim_give : (H : Here) (w : Operand) → Sim erase (give_line H w) (give_line (erase_here H) w)
unfolding give_line erase_here erase
sim_give H w = sim_bind (sim_operand _ _ w) λ p. sim_ok (returned_erased H.state H.self H.callers p.0)

sim_let : (m : Mosts) (P : Program) (H : Here) (e : Expr) → Sim erase (let_line m P H e) (let_line m (strip P) (erase_here H) (strip_expr e))
unfolding let_line strip_expr erase_here
sim_let m P H (value w) = sim_value H w
sim_let m P H (field s f) = sim_field H s f
sim_let m P H (swap s f w) = sim_swap H s f w
sim_let m P H (call s i w) = sim_call P H s i w
sim_let m P H (new k n ws) = sim_new m H k n ws
sim_let m P H (cast k w) = sim_cast H k w
sim_let m P H (spawn b) = sim_spawn m H b
sim_let m P H (send s w) = sim_send H H.sender s w
sim_let m P H (recv s) = sim_recv H s
sim_let m P H (copy k s) = sim_copy m H k s

-- ---- The line of the stripped script is the line of the script, stripped

unfoldable pub strip_line : Line → Line
strip_line (bind e) = bind (strip_expr e)
strip_line (give w) = give w

line_of_stripped : (es : List Expr) (w : Operand) (l : ℕ) → line_of (map strip_expr es) w l ≡ strip_line (line_of es w l)
unfolding line_of strip_line
line_of_stripped [] w l = refl
line_of_stripped (e ∷ es) w zero = refl
line_of_stripped (e ∷ es) w (suc l) = line_of_stripped es w l

block_at_stripped : (P : Program) (b : ℕ) → block_at (strip P) b ≡ strip_block (block_at P b)
unfolding block_at strip strip_block
block_at_stripped P b = get_or-map strip_block P.blocks b no_block

pub line_at_stripped : (P : Program) (b l : ℕ) → line_at (strip P) b l ≡ strip_line (line_at P b l)
unfolding line_at strip_block
line_at_stripped P b l = rw (block_at_stripped P b) (line_of_stripped _ _ l)

-- ---- One turn

sim_perform : (m : Mosts) (P : Program) (H : Here) (x : Line) → Sim erase (perform m P H x) (perform m (strip P) (erase_here H) (strip_line x))
unfolding perform strip_line
sim_perform m P H (bind e) = sim_let m P H e
sim_perform m P H (give w) = sim_give H w

sim_frames : (m : Mosts) (P : Program) (S : State) (t : ℕ) (d : Sender) (fs : List Frame)
    → Sim erase (turn_of m P S t d fs) (turn_of m (strip P) (erase S) t d fs)
unfolding turn_of erase_here
sim_frames m P S t d [] = record { follows = refl; unguarded = tt }
sim_frames m P S t d (f ∷ fs) = rw (line_at_stripped P f.block f.line) (sim_perform m P _ (line_at P f.block f.line))

pub sim_turn : (m : Mosts) (P : Program) (S : State) (t : ℕ) → Sim erase (turn m P S t) (turn m (strip P) (erase S) t)
unfolding turn erase thread_at
sim_turn m P S t = sim_frames m P S t (thread_at S t).sender (thread_at S t).frames
