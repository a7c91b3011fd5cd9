-- A turn of one thread leaves every other thread as it is: each way to move puts the thread itself, and a spawn adds one at the end.
use Prim.Native.Nat.{ℕ, zero, suc}
use mathlib.Core.Path.{◌≡◌, refl}
use mathlib.Core.List.{List, [], ◌∷◌, ◌++◌}
use lib.ListN.{get_or}
use lib.Seq.{get_or-set_other}
use Rattle.rules.specs.declared.Mosts.{Mosts}
use Rattle.rules.specs.Script.{Program, Line}
use Rattle.rules.specs.State.{Frame, Sender, ready, Thread, no_thread, State, thread_at}
use Rattle.rules.specs.Turn.{ok, Here, put_thread, put_objects, put_channel, gives, started, turn}
use Rattle.rules.proofs.ListLaws.{impossible}
use Rattle.rules.proofs.Moves.{Step, by_value, by_field, by_swap, by_call, by_new, by_cast, by_spawn, by_put, by_sent, by_recv, by_copy, by_return, by_finish, moved}

-- the thread is as it was; or there was none, and the new one is ready
pub data Other (old new : Thread) : Type 0 where
  kept : new ≡ old → Other old new
  begun : old ≡ no_thread → new.sender ≡ ready → Other old new

-- a thread more at the end
one_more : (ts : List Thread) (u : ℕ) (x : Thread) → x.sender ≡ ready → Other (get_or ts u no_thread) (get_or (ts ++ (x ∷ [])) u no_thread)
one_more [] zero x is-ready = begun refl is-ready
one_more [] (suc u) x is-ready = kept refl
one_more (y ∷ ts) zero x is-ready = kept refl
one_more (y ∷ ts) (suc u) x is-ready = one_more ts u x is-ready

started_other : (S : State) (b u : ℕ) → Other (thread_at S u) (thread_at (started S b) u)
unfolding thread_at started
started_other S b u = one_more S.threads u _ refl

put_other : {old : Thread} (S : State) (t u : ℕ) (gs : List Frame) (d : Sender) → (u ≡ t → ⊥) → Other old (thread_at S u) → Other old (thread_at (put_thread S t gs d) u)
unfolding thread_at put_thread
put_other S t u gs d other was = rw (get_or-set_other S.threads t u (record { frames = gs; sender = d }) no_thread other) was

module _ (u : ℕ) (m : Mosts) (P : Program) where
  step_other : {H : Here} {x : Line} {S : State} → Step m P H x S → (u ≡ H.self → ⊥) → Other (thread_at H.state u) (thread_at S u)
  unfolding gives thread_at put_objects put_channel
  step_other (by_value w v vs gave) other = put_other _ _ u _ _ other (kept refl)
  step_other (by_field s g n read) other = put_other _ _ u _ _ other (kept refl)
  step_other (by_swap s g w n v vs swapped) other = put_other _ _ u _ _ other (kept refl)
  step_other (by_call s i w n v vs called) other = put_other _ _ u _ _ other (kept refl)
  step_other (by_new k i ws ns vs made) other = put_other _ _ u _ _ other (kept refl)
  step_other (by_cast k w n vs cast) other = put_other _ _ u _ _ other (kept refl)
  step_other {H = H} (by_spawn b room) other = put_other _ _ u _ _ other (started_other H.state b u)
  step_other (by_put s w c n vs put) other = put_other _ _ u _ _ other (kept refl)
  step_other (by_sent s w i c taken) other = put_other _ _ u _ _ other (kept refl)
  step_other (by_recv s c received) other = put_other _ _ u _ _ other (kept refl)
  step_other (by_copy k s n copied) other = put_other _ _ u _ _ other (kept refl)
  step_other (by_return w v vs g gs gave callers) other = put_other _ _ u _ _ other (kept refl)
  step_other (by_finish w v vs gave callers) other = put_other _ _ u _ _ other (kept refl)

  pub turn_other : (S S₁ : State) (t : ℕ) → turn m P S t ≡ ok S₁ → (u ≡ t → ⊥) → Other (thread_at S u) (thread_at S₁ u)
  turn_other S S₁ t goes other = step_other (moved m P S S₁ t goes).step other

-- so one that has frames has them still
frames_kept : {old new : Thread} {f : Frame} {fs : List Frame} → Other old new → old.frames ≡ f ∷ fs → new.frames ≡ f ∷ fs
frames_kept (kept same) frames = rw same frames
frames_kept (begun none is-ready) frames = impossible cc

pub turn_keeps : (u : ℕ) {f : Frame} {fs : List Frame} (m : Mosts) (P : Program) (S S₁ : State) (t : ℕ) → turn m P S t ≡ ok S₁ → (u ≡ t → ⊥)
    → (thread_at S u).frames ≡ f ∷ fs → (thread_at S₁ u).frames ≡ f ∷ fs
turn_keeps u m P S S₁ t goes other frames = frames_kept (turn_other u m P S S₁ t goes other) frames
