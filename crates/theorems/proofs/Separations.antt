-- Where no K is unsafe, two roots never both reach an object that is not imm: each way to move keeps the roots apart. What a put sends is iso or imm, and
-- an iso has one holder; what a receive takes, the channel held alone.
use Prim.Native.Nat.{ℕ, suc, ◌≤◌}
use native.Mathlib.Omega.{arith}
use mathlib.Core.Path.{◌≡◌, refl, sym, ap, ◌∙◌, subst}
use mathlib.Core.Bool.{false}
use mathlib.Core.List.{List, []}
use mathlib.Core.Logic.{◌⊎◌, inl, inr}
use lib.ListN.{length}
use lib.Seq.{take-length}
use Rattle.rules.specs.declared.Cap.{Cap}
use Rattle.rules.specs.declared.Cap.TheVariants.{Imm, Iso, Local, Unsafe}
use Rattle.rules.specs.declared.Value.TheVariants.{Absent}
use Rattle.rules.specs.declared.Event.{Event}
use Rattle.rules.specs.declared.Mosts.{Mosts}
use Rattle.rules.specs.Script.{rank, Program, block_at}
use Rattle.rules.specs.State.{Object, no_object, State, object_at, start}
use Rattle.rules.specs.Turn.{ok, is_imm, is_local, turn}
use Rattle.rules.specs.Run.{run_from, run}
use Rattle.rules.specs.Races.{frames_event, event}
use Rattle.rules.specs.Valid.{Valid}
use Rattle.rules.specs.Fits.{Fits}
use Rattle.rules.specs.Reach.{count, Reaches, here}
use Rattle.theorems.specs.InFlight.{state_at}
use Rattle.theorems.specs.NoUnsafe.{Tame}
use Rattle.theorems.specs.OneHolder.{other_slots, OneHolder}
use Rattle.theorems.specs.Separation.{Root, aThread, aChannel, ReachedBy, Separate}
use Rattle.rules.proofs.ListLaws.{impossible, every_at}
use Rattle.rules.proofs.Moves.{moved}
use Rattle.rules.proofs.Keeps.{here_fits, keeps_turn, keeps_run}
use Rattle.theorems.proofs.LaterStates.{Later, now, then, from_start}
use Rattle.theorems.proofs.OneHolders.{turn_one, start_one}
use Rattle.theorems.proofs.Roots.{Held, holds_reached, root_reached_range, not_imm, reaches_under, AllGrounded, never_meet}
use Rattle.theorems.proofs.RootSteps.{Less, PutTo, TookFrom, Change, only_less, one_put, one_taken, Good, Sound, Stepped, first_self, step_stepped}

sendable_rank : (c : Cap) → is_local c ≡ false → rank c ≤ 2 → rank c ≤ 1
unfolding is_local
sendable_rank Imm h few = omega arith
sendable_rank Iso h few = omega arith
sendable_rank Local h few = impossible cc
sendable_rank Unsafe h few = absurd (omega arith)

-- ---- One turn

module _ {m : Mosts} {P : Program} (S S₁ : State) (t : ℕ) (good : Good m P S) (one : OneHolder P S₁) (grounded : AllGrounded P S₁)
    (sound : Sound S.objects S₁.objects) where
  -- of what was reached, the capability is the same
  was_not_imm : (r : Root) (x : ℕ) → ReachedBy S r x → is_imm (object_at S₁.objects x).cap ≡ false → is_imm (object_at S.objects x).cap ≡ false
  was_not_imm r x reached h = subst (λ c. is_imm c ≡ false) (sound.cap x (root_reached_range good.fits r x reached)) h

  separate_less : Less S S₁ t → Separate S₁
  separate_less less = record { apart = λ r q x h a b. go r q x h (less.within r x a) (less.within q x b) }
    where
      go : (r q : Root) (x : ℕ) → is_imm (object_at S₁.objects x).cap ≡ false → ReachedBy S r x ⊎ ((r ≡ aThread t) × (length S.objects ≤ x))
          → ReachedBy S q x ⊎ ((q ≡ aThread t) × (length S.objects ≤ x)) → r ≡ q
      go r q x h (inl a) (inl b) = good.separate.apart r q x (was_not_imm r x a h) a b
      go r q x h (inl a) (inr b) = absurd (omega (arith, b.1, root_reached_range good.fits r x a))
      go r q x h (inr a) (inl b) = absurd (omega (arith, a.1, root_reached_range good.fits q x b))
      go r q x h (inr a) (inr b) = a.0 ∙ sym b.0

  module _ (n c : ℕ) (put : PutTo S S₁ t n c) where
    -- what is not imm and is reached from the message is iso, and so is the message
    iso_there : (x : ℕ) → Reaches S.objects n x → is_imm (object_at S.objects x).cap ≡ false
        → (rank (object_at S.objects n).cap ≡ 1) × (rank (object_at S.objects x).cap ≡ 1)
    unfolding object_at
    iso_there x reaches h =
        let low = reaches_under S.objects good.under n x reaches in
        let there = root_reached_range good.fits (aThread t) n (holds_reached S (aThread t) n n put.held (here refl)) in
        let few = every_at (λ (o : Object). rank o.cap ≤ 2) S.objects n no_object there good.tame in
        let most = sendable_rank (object_at S.objects n).cap put.not_local few in
        let least = not_imm (object_at S.objects x).cap h in
        (omega arith, omega arith)

    -- one root reaches x as before, the other through the message
    put_apart : (r q : Root) (x : ℕ) → is_imm (object_at S₁.objects x).cap ≡ false → ReachedBy S r x → q ≡ aChannel c → Reaches S.objects n x
        → ReachedBy S₁ r x → ReachedBy S₁ q x → ⊥
    put_apart r q x h was is reaches a b =
        let through : ReachedBy S₁ (aChannel c) x = subst (λ p. ReachedBy S₁ p x) is b in
        let iso = iso_there x reaches (was_not_imm r x was h) in
        let same : (i : ℕ) → rank (object_at S₁.objects i).cap ≡ rank (object_at S.objects i).cap = λ i. ap (λ os. rank (object_at os i).cap) put.same in
        let is-message : through.first ≡ n = put.only through.first through.held in
        let message : rank (object_at S₁.objects through.first).cap ≡ 1 = rw is-message (same n ∙ iso.0) in
        let other : aChannel c ≡ r → ⊥ = λ e. put.empty was.first (subst (λ p. Held S p was.first) (sym e) was.held) in
        never_meet P S₁ one grounded sound.under (aChannel c) r other through.first a.first through.held a.held message x (same x ∙ iso.1)
        through.reaches a.reaches

    separate_put : Separate S₁
    separate_put = record { apart = λ r q x h a b. go r q x h a b (put.within r x a) (put.within q x b) }
      where
        go : (r q : Root) (x : ℕ) → is_imm (object_at S₁.objects x).cap ≡ false → ReachedBy S₁ r x → ReachedBy S₁ q x
            → ReachedBy S r x ⊎ ((r ≡ aChannel c) × Reaches S.objects n x) → ReachedBy S q x ⊎ ((q ≡ aChannel c) × Reaches S.objects n x) → r ≡ q
        go r q x h a b (inl y) (inl z) = good.separate.apart r q x (was_not_imm r x y h) y z
        go r q x h a b (inl y) (inr z) = absurd (put_apart r q x h y z.0 z.1 a b)
        go r q x h a b (inr y) (inl z) = absurd (put_apart q r x h z y.0 y.1 b a)
        go r q x h a b (inr y) (inr z) = y.0 ∙ sym z.0

  module _ (n c : ℕ) (took : TookFrom S S₁ t n c) where
    -- only the channel reached it, and that is empty now
    took_apart : (r : Root) (x : ℕ) → is_imm (object_at S₁.objects x).cap ≡ false → ReachedBy S r x → Reaches S.objects n x → ReachedBy S₁ r x → ⊥
    took_apart r x h was reaches a =
        let is : r ≡ aChannel c = good.separate.apart r (aChannel c) x (was_not_imm r x was h) was (holds_reached S (aChannel c) n x took.held reaches) in
        took.empty a.first (subst (λ p. Held S₁ p a.first) is a.held)

    separate_took : Separate S₁
    separate_took = record { apart = λ r q x h a b. go r q x h a b (took.within r x a) (took.within q x b) }
      where
        go : (r q : Root) (x : ℕ) → is_imm (object_at S₁.objects x).cap ≡ false → ReachedBy S₁ r x → ReachedBy S₁ q x
            → ReachedBy S r x ⊎ ((r ≡ aThread t) × Reaches S.objects n x) → ReachedBy S q x ⊎ ((q ≡ aThread t) × Reaches S.objects n x) → r ≡ q
        go r q x h a b (inl y) (inl z) = good.separate.apart r q x (was_not_imm r x y h) y z
        go r q x h a b (inl y) (inr z) = absurd (took_apart r x h y z.1 a)
        go r q x h a b (inr y) (inl z) = absurd (took_apart q x h z y.1 b)
        go r q x h a b (inr y) (inr z) = y.0 ∙ sym z.0

  separate_change : (e : Event) → Change S S₁ t e → Separate S₁
  separate_change e (only_less touched less) = separate_less less
  separate_change e (one_put {n = n} c put) = separate_put n c put
  separate_change e (one_taken {n = n} c took) = separate_took n c took

module _ (m : Mosts) (P : Program) (valid : Valid m P) (tame : Tame P) where
  -- what a turn that moves does
  pub turn_stepped : (S S₁ : State) (t : ℕ) → Good m P S → turn m P S t ≡ ok S₁ → Stepped P S t (event P S t) S₁
  unfolding event frames_event
  turn_stepped S S₁ t good goes =
      let way = moved m P S S₁ t goes in
      let fit = here_fits m P good.moves S t way.frame way.callers good.fits way.frames in
      let fits₁ = keeps_turn m P good.moves S S₁ t valid good.fits goes in
      rw (way.frames, way.at_line) (step_stepped _ fit way.frames good way.line S₁ tame way.at_line way.step fits₁)

  good_turn : (S S₁ : State) (t : ℕ) → Good m P S → turn m P S t ≡ ok S₁ → Good m P S₁
  good_turn S S₁ t good goes =
      let done = turn_stepped S S₁ t good goes in
      let one = turn_one m P good.moves S S₁ t valid good.fits good.one goes in
      record {
        moves = suc good.moves;
        fits = keeps_turn m P good.moves S S₁ t valid good.fits goes;
        one = one;
        grounded = done.grounded;
        under = done.objects.under;
        tame = done.objects.tame;
        separate = separate_change S S₁ t good one done.grounded done.objects (event P S t) done.change;
      }

  -- ---- Runs

  good_later : {S S₁ : State} → Good m P S → Later m P S S₁ → Good m P S₁
  good_later good now = good
  good_later good (then {S₁ = S} {S₂ = S₁} t before goes) = good_turn S S₁ t (good_later good before) goes

  good_start : 1 ≤ m.threads → Good m P start
  unfolding start object_at other_slots count run run_from
  good_start room =
      let fits : Fits m P 0 start = keeps_run m P [] valid room in
      record {
        moves = 0;
        fits = fits;
        one = start_one P;
        grounded = (((λ n. first_self n (block_at P 0).sort Absent []), tt), tt);
        under = record { falls = λ y x field. absurd (omega arith) };
        tame = tt;
        separate = record { apart = λ r q x h a b. let there = root_reached_range fits r x a in absurd (omega arith) };
      }

  module _ (room : 1 ≤ m.threads) (ts : List ℕ) where
    -- after any number of turns of any list
    pub good_at : (k : ℕ) → Good m P (state_at m P ts k)
    good_at k = good_later (good_start room) (from_start m P ts k)

    pub separate_run : Separate (run m P ts).state
    unfolding state_at
    separate_run = subst (λ us. Separate (run m P us).state) (take-length ts) (good_at (length ts)).separate
