-- The walk meets exactly what is reached: what is reached is met or lies behind a value to come, and the visits suffice.
use Prim.Native.Nat.{ℕ, zero, suc, ◌+◌, ◌≤◌, ◌<◌, zero-le}
use native.Mathlib.Omega.{arith}
use mathlib.Core.Path.{◌≡◌, refl, ap}
use mathlib.Core.Bool.{Bool, true, false}
use mathlib.Core.List.{List, [], ◌∷◌, ◌++◌, map}
use mathlib.Core.Logic.{◌⊎◌, inl, inr, ◌↔◌}
use lib.ListN.{length, length-append, get_or-map}
use Rattle.rules.specs.declared.Value.{Value}
use Rattle.rules.specs.declared.Value.TheVariants.{Absent, Obj, Chan}
use Rattle.rules.specs.Lists.{among, Every}
use Rattle.rules.specs.State.{Object, no_object, object_at}
use Rattle.rules.specs.Stripped.{erase_object}
use Rattle.rules.specs.Fits.{InRange}
use Rattle.rules.specs.Reach.{count_one, count, times, Reaches, here, more, ReachedFrom, Walked, done, skip, meet}
use Rattle.rules.specs.Walk.{walk, visit, visits, met_from}
use Rattle.rules.proofs.Counts.{sum_cases, object_self, object_equal, object_met, count_append, times_snoc, count_range, times_among, times_not_among}

module _ (os : List Object) where
  -- x is met, or among the values to come
  abbrev Ahead : List ℕ → List Value → ℕ → Type 0
  Ahead met vs x = 1 ≤ times x met + count x vs

  -- as n is met and its fields come first, only they are added
  ahead_meet : (x n : ℕ) (met : List ℕ) (vs : List Value)
      → times x (met ++ (n ∷ [])) + count x ((object_at os n).fields ++ vs) ≡ times x met + count x (Obj n ∷ vs) + count x (object_at os n).fields
  unfolding count
  ahead_meet x n met vs = omega (arith, times_snoc x met n, count_append x (object_at os n).fields vs)

  -- what is ahead is met in the end
  met_ahead : {met out : List ℕ} {vs : List Value} → Walked os met vs out → (x : ℕ) → Ahead met vs x → 1 ≤ times x out
  unfolding count
  met_ahead done x h = omega arith
  met_ahead (skip k w) x h = met_ahead w x (omega (arith, k x))
  met_ahead (meet {met = met} {n = n} {vs = vs} k w) x h = met_ahead w x (omega (arith, ahead_meet x n met vs))

  pub walked_values : {vs : List Value} {out : List ℕ} → Walked os [] vs out → (x : ℕ) → 1 ≤ count x vs → 1 ≤ times x out
  unfolding times
  walked_values w x h = met_ahead w x (omega arith)

  -- the fields of what is met are ahead, and so they are met in the end
  met_fields : {met out : List ℕ} {vs : List Value} → Walked os met vs out
      → ((y x : ℕ) → 1 ≤ times y met → 1 ≤ count x (object_at os y).fields → Ahead met vs x)
      → (y x : ℕ) → 1 ≤ times y out → 1 ≤ count x (object_at os y).fields → 1 ≤ times x out
  unfolding count
  met_fields done o y x l h = omega (arith, o y x l h)
  met_fields (skip k w) o y x l h = met_fields w (λ z u a b. omega (arith, k u, o z u a b)) y x l h
  met_fields (meet {met = met} {n = n} {vs = vs} k w) o y x l h =
      met_fields w (λ z u a b. go z u (sum_cases (times z met) (count_one z (Obj n)) (omega (arith, times_snoc z met n))) b) y x l h
    where
      go : (z u : ℕ) → (1 ≤ times z met) ⊎ (1 ≤ count_one z (Obj n)) → 1 ≤ count u (object_at os z).fields
          → Ahead (met ++ (n ∷ [])) ((object_at os n).fields ++ vs) u
      go z u (inl a) b = omega (arith, ahead_meet u n met vs, o z u a b)
      go z u (inr a) b =
          let f : 1 ≤ count u (object_at os n).fields = rw (object_equal z n a) b in
          omega (arith, ahead_meet u n met vs)

  pub walked_fields : {vs : List Value} {out : List ℕ} → Walked os [] vs out → (y x : ℕ) → 1 ≤ times y out → 1 ≤ count x (object_at os y).fields → 1 ≤ times x out
  unfolding times
  walked_fields w = met_fields w (λ z u a b. absurd (omega arith))

  -- what holds ahead, and passes on to fields, holds of all that is met
  met_only : (Q : ℕ → Type 0) → ((y x : ℕ) → Q y → 1 ≤ count x (object_at os y).fields → Q x)
      → {met out : List ℕ} {vs : List Value} → Walked os met vs out → ((x : ℕ) → Ahead met vs x → Q x) → (x : ℕ) → 1 ≤ times x out → Q x
  unfolding count
  met_only Q pass done q x l = q x (omega arith)
  met_only Q pass (skip k w) q x l = met_only Q pass w (λ y a. q y (omega arith)) x l
  met_only Q pass (meet {met = met} {n = n} {vs = vs} k w) q x l =
      met_only Q pass w (λ y a. go y (sum_cases (times y met + count y (Obj n ∷ vs)) (count y (object_at os n).fields) (omega (arith, ahead_meet y n met vs)))) x l
    where
      go : (y : ℕ) → Ahead met (Obj n ∷ vs) y ⊎ (1 ≤ count y (object_at os n).fields) → Q y
      go y (inl a) = q y a
      go y (inr a) = pass n y (q n (omega (arith, object_self n))) a

  pub walked_reached : {vs : List Value} {out : List ℕ} → Walked os [] vs out → (x : ℕ) → (1 ≤ times x out) ↔ ReachedFrom os vs x
  unfolding times
  walked_reached {vs} {out} w x =
      (met_only (ReachedFrom os vs) on w (λ y l. record { first = y; held = omega arith; reaches = here refl }) x, λ r. through r.first x r.held r.reaches)
    where
      on : (y x : ℕ) → ReachedFrom os vs y → 1 ≤ count x (object_at os y).fields → ReachedFrom os vs x
      on y x r h = record { first = r.first; held = r.held; reaches = more r.reaches h }

      through : (n x : ℕ) → 1 ≤ count n vs → Reaches os n x → 1 ≤ times x out
      through n x l (here e) = rw (← e) (walked_values w n l)
      through n x l (more {y = y} p h) = walked_fields w y x (through n y l p) h

  -- where the values are in range and the fields of what is in range are, what is met is
  pub walked_range : (o c : ℕ) → ((y : ℕ) → y < o → Every (InRange o c) (object_at os y).fields) → {vs : List Value} {out : List ℕ} → Every (InRange o c) vs → Walked os [] vs out
      → (x : ℕ) → 1 ≤ times x out → x < o
  unfolding times
  walked_range o c fields {vs} slots w =
      met_only (λ x. x < o) (λ y x there h. count_range o c x (object_at os y).fields (fields y there) h) w (λ x h. count_range o c x vs slots (omega arith))

  -- a walk meets the same objects in the same order as any other from the same numbers met over the same values
  pub walked_one : {met a b : List ℕ} {vs : List Value} → Walked os met vs a → Walked os met vs b → a ≡ b
  walked_one done done = refl
  walked_one (skip k w) (skip l v) = walked_one w v
  walked_one (skip k w) (meet {n = n} e u) = absurd (omega (arith, k n, object_self n))
  walked_one (meet {n = n} e u) (skip k w) = absurd (omega (arith, k n, object_self n))
  walked_one (meet e w) (meet f v) = walked_one w v

-- ---- the visits suffice: two for each value to come and for each field of an object not yet met

abbrev unless_met : (times fields : ℕ) → ℕ
unless_met zero l = l
unless_met (suc t) l = 0

unless_less : (t u l : ℕ) → t ≤ u → unless_met u l ≤ unless_met t l
unless_less zero zero l h = omega arith
unless_less zero (suc u) l h = omega arith
unless_less (suc t) zero l h = absurd (omega arith)
unless_less (suc t) (suc u) l h = omega arith

-- the fields of the objects not yet met, of which the first has number i
unmet : List ℕ → ℕ → List Object → ℕ
unmet met i [] = 0
unmet met i (o ∷ os) = unless_met (times i met) (length o.fields) + unmet met (suc i) os

unmet_less : (met : List ℕ) (n i : ℕ) (os : List Object) → unmet (met ++ (n ∷ [])) i os ≤ unmet met i os
unfolding unmet
unmet_less met n i [] = omega arith
unmet_less met n i (o ∷ os) =
    omega (arith, unless_less (times i met) (times i (met ++ (n ∷ []))) (length o.fields) (omega (arith, times_snoc i met n)), unmet_less met n (suc i) os)

-- meeting n spends its fields
unmet_meet : (met : List ℕ) (n i j : ℕ) (os : List Object) → times n met ≡ 0 → i + j ≡ n
    → unmet (met ++ (n ∷ [])) i os + length (object_at os j).fields ≤ unmet met i os
unfolding unmet object_at
unmet_meet met n i j [] k e = omega arith
unmet_meet met n i zero (o ∷ os) k e =
    let q : i ≡ n = omega arith in
    let m : times n (met ++ (n ∷ [])) ≡ 1 = omega (arith, times_snoc n met n, object_self n) in
    rw (q, m, k) (omega (arith, unmet_less met n (suc n) os))
unmet_meet met n i (suc j) (o ∷ os) k e =
    omega (
      arith,
      unless_less (times i met) (times i (met ++ (n ∷ []))) (length o.fields) (omega (arith, times_snoc i met n)),
      unmet_meet met n (suc i) j os k (omega arith),
    )

visits_are : (os : List Object) (i v : ℕ) → visits os v ≡ v + v + (unmet [] i os + unmet [] i os) + 1
unfolding visits unmet times
visits_are [] i v = omega arith
visits_are (o ∷ os) i v = omega (arith, visits_are os (suc i) v)

module _ (os : List Object) where
  mutual
    unfolding walk visit

    walk_walked : (k : ℕ) (met : List ℕ) (vs : List Value) → length vs + length vs + (unmet met 0 os + unmet met 0 os) < k → Walked os met vs (walk k os met vs)
    walk_walked zero met vs h = absurd (omega arith)
    walk_walked (suc k) met [] h = done
    walk_walked (suc k) met (Absent ∷ vs) h = skip (λ x. zero-le) (walk_walked k met vs (omega arith))
    walk_walked (suc k) met (Chan c ∷ vs) h = skip (λ x. zero-le) (walk_walked k met vs (omega arith))
    walk_walked (suc k) met (Obj n ∷ vs) h = visit_walked k (among n met) met n vs refl (omega arith)

    visit_walked : (k : ℕ) (b : Bool) (met : List ℕ) (n : ℕ) (vs : List Value) → among n met ≡ b → length vs + length vs + (unmet met 0 os + unmet met 0 os) + 1 < k
        → Walked os met (Obj n ∷ vs) (visit k b os met n vs)
    visit_walked zero b met n vs e h = absurd (omega arith)
    visit_walked (suc k) true met n vs e h = skip (λ x. object_met x n met (times_among n met e)) (walk_walked k met vs (omega arith))
    visit_walked (suc k) false met n vs e h =
        meet (times_not_among n met e)
        (walk_walked k (met ++ (n ∷ [])) ((object_at os n).fields ++ vs)
        (omega (arith, unmet_meet met n 0 n os (times_not_among n met e) (omega arith), length-append (object_at os n).fields vs)))

pub met_walked : (os : List Object) (vs : List Value) → Walked os [] vs (met_from os vs)
unfolding met_from
met_walked os vs = walk_walked os (visits os (length vs)) [] vs (omega (arith, visits_are os 0 (length vs)))

pub met_reached : (os : List Object) (vs : List Value) (x : ℕ) → (1 ≤ times x (met_from os vs)) ↔ ReachedFrom os vs x
met_reached os vs = walked_reached os (met_walked os vs)

-- ---- capabilities play no part

pub object_erased : (os : List Object) (n : ℕ) → object_at (map erase_object os) n ≡ erase_object (object_at os n)
unfolding object_at erase_object
object_erased os n = get_or-map erase_object os n no_object

visits_erased : (os : List Object) (v : ℕ) → visits (map erase_object os) v ≡ visits os v
unfolding visits erase_object
visits_erased [] v = refl
visits_erased (o ∷ os) v = ap (λ k. length o.fields + length o.fields + k) (visits_erased os v)

module _ (os : List Object) where
  mutual
    unfolding walk erase_object

    walk_erased : (k : ℕ) (met : List ℕ) (vs : List Value) → walk k (map erase_object os) met vs ≡ walk k os met vs
    walk_erased zero met vs = refl
    walk_erased (suc k) met [] = refl
    walk_erased (suc k) met (Absent ∷ vs) = walk_erased k met vs
    walk_erased (suc k) met (Chan c ∷ vs) = walk_erased k met vs
    walk_erased (suc k) met (Obj n ∷ vs) = visit_erased k (among n met) met n vs

    visit_erased : (k : ℕ) (b : Bool) (met : List ℕ) (n : ℕ) (vs : List Value) → visit k b (map erase_object os) met n vs ≡ visit k b os met n vs
    visit_erased zero b met n vs = refl
    visit_erased (suc k) true met n vs = walk_erased k met vs
    visit_erased (suc k) false met n vs = rw (object_erased os n) (walk_erased k (met ++ (n ∷ [])) ((object_at os n).fields ++ vs))

pub met_erased : (os : List Object) (vs : List Value) → met_from (map erase_object os) vs ≡ met_from os vs
unfolding met_from
met_erased os vs = rw (visits_erased os (length vs)) (walk_erased os _ [] vs)
