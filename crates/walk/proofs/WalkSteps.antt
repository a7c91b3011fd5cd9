-- The walk of the code: value by value along a row, an object before its fields.
use Rattle.std.proofs.Common.{ℕ, suc, ◌+◌, ◌≤◌, ◌<◌, zero-le, add-one, arith, ◌≡◌, refl, sym, ap, ◌∙◌, subst, List, [], ◌∷◌, ◌++◌, append_assoc, append-nil, ltb, length, get_or, set, take, take-suc, take_all, ltb-false}
use Rattle.std.proofs.Math.ListN.{get_or-eq_default}
use Rattle.rules.specs.declared.Value.{Value}
use Rattle.rules.specs.declared.Value.TheVariants.{Absent, Obj, Chan}
use Rattle.rules.specs.Mosts as Most
use Rattle.rules.specs.Mosts.{mosts}
use Rattle.rules.specs.Script.{Program}
use Rattle.rules.specs.State.{Object, State, object_at, slot_at}
use Rattle.rules.specs.Fits.{Fits}
use Rattle.rules.specs.Reach.{count_one, Walked, done, skip, meet}
use Rattle.rules.proofs.ListLaws.{impossible, by_bool, below}
use Rattle.rules.proofs.Counts.{object_met, times_among, times_not_among}
use Rattle.rules.proofs.Keeps.{object_fits}
use Rattle.table.specs.StateTable.{Held, Sees, FieldIn}
use Rattle.table.proofs.Places.{field_in_range, field_in}
use Rattle.walk.specs.Walking.{Tally, tally, Walks, Of}
use Rattle.walk.proofs.Numbers.{Unmet, number_met, no_number_not_met, next_numbered}

-- ---- Walks one after the other

pub walk_then : {os : List Object} {met mid out : List ℕ} {vs us : List Value} → Walked os met vs mid → Walked os mid us out → Walked os met (vs ++ us) out
walk_then done u = u
walk_then (skip k w) u = skip k (walk_then w u)
walk_then {os} {us = us} (meet {n = n} {vs = vs} k w) u = meet k (rw (append_assoc (object_at os n).fields vs us) at (walk_then w u))

-- over no value, and over an absent one, nothing is met
none_walked : {os : List Object} {met out : List ℕ} {vs : List Value} → vs ≡ [] → Walked os met vs out → out ≡ met
none_walked e done = refl
none_walked e (skip k w) = impossible cc
none_walked e (meet k w) = impossible cc

absent_walked : {os : List Object} {met out : List ℕ} {vs : List Value} → vs ≡ Absent ∷ [] → Walked os met vs out → out ≡ met
absent_walked e done = impossible cc
absent_walked e (skip {vs = vs} k w) = let nothing : vs ≡ [] = cc in none_walked nothing w
absent_walked e (meet k w) = impossible cc

-- one value more of a row; past its end all values are absent
row_then : {os : List Object} {met mid out : List ℕ} (vs : List Value) (j : ℕ) (v : Value) → v ≡ slot_at vs j
    → Walked os met (take j vs) mid → Walked os mid (v ∷ []) out → Walked os met (take (suc j) vs) out
unfolding slot_at
row_then vs j v e w u =
    by_bool (ltb j (length vs)) (λ t. rw (take-suc vs j Absent (below t), ← e) (walk_then w u))
    (λ t.
    let past = ltb-false j (length vs) t in
    let absent : v ≡ Absent = e ∙ get_or-eq_default vs Absent past in
    rw (take_all (suc j) vs (omega arith), absent_walked (ap (λ x. x ∷ []) absent) u) (rw (take_all j vs past) at w))

-- ---- What is read

-- v is value j of a row of values of the state
pub record SeenAt (s : List ℕ) (Q : State → Type 0) (row : State → List Value) (j : ℕ) (v : Value) : Type 0 where
  pub is : (P : Program) (n : ℕ) (S : State) (rest : List ℕ) → Held s S rest → Fits mosts P n S → Q S → v ≡ slot_at (row S) j
  pub within : (P : Program) (n : ℕ) (S : State) (rest : List ℕ) → Held s S rest → Fits mosts P n S → Q S → Of v S

module _ {s : List ℕ} {v : Value} where
  pub field_seen : (o j : ℕ) → Sees s (FieldIn o j) (λ S. slot_at (object_at S.objects o).fields j) v → SeenAt s (Of (Obj o)) (λ S. (object_at S.objects o).fields) j v
  field_seen o j seen =
      record { is = is; within = λ P n S rest held fits there. subst (λ (x : Value). Of x S) (sym (is P n S rest held fits there)) (field_in_range fits o j there) }
    where
      is : (P : Program) (n : ℕ) (S : State) (rest : List ℕ) → Held s S rest → Fits mosts P n S → o < length S.objects → v ≡ slot_at (object_at S.objects o).fields j
      is P n S rest held fits there = seen.sees S rest held (field_in fits o j there)

-- ---- Along a row

module _ {s : List ℕ} {w : Tally} {Q : State → Type 0} (row : State → List Value) where
  pub row_begins : Walks s w Q (λ S. take 0 (row S)) w
  row_begins = record { walks = λ P n S rest met held fits q numbered. record { out = met; walked = done; numbered = numbered } }

  pub row_next : {w₁ w₂ : Tally} (j : ℕ) {v : Value} → SeenAt s Q row j v → Walks s w Q (λ S. take j (row S)) w₁
      → Walks s w₁ (Of v) (λ S. v ∷ []) w₂ → Walks s w Q (λ S. take (j + 1) (row S)) w₂
  row_next j {v} seen first next =
      record {
        walks = λ P n S rest met held fits q numbered.
            let so = first.walks P n S rest met held fits q numbered in
            let then = next.walks P n S rest so.out held fits (seen.within P n S rest held fits q) so.numbered in
            record { out = then.out; walked = rw (add-one j) (row_then (row S) j v (seen.is P n S rest held fits q) so.walked then.walked); numbered = then.numbered };
      }

  pub row_ends : {w₁ : Tally} (j : ℕ) → ((P : Program) (n : ℕ) (S : State) → Fits mosts P n S → Q S → length (row S) ≤ j)
      → Walks s w Q (λ S. take j (row S)) w₁ → Walks s w Q row w₁
  row_ends j few whole =
      record {
        walks = λ P n S rest met held fits q numbered.
            let so = whole.walks P n S rest met held fits q numbered in
            record { out = so.out; walked = rw (take_all j (row S) (few P n S fits q)) at so.walked; numbered = so.numbered };
      }

-- ---- One value

-- what is no object is none of them
no_object : (v : Value) → ((o : ℕ) → v ≡ Obj o → ⊥) → (x k : ℕ) → count_one x v ≤ k
no_object Absent other x k = zero-le
no_object (Obj o) other x k = absurd (other o refl)
no_object (Chan c) other x k = zero-le

module _ {s : List ℕ} {w : Tally} {v : Value} where
  -- nothing to meet
  pub other_stays : ((o : ℕ) → v ≡ Obj o → ⊥) → Walks s w (Of v) (λ S. v ∷ []) w
  other_stays other = record { walks = λ P n S rest met held fits q numbered. record { out = met; walked = skip (λ x. no_object v other x _) done; numbered = numbered } }

  -- an object that is met
  pub met_stays : (o : ℕ) → v ≡ Obj o → (get_or w.places o 0 ≡ 0 → ⊥) → Walks s w (Of v) (λ S. v ∷ []) w
  met_stays o e some =
      subst (λ (x : Value). Walks s w (Of x) (λ S. x ∷ []) w) (sym e)
      (record {
        walks = λ P n S rest met held fits q numbered.
            record { out = met; walked = skip (λ x. object_met x o met (times_among o met (number_met o numbered some))) done; numbered = numbered };
      })

-- an object that is not gets the next number, and its fields are walked
pub object_walked : {s places order : List ℕ} {n : ℕ} {v : Value} {w₁ : Tally} (o j : ℕ) → v ≡ Obj o → Unmet places order n o → get_or places o 0 ≡ 0 → Most.fields ≤ j
    → Walks s (tally (set places o (n + 1)) (set order n o) (n + 1)) (Of (Obj o)) (λ S. take j (object_at S.objects o).fields) w₁
    → Walks s (tally places order n) (Of v) (λ S. v ∷ []) w₁
object_walked {s} {places} {order} {n} {v} {w₁} o j e at none all whole =
    subst (λ (x : Value). Walks s (tally places order n) (Of x) (λ S. x ∷ []) w₁) (sym e)
    (record {
      walks = λ P m S rest met held fits q numbered.
          let so = fields.walks P m S rest (met ++ (o ∷ [])) held fits q (next_numbered o numbered at none) in
          let fresh = times_not_among o met (no_number_not_met o numbered none) in
          record { out = so.out; walked = meet fresh (rw (append-nil (object_at S.objects o).fields) so.walked); numbered = so.numbered };
    })
  where
    fields : Walks s (tally (set places o (n + 1)) (set order n o) (n + 1)) (Of (Obj o)) (λ S. (object_at S.objects o).fields) w₁
    fields = row_ends (λ S. (object_at S.objects o).fields) j (λ P m S fits q. omega (arith, (object_fits fits o q).few)) whole
