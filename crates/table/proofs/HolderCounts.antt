-- Holder counts: a word written in the place of an object's count changes that count alone; the values of a frame's slots are let go one after the other.
use Rattle.std.proofs.Common.{◌≡◌, ℕ, zero, suc, ◌+◌, ◌*◌, ◌%◌, ◌<◌, eqb, List, [], ◌∷◌, length, get_or, take, set, sym, refl, ap, ◌∙◌, subst, arith, take_all, eqb-true}
use Rattle.rules.specs.declared.Value.{Value}
use Rattle.rules.specs.declared.Value.TheVariants.{Absent, Obj, Chan}
use Rattle.rules.specs.State.{State, slot_at}
use Rattle.rules.specs.Tables.{object_words}
use Rattle.rules.proofs.ListLaws.{by_bool, every_get}
use Rattle.rules.specs.Lists.{Every}
use Rattle.rules.proofs.Counts.{object_self}
use Rattle.table.specs.StateTable.{InTable, Counted, Sees, Becomes, Any, frame_at, Innermost, left, recount, all_lowered, counted_by, Counts, Releases, Drops}
use Rattle.table.proofs.StateTable.{part_set, held_by, object_part, count_put, recounted}
use Rattle.table.proofs.StateReads.{count_word}

-- another object's count is the same
other_count : (d k j : ℕ) (N : ℕ → ℕ) → (j ≡ k → ⊥) → N j ≡ recount d (Obj k) N j
unfolding recount
other_count d k j N other = by_bool (eqb k j) (λ t. absurd (other (sym (eqb-true k j t)))) (λ t. rw t refl)

module _ {l rest : List ℕ} {N : ℕ → ℕ} {S : State} (held : Counted l N S rest) where
  object_recounted : (d k x : ℕ) → k < 256 → x ≡ (get_or l (11 + k * 8) 0 + d) % 65536 → Counted (set l (11 + k * 8) x) (recount d (Obj k) N) S rest
  unfolding recount object_words
  object_recounted d k x h e =
      let M : ℕ → ℕ = recount d (Obj k) N in
      let counted : x ≡ M k = rw (object_self k) (e ∙ ap (λ n. (n + d) % 65536) (count_word held k (11 + k * 8) h refl)) in
      held_by ((part_set (object_part held k h) 3 (11 + k * 8) x (omega arith) (omega arith)).is ∙ rw counted refl) (count_put held M k h λ j other. other_count d k j N other)

  pub value_recounted : (d : ℕ) (v : Value) → InTable v → Counted (counted_by d v l) (recount d v N) S rest
  unfolding counted_by recount
  value_recounted d Absent in_table = recounted held (recount d Absent N) λ n. refl
  value_recounted d (Obj k) in_table = object_recounted d k _ in_table refl
  value_recounted d (Chan c) in_table = recounted held (recount d (Chan c) N) λ n. refl

-- ---- On the words

-- what is written, by the value
pub nothing_counted : (d : ℕ) (v : Value) (l : List ℕ) → ((n : ℕ) → v ≡ Obj n → ⊥) → l ≡ counted_by d v l
unfolding counted_by
nothing_counted d Absent l other = refl
nothing_counted d (Obj n) l other = absurd (other n refl)
nothing_counted d (Chan c) l other = refl

pub object_counted : (d : ℕ) {v : Value} (n : ℕ) (l : List ℕ) → v ≡ Obj n → set l (11 + n * 8) ((get_or l (11 + n * 8) 0 + d) % 65536) ≡ counted_by d v l
unfolding counted_by
object_counted d n l is = rw is refl

pub counts_by : (d : ℕ) (v : Value) {l l₁ : List ℕ} → InTable v → l₁ ≡ counted_by d v l → Counts (recount d v) l l₁
counts_by d v in_table is = record { counts = λ S rest held. held_by is (value_recounted held d v in_table) }

-- ---- The slots of a frame

-- the value of slot i after those before it
lowered_next : (vs : List Value) (i : ℕ) (N : ℕ → ℕ) → i < length vs → all_lowered (take (suc i) vs) N ≡ recount 65535 (slot_at vs i) (all_lowered (take i vs) N)
unfolding all_lowered slot_at
lowered_next [] i N h = absurd (omega arith)
lowered_next (v ∷ vs) zero N h = refl
lowered_next (v ∷ vs) (suc i) N h = lowered_next vs i (recount 65535 v N) (omega arith)

-- the first i of n slots
pub record ReleasesFirst (t k n i : ℕ) (e e₁ : List ℕ) : Type 0 where
  pub releases : {N : ℕ → ℕ} (S : State) (rest : List ℕ) → Counted e N S rest → n ≡ length (frame_at S t k).slots → Every InTable (frame_at S t k).slots
      → Counted e₁ (all_lowered (take i (frame_at S t k).slots) N) S rest

pub none_released : (t k n : ℕ) (e : List ℕ) → ReleasesFirst t k n 0 e e
unfolding all_lowered
none_released t k n e = record { releases = λ S rest held count within. held }

pub one_more_released : {t k n i : ℕ} {e e₁ e₂ : List ℕ} {v : Value} → i < n → ReleasesFirst t k n i e e₁
    → Sees e₁ (λ S. InTable (slot_at (frame_at S t k).slots i)) (λ S. slot_at (frame_at S t k).slots i) v → Counts (recount 65535 v) e₁ e₂
    → ReleasesFirst t k n (suc i) e e₂
unfolding slot_at
one_more_released {t} {k} {i = i} {e₂ = e₂} less first seen next = record {
  releases = λ {N} S rest held count within.
      let vs = (frame_at S t k).slots in
      let before = first.releases S rest held count within in
      let is = seen.sees S rest before (every_get InTable vs i Absent tt within) in
      rw (lowered_next vs i N (omega arith), ← is) (next.counts S rest before);
}

pub all_released : {t k n r : ℕ} {e e₁ : List ℕ} → ReleasesFirst t k n n e e₁ → Sees e Any (λ S. length (frame_at S t k).slots) r → n ≡ r % 17 → Releases t k e e₁
all_released {t} {k} {n} {r} {e₁ = e₁} all seen count = record {
  releases = λ {N} S rest held few within.
      let vs = (frame_at S t k).slots in
      let is : n ≡ length vs = omega (arith, count, seen.sees S rest held tt, few) in
      subst (λ (us : List Value). Counted e₁ (all_lowered us N) S rest) (take_all n vs (omega arith)) (all.releases S rest held is within);
}

pub frame_dropped : {t k : ℕ} {e e₁ e₂ : List ℕ} → Releases t k e e₁ → Becomes e₁ (Innermost t k) (left t) e₂ → Drops t k e e₂
frame_dropped released cleared = record {
  drops = λ S rest held inner few within. cleared.becomes S rest (released.releases S rest held few within) inner;
}
