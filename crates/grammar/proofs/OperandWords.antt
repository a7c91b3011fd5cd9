-- The words of operands and capabilities tell what they stand for: an odd word takes, half of it is the slot.
use Rattle.std.proofs.lemmas.Bool.{eqb-false}
use Rattle.std.proofs.Common.{ℕ, zero, suc, ◌+◌, ◌/◌, ◌%◌, ◌≤◌, add-one, arith, ◌≡◌, refl, sym, ap, ◌∙◌, eqb, eqb-true, eq-eqb, ne_eqb}
use Rattle.rules.specs.Script.{rank}
use Rattle.rules.specs.Reading.{takes_first}
use Rattle.rules.specs.Tables.{operand_word, operand_item, operand_of, cap_of}
use Rattle.rules.proofs.ListLaws.{by_bool}

pub operand_word_lem : (w : ℕ) → operand_word (operand_of w) ≡ w
operand_word_lem w = by_bool (eqb (w % 2) 1)
    (λ t. let e = eqb-true (w % 2) 1 t in rw t (omega arith))
    (λ t. let e = eqb-false (w % 2) 1 t in rw t (omega arith))

-- as an item of a list it is one more
pub operand_item_lem : (w : ℕ) → w + 1 ≡ operand_item (operand_of w)
operand_item_lem w = add-one w ∙ ap suc (sym (operand_word_lem w))

pub operand_first : (w : ℕ) → takes_first (operand_of w) ≡ eqb w 1
unfolding takes_first
operand_first w = by_bool (eqb (w % 2) 1)
    (λ t. let e = eqb-true (w % 2) 1 t in rw t (by_bool (eqb w 1)
    (λ u. let f = eqb-true w 1 u in rw (u, eq-eqb (w / 2) 0 (omega arith)))
    (λ u. let f = eqb-false w 1 u in rw (u, ne_eqb (w / 2) 0 (λ g. f (omega arith))))))
    (λ t. let e = eqb-false (w % 2) 1 t in rw (t, ne_eqb w 1 (λ f. omega arith)))

pub cap_rank : (k : ℕ) → k ≤ 3 → rank (cap_of k) ≡ k
cap_rank zero h = refl
cap_rank (suc zero) h = refl
cap_rank (suc (suc zero)) h = refl
cap_rank (suc (suc (suc zero))) h = refl
cap_rank (suc (suc (suc (suc k)))) h = absurd (omega arith)
