-- The bytes between the starts of two lines are the lines between them.
use Prim.Native.Nat.{ℕ, zero, suc, ◌+◌, ◌-◌, ◌≤◌}
use native.Mathlib.Nat.{zero-add, suc-add, add_assoc, add-sub_cancel_left, add-sub_of_le}
use native.Mathlib.Omega.{arith}
use mathlib.Core.Path.{◌≡◌, refl, sym, ap, ◌∙◌}
use mathlib.Core.List.{List, [], ◌∷◌, ◌++◌}
use lib.ListN.{length, take, drop}
use lib.Seq.{take-append-add, drop-append-add}
use Rattle.rules.specs.Text.{lines, join, start_of}
use Rattle.rules.proofs.Printing.{join_lines}

take_lines : (k : ℕ) (ls : List (List ℕ)) → take (start_of k ls) (join ls) ≡ join (take k ls)
unfolding start_of join
take_lines zero [] = refl
take_lines (suc k) [] = refl
take_lines zero (l ∷ ls) = refl
take_lines (suc k) (l ∷ ls) = take-append-add l (join ls) (start_of k ls) ∙ ap (λ (r : List ℕ). l ++ r) (take_lines k ls)

drop_lines : (n : ℕ) (ls : List (List ℕ)) → drop (start_of n ls) (join ls) ≡ join (drop n ls)
unfolding start_of join
drop_lines zero [] = refl
drop_lines (suc n) [] = refl
drop_lines zero (l ∷ ls) = refl
drop_lines (suc n) (l ∷ ls) = drop-append-add l (join ls) (start_of n ls) ∙ drop_lines n ls

start_on : (n k : ℕ) (ls : List (List ℕ)) → start_of (n + k) ls ≡ start_of n ls + start_of k (drop n ls)
unfolding start_of
start_on zero k [] = rw zero-add
start_on (suc n) k [] = refl
start_on zero k (l ∷ ls) = rw (zero-add k, zero-add (start_of k (l ∷ ls)))
start_on (suc n) k (l ∷ ls) = rw (suc-add n k, start_on n k ls) (sym (add_assoc (length l) (start_of n ls) (start_of k (drop n ls))))

between : (n k : ℕ) (ls : List (List ℕ)) → take (start_of (n + k) ls - start_of n ls) (drop (start_of n ls) (join ls)) ≡ join (take k (drop n ls))
between n k ls = rw (start_on n k ls, drop_lines n ls, add-sub_cancel_left) (take_lines k (drop n ls))

lines_between : (s : List ℕ) (from to : ℕ) → from ≤ to
    → take (start_of to (lines s) - start_of from (lines s)) (drop (start_of from (lines s)) s) ≡ join (take (to - from) (drop from (lines s)))
lines_between s from to h =
    ap (λ (n : ℕ). take (start_of n (lines s) - start_of from (lines s)) (drop (start_of from (lines s)) s)) (sym (add-sub_of_le h))
    ∙ ap (λ (t : List ℕ). take (start_of (from + (to - from)) (lines s) - start_of from (lines s)) (drop (start_of from (lines s)) t)) (sym (join_lines s))
    ∙ between from (to - from) (lines s)

-- as the starts are found
pub part_between : (s : List ℕ) (from to : ℕ) → from ≤ to → {a e : ℕ} → a ≡ start_of from (lines s) → e ≡ start_of to (lines s)
    → take (e - a) (drop a s) ≡ join (take (to - from) (drop from (lines s)))
part_between s from to h start end = rw (start, end) (lines_between s from to h)

pub starts_rise : (s : List ℕ) (from to : ℕ) → from ≤ to → start_of from (lines s) ≤ start_of to (lines s)
starts_rise s from to h = let on = start_on from (to - from) (lines s) in omega (arith, on, ap (λ (n : ℕ). start_of n (lines s)) (add-sub_of_le h))
