-- Between two bounds that the match tests, every byte is allowed or none is: each of them was tried.
use Prim.Native.Nat.{ℕ, ◌+◌, ◌-◌, ◌≤◌, ◌<◌}
use native.Mathlib.Omega.{arith}
use mathlib.Core.Path.{◌≡◌, refl, sym}
use mathlib.Core.Bool.{Bool, true, not, ◌||◌}
use mathlib.Core.Logic.{◌⊎◌, ⊎_elim}
use lib.Dec.{eqb}
use borrow.Author.Tests.{ne_eqb, not-true}
use Rattle.std.proofs.Common.{rules}
use Rattle.rules.specs.Text.{lf, space, allowed}
use Rattle.rules.proofs.ListLaws.{all_below, below_true}
use Rattle.reader.proofs.scanning.is_allowed.Goals as goal

-- n bytes from lo on that pass a test
passes : (f : ℕ → Bool) (lo n b : ℕ) → all_below (λ x. f (lo + x)) n ≡ true → lo ≤ b → b < lo + n → f b ≡ true
passes f lo n b t h k =
    let place : lo + (b - lo) ≡ b = omega arith in
    rw place at (below_true (λ x. f (lo + x)) n (b - lo) t (omega arith))

-- before the brackets: LF and space alone
before_brackets : (b : ℕ) → b < 40 → (eqb b lf || eqb b space || not (allowed b)) ≡ true
unfolding all_below allowed
before_brackets b h = below_true (λ x. eqb x lf || eqb x space || not (allowed x)) 40 b refl h

lf_or_space : (b : ℕ) → (b ≡ lf) ⊎ (b ≡ space) → true ≡ allowed b
unfolding allowed
lf_or_space b one = ⊎_elim (λ e. rw e) (λ e. rw e) one

-- 0 to 9
pub returns-in-97-to-122-3 : goal.returns-in-97-to-122-3
unfolding all_below allowed
returns-in-97-to-122-3 c = sym (passes allowed 48 10 c.args.b refl (omega arith) (omega arith))

-- a to z
pub returns-in-97-to-122-4 : goal.returns-in-97-to-122-4
unfolding all_below allowed
returns-in-97-to-122-4 c = sym (passes allowed 97 26 c.args.b refl (omega arith) (omega arith))

pub returns-in_default : goal.returns-in_default
returns-in_default c =
    sym (not-true _ (rw (ne_eqb c.args.b lf (λ e. grind arith), ne_eqb c.args.b space (λ e. grind arith)) at (before_brackets c.args.b (omega arith))))

-- between the brackets and 0
pub returns-in_default-2 : goal.returns-in_default-2
unfolding all_below allowed
returns-in_default-2 c = sym (not-true _ (passes (λ x. not (allowed x)) 42 6 c.args.b refl (omega arith) (omega arith)))

-- between 9 and a
pub returns-in_default-3 : goal.returns-in_default-3
unfolding all_below allowed
returns-in_default-3 c = sym (not-true _ (passes (λ x. not (allowed x)) 58 39 c.args.b refl (omega arith) (omega arith)))

-- after z
pub returns-in_default-4 : goal.returns-in_default-4
unfolding all_below allowed
returns-in_default-4 c = sym (not-true _ (passes (λ x. not (allowed x)) 123 133 c.args.b refl (omega arith) (omega arith)))

-- LF and space
pub returns-in-97-to-122 : goal.returns-in-97-to-122
returns-in-97-to-122 c = search (rules, lf_or_space)

-- the brackets
pub returns-in-97-to-122-2 : goal.returns-in-97-to-122-2
unfolding all_below allowed
returns-in-97-to-122-2 c = sym (passes allowed 40 2 c.args.b refl (omega arith) (omega arith))
