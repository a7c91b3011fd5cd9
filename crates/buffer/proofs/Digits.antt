-- The digits' codes rise from that of 0.
use Rattle.std.proofs.Common.{ℕ, zero, suc, ◌+◌, ◌<◌, add-zero, add-suc, suc-add, arith, ◌≡◌, sym, ◌∙◌, List, [], ◌∷◌, get_or}
use Rattle.rules.specs.Templates.{digit}

-- k numbers from a on
from : ℕ → ℕ → List ℕ
from a zero = []
from a (suc k) = a ∷ from (suc a) k

from_at : (a k d : ℕ) → d < k → a + d ≡ get_or (from a k) d 0
unfolding from
from_at a zero d there = absurd (omega (arith, there))
from_at a (suc k) zero there = add-zero a
from_at a (suc k) (suc d) there = add-suc a d ∙ sym (suc-add a d) ∙ from_at (suc a) k d (omega (arith, there))

pub digit_code : (d : ℕ) → d < 10 → 48 + d ≡ digit d
unfolding from
digit_code d there = from_at 48 10 d there
