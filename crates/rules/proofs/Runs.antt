-- A run, turn by turn: one turn more is one step more.
use Prim.Native.Nat.{ℕ, zero, suc, ◌<◌}
use native.Mathlib.Nat.{le_of_suc-le-suc, not-suc-le-zero}
use mathlib.Core.Path.{◌≡◌, refl}
use mathlib.Core.List.{List, [], ◌∷◌}
use lib.ListN.{length, take, get_or}
use Rattle.rules.specs.declared.Mosts.{Mosts}
use Rattle.rules.specs.Script.{Program}
use Rattle.rules.specs.Run.{Run, advance, run_from}

unfoldable pub step : Mosts → Program → Run → ℕ → Run
step m P r t = advance m P r.state r.moves r.stop t

-- one turn more is one step more
pub run_one_more : (m : Mosts) (P : Program) (r : Run) (ts : List ℕ) (i : ℕ) → i < length ts
    → run_from m P r (take (suc i) ts) ≡ step m P (run_from m P r (take i ts)) (get_or ts i 0)
unfolding run_from step
run_one_more m P r [] i h = absurd (not-suc-le-zero h)
run_one_more m P r (t ∷ ts) zero h = refl
run_one_more m P r (t ∷ ts) (suc i) h = run_one_more m P (step m P r t) ts i (le_of_suc-le-suc h)
