-- The table says what the order does: one test for each pair of capabilities.
use Rattle.std.proofs.Common.{refl}
use Rattle.std.specs.Prelude.{◌≡◌, Bool, true, false, List, [], ◌∷◌, get_or}
use Rattle.rules.specs.declared.Cap.{Cap}
use Rattle.rules.specs.declared.Cap.TheVariants.{Imm, Iso, Local, Unsafe}
use Rattle.rules.specs.Script.{rank}
use Rattle.rules.specs.Turn.{may_hold}
use Rattle.rules.proofs.may_hold.Goals as goal

each_cap : (Q : Cap → Type 0) → Q Imm → Q Iso → Q Local → Q Unsafe → (k : Cap) → Q k
each_cap Q a b c d Imm = a
each_cap Q a b c d Iso = b
each_cap Q a b c d Local = c
each_cap Q a b c d Unsafe = d

abbrev rows : List (List Bool)
rows =
    (true ∷ false ∷ false ∷ false ∷ [])
    ∷ (true ∷ true ∷ false ∷ false ∷ [])
    ∷ (true ∷ true ∷ true ∷ false ∷ [])
    ∷ (true ∷ true ∷ true ∷ true ∷ [])
    ∷ []

abbrev Right : Cap → Cap → Type 0
Right k c = get_or (get_or rows (rank k) []) (rank c) false ≡ may_hold k c

rows_right : (k c : Cap) → Right k c
unfolding may_hold
rows_right =
    each_cap (λ k. (c : Cap) → Right k c)
    (each_cap (Right Imm) refl refl refl refl)
    (each_cap (Right Iso) refl refl refl refl)
    (each_cap (Right Local) refl refl refl refl)
    (each_cap (Right Unsafe) refl refl refl refl)

pub returns : goal.returns
returns c = rw (c.rank-row.ensures.value, c.rank-column.ensures.value) (rows_right _ _)
