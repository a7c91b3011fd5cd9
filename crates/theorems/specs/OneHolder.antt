-- Document 02, L7: "an iso object never has more than one holder when self slots are left out". A self slot is slot 0 of the frame of a method.
use Rattle.std.specs.Prelude.{ℕ, ◌+◌, ◌≤◌, ◌≡◌, List, [], ◌∷◌, ◌++◌}
use Rattle.rules.specs.declared.Cap.TheVariants.{Iso}
use Rattle.rules.specs.declared.Value.{Value}
use Rattle.rules.specs.Script.{Sort, thread, method, Program, block_at}
use Rattle.rules.specs.State.{Frame, Thread, State, object_at}
use Rattle.rules.specs.Reach.{count}
use Rattle.rules.specs.Holders.{total, in_fields, in_message}

-- the slots of a frame of this sort of block, its self slot left out
unfoldable pub without_self : Sort → List Value → List Value
without_self thread vs = vs
without_self method [] = []
without_self method (v ∷ vs) = vs

unfoldable pub other_slots : Program → List Frame → List Value
other_slots P [] = []
other_slots P (f ∷ fs) = without_self (block_at P f.block).sort f.slots ++ other_slots P fs

unfoldable pub in_other_slots : Program → ℕ → Thread → ℕ
in_other_slots P n t = count n (other_slots P t.frames)

-- how many places hold object n, self slots left out
unfoldable pub other_holders : Program → State → ℕ → ℕ
other_holders P S n = total (in_other_slots P n) S.threads + (total (in_fields n) S.objects + total (in_message n) S.channels)

-- "never has more than one holder"
pub record OneHolder (P : Program) (S : State) : Type 0 where
  pub at_most_one : (n : ℕ) → (object_at S.objects n).cap ≡ Iso → other_holders P S n ≤ 1
