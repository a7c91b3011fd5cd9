-- The objects met, numbered as they are first met, and what a walk adds to them.
use Rattle.std.specs.Prelude.{ℕ, zero, suc, ◌+◌, ◌≤◌, ◌≡◌, cond, List, eqb, length, get_or, take, drop}
use Rattle.rules.specs.declared.Value.{Value}
use Rattle.rules.specs.Mosts.{mosts}
use Rattle.rules.specs.Lists.{among, place_of}
use Rattle.rules.specs.Script.{Program}
use Rattle.rules.specs.State.{Object, State}
use Rattle.rules.specs.Fits.{InRange, Fits}
use Rattle.rules.specs.Reach.{Walked}
use Rattle.table.specs.StateTable.{Held}

-- ---- The objects met, in words

-- those met, in order; how many they are; and for each object one more than its place among them, 0 where it is not met
pub record Tally : Type 0 where
  pub places : List ℕ
  pub order : List ℕ
  pub count : ℕ

abbrev pub tally : (places order : List ℕ) → (count : ℕ) → Tally
tally places order n = record { places = places; order = order; count = n }

-- the words number these objects
pub record Numbered (w : Tally) (met : List ℕ) : Type 0 where
  pub counted : w.count ≡ length met
  pub listed : take w.count w.order ≡ met
  pub placed : (x : ℕ) → get_or w.places x 0 ≡ cond (among x met) (suc (place_of x met)) 0

-- how many of the first k objects are not met
unfoldable pub unmet : ℕ → List ℕ → ℕ
unmet zero places = 0
unmet (suc k) places = cond (eqb (get_or places k 0) 0) 1 0 + unmet k places

-- ---- The walk

-- whatever the tables hold: each object met is one less to meet, and the words past the last one met stay
pub record Grows (w w₁ : Tally) : Type 0 where
  pub more : w.count ≤ w₁.count
  pub room : w₁.count + unmet 256 w₁.places ≡ w.count + unmet 256 w.places
  pub past : drop w₁.count w₁.order ≡ drop w₁.count w.order

-- over these values, ended
pub record WalkedTo (os : List Object) (met : List ℕ) (vs : List Value) (w : Tally) : Type 0 where
  pub out : List ℕ
  pub walked : Walked os met vs out
  pub numbered : Numbered w out

-- over these values of any state of a run of which Q holds
pub record Walks (s : List ℕ) (w : Tally) (Q : State → Type 0) (vs : State → List Value) (w₁ : Tally) : Type 0 where
  pub walks : (P : Program) (n : ℕ) (S : State) (rest met : List ℕ) → Held s S rest → Fits mosts P n S → Q S → Numbered w met
      → WalkedTo S.objects met (vs S) w₁

-- an object or a channel of the state
abbrev pub Of : Value → State → Type 0
Of v S = InRange (length S.objects) (length S.threads) v
