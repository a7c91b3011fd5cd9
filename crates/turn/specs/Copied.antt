-- A copy: what is asked of the objects met, and what is made of them by the places that the walk gave them.
use Rattle.std.specs.Prelude.{ℕ, ◌+◌, ◌%◌, ◌≤◌, ◌≡◌, true, false, List, [], ◌∷◌, ◌++◌, map, leb, length, get_or}
use Rattle.rules.specs.declared.Cap.{Cap}
use Rattle.rules.specs.declared.Value.{Value}
use Rattle.rules.specs.declared.Value.TheVariants.{Absent, Obj, Chan}
use Rattle.rules.specs.Mosts.{mosts}
use Rattle.rules.specs.Numbers as No
use Rattle.rules.specs.Lists.{any, Every}
use Rattle.rules.specs.Script.{Program, rank}
use Rattle.rules.specs.State.{Object, Frame, State, object_at}
use Rattle.rules.specs.Walk.{met_from}
use Rattle.rules.specs.Turn.{Res, ◌>>◌, check, permit, is_foreign, put_objects, copy_of}
use Rattle.rules.specs.Holders.{holders}
use Rattle.rules.specs.HolderChanges.{copies_gained}
use Rattle.rules.specs.Fits.{Fits}
use Rattle.table.specs.StateTable.{Counted, Held, made, all_raised}
use Rattle.checks.specs.Checked.{passed, Made, Fielded, here_at}

-- these objects are there, and so each has a place in the table
pub record AllMade (ms : List ℕ) (S : State) : Type 0 where
  pub few : length S.objects ≤ mosts.objects
  pub made : Every (λ i. Made i S) ms

-- ---- The copies

-- `places` has one more than the place of each object met; of the copies, the one at place i gets number b + i
abbrev pub renamed_by : (places : List ℕ) → (b : ℕ) → Value → Value
renamed_by places b Absent = Absent
renamed_by places b (Obj x) = Obj ((b + get_or places x 0 + 255) % mosts.objects)
renamed_by places b (Chan c) = Chan c

-- the copy of object o by thread t
abbrev pub copied_by : Cap → (t : ℕ) → (places : List ℕ) → (b : ℕ) → Object → Object
copied_by k t places b o = record { cap = k; kind = o.kind; creator = t; fields = map (renamed_by places b) o.fields }

-- a copy more, of object o; copies of all these objects
unfoldable pub one_copied : Cap → (t : ℕ) → (places : List ℕ) → (b o : ℕ) → State → State
one_copied k t places b o S = made (copied_by k t places b (object_at S.objects o)) S

unfoldable pub all_copied : Cap → (t : ℕ) → (places : List ℕ) → (b : ℕ) → (ms : List ℕ) → State → State
all_copied k t places b ms S = put_objects S (S.objects ++ map (λ o. copied_by k t places b (object_at S.objects o)) ms)

-- the fields of their copies, each of which gets a holder more
unfoldable pub fields_copied : (places : List ℕ) → (b : ℕ) → List Object → (ms : List ℕ) → List Value
fields_copied places b os [] = []
fields_copied places b os (o ∷ ms) = map (renamed_by places b) (object_at os o).fields ++ fields_copied places b os ms

-- n is the next object, and o can be copied; and all these can
pub record CanCopy (n o : ℕ) (S : State) : Type 0 where
  pub next : n ≡ length S.objects
  pub source : Fielded o S

pub record CanCopyAll (n : ℕ) (ms : List ℕ) (S : State) : Type 0 where
  pub next : n ≡ length S.objects
  pub sources : Every (λ o. Fielded o S) ms

-- by thread t, with the capability whose word is cap
pub record CopiesOne (t cap : ℕ) (places : List ℕ) (b n o : ℕ) (e e₁ : List ℕ) : Type 0 where
  pub copies : {N : ℕ → ℕ} (k : Cap) (S : State) (rest : List ℕ) → cap ≡ rank k → Counted e N S rest → CanCopy n o S
      → Counted e₁ (all_raised (map (renamed_by places b) (object_at S.objects o).fields) N) (one_copied k t places b o S) rest

pub record CopiesAll (t cap : ℕ) (places : List ℕ) (b : ℕ) (ms : List ℕ) (e e₁ : List ℕ) : Type 0 where
  pub copies : {N : ℕ → ℕ} (k : Cap) (S : State) (rest : List ℕ) → cap ≡ rank k → Counted e N S rest → CanCopyAll b ms S
      → Counted e₁ (all_raised (fields_copied places b S.objects ms) N) (all_copied k t places b ms S) rest

-- ---- From the object in the slot

-- the checks of a copy, past its source n
unfoldable pub copy_from : (t n : ℕ) → State → Res (Unit {0})
copy_from t n S = do
  let met = met_from S.objects (Obj n ∷ [])
  permit (any (λ i. is_foreign t (object_at S.objects i)) met) false false
  check (leb (length S.objects + length met) mosts.objects) No.used_up

-- of any state of a run in which object n is: r is what the rule's checks answer, and where they pass the rule's copies are made
pub record CopiesFrom (t cap n : ℕ) (e : List ℕ) (r : Res (Unit {0})) (e₁ : List ℕ) : Type 0 where
  pub stops : passed r ≡ false → e₁ ≡ e
  pub answers : (P : Program) (m : ℕ) (S : State) (rest : List ℕ) → Held e S rest → Fits mosts P m S → Made n S → r ≡ copy_from t n S
  pub copies : (P : Program) (m : ℕ) (S : State) (f : Frame) (fs : List Frame) (rest : List ℕ) → Held e S rest → Fits mosts P m S → Made n S → passed r ≡ true → (k : Cap) → cap ≡ rank k
      → (let met = met_from S.objects (Obj n ∷ []) in
      Counted e₁ (all_raised (copies_gained S.objects (Obj n)) (holders S)) (put_objects S (S.objects ++ map (copy_of (here_at S t f fs) k met) met)) rest)
