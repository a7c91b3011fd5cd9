-- Document 02, L6: what the turn of a thread at a `(copy K S)` comes to, sentence by sentence. The copied graph is the source's, its numbers renamed.
use Rattle.std.specs.Prelude.{ℕ, ◌+◌, ◌≤◌, ◌<◌, ◌≡◌, true, false, List, [], ◌∷◌, ◌++◌, map, length, get_or, set}
use Rattle.rules.specs.declared.Cap.{Cap}
use Rattle.rules.specs.declared.Value.{Value}
use Rattle.rules.specs.declared.Value.TheVariants.{Absent, Obj, Chan}
use Rattle.rules.specs.declared.Ground.TheVariants.{Foreign}
use Rattle.rules.specs.declared.Mosts.{Mosts}
use Rattle.rules.specs.Numbers as No
use Rattle.rules.specs.Script.{Program, copy, bind, line_at}
use Rattle.rules.specs.State.{Frame, ready, State, object_at, thread_at, slot_at}
use Rattle.rules.specs.Turn.{ok, stop, is_foreign, turn}
use Rattle.rules.specs.Reach.{Reaches, Walked}

-- the value with its object's number changed by f
unfoldable pub renamed_by : (ℕ → ℕ) → Value → Value
renamed_by f Absent = Absent
renamed_by f (Obj n) = Obj (f n)
renamed_by f (Chan c) = Chan c

-- thread t stands at `(copy K S)` in its innermost frame f, before its callers
pub record AtCopy (P : Program) (S : State) (t : ℕ) (f : Frame) (callers : List Frame) (k : Cap) (s : ℕ) : Type 0 where
  pub frames : (thread_at S t).frames ≡ f ∷ callers
  pub line : line_at P f.block f.line ≡ bind (copy k s)

-- S₁ is S with a copy, by thread t and of capability k, of what object n reaches
pub record Copied (S S₁ : State) (t : ℕ) (f : Frame) (callers : List Frame) (k : Cap) (n : ℕ) : Type 0 where
  -- the number of each object's copy
  pub copy_of : ℕ → ℕ
  -- "The copy duplicates every object reached from slot S through fields,": its copy is a new object,
  pub is_new : (x : ℕ) → Reaches S.objects n x → (length S.objects ≤ copy_of x) × (copy_of x < length S₁.objects)
  -- "each once.": no two have one copy, and there is no new object besides
  pub one_to_one : (x y : ℕ) → Reaches S.objects n x → Reaches S.objects n y → copy_of x ≡ copy_of y → x ≡ y
  pub no_other : (i : ℕ) → length S.objects ≤ i → i < length S₁.objects → (x : ℕ) × Reaches S.objects n x × (copy_of x ≡ i)
  -- "Sharing and cycles are kept,": a copy has the kind and the fields of its source, each object there renamed to its copy;
  pub same_kind : (x : ℕ) → Reaches S.objects n x → (object_at S₁.objects (copy_of x)).kind ≡ (object_at S.objects x).kind
  pub fields_renamed : (x : ℕ) → Reaches S.objects n x → (object_at S₁.objects (copy_of x)).fields ≡ map (renamed_by copy_of) (object_at S.objects x).fields
  -- "all copies have capability K"
  pub has_cap : (x : ℕ) → Reaches S.objects n x → (object_at S₁.objects (copy_of x)).cap ≡ k
  -- "and this thread as creator,"
  pub has_creator : (x : ℕ) → Reaches S.objects n x → (object_at S₁.objects (copy_of x)).creator ≡ t
  -- "and the next numbers as first met, depth first, fields in order.": in the order of the walk, and so the copy of n first
  pub met : List ℕ
  pub walked : Walked S.objects [] (Obj n ∷ []) met
  pub in_order : (i : ℕ) → i < length met → copy_of (get_or met i 0) ≡ length S.objects + i
  pub first : copy_of n ≡ length S.objects
  pub as_many : length S₁.objects ≡ length S.objects + length met
  -- "The slot keeps its value, even an iso.": the let gives the copy of n in the next slot; nothing else changes
  pub thread_goes_on : S₁.threads
      ≡ set S.threads t (record { frames = record { block = f.block; line = f.line + 1; slots = f.slots ++ (Obj (copy_of n) ∷ []) } ∷ callers; sender = ready })
  pub objects_kept : (x : ℕ) → x < length S.objects → object_at S₁.objects x ≡ object_at S.objects x
  pub channels_kept : S₁.channels ≡ S.channels

-- The turn of a thread at `(copy K S)`, in any state: one of the four checks stops it, or it copies.
pub record CopyTurn (m : Mosts) (P : Program) (S : State) (t : ℕ) (f : Frame) (callers : List Frame) (k : Cap) (s : ℕ) : Type 0 where
  -- "Checks: slot absent 10,"
  pub absent : slot_at f.slots s ≡ Absent → turn m P S t ≡ stop No.absent
  -- "a channel 13,"
  pub channel : (c : ℕ) → slot_at f.slots s ≡ Chan c → turn m P S t ≡ stop No.wrong_thing
  -- "any object met local to another thread 20,"
  pub foreign : (n x : ℕ) → slot_at f.slots s ≡ Obj n → Reaches S.objects n x → is_foreign t (object_at S.objects x) ≡ true
      → turn m P S t ≡ stop (No.permission Foreign)
  -- "too few objects left for all copies 16."
  pub too_few : (n : ℕ) (met : List ℕ) → slot_at f.slots s ≡ Obj n → ((x : ℕ) → Reaches S.objects n x → is_foreign t (object_at S.objects x) ≡ false)
      → Walked S.objects [] (Obj n ∷ []) met → m.objects < length S.objects + length met → turn m P S t ≡ stop No.used_up
  -- else it moves,
  pub moves : (n : ℕ) (met : List ℕ) → slot_at f.slots s ≡ Obj n → ((x : ℕ) → Reaches S.objects n x → is_foreign t (object_at S.objects x) ≡ false)
      → Walked S.objects [] (Obj n ∷ []) met → length S.objects + length met ≤ m.objects → (S₁ : State) × (turn m P S t ≡ ok S₁)
  -- and where it moves, it has copied what the object in the slot reaches
  pub copied : (S₁ : State) → turn m P S t ≡ ok S₁ → (n : ℕ) × (slot_at f.slots s ≡ Obj n) × Copied S S₁ t f callers k n
