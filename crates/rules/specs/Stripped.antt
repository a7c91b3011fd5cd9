-- Stripping and erasing, and demand 3: the stripped script matches the guarded one.
use Rattle.std.specs.Prelude.{ℕ, suc, ◌≤◌, ◌<◌, ◌≡◌, true, false, List, map, ◌⊎◌, length, take}
use Rattle.rules.specs.declared.Cap.TheVariants.{Unsafe}
use Rattle.rules.specs.declared.Mosts.{Mosts}
use Rattle.rules.specs.Numbers as No
use Rattle.rules.specs.Script.{Expr, value, field, swap, call, new, cast, spawn, send, recv, copy, Block, Program}
use Rattle.rules.specs.State.{Object, State}
use Rattle.rules.specs.Run.{Run, none, stopped, run, stuck, end_of, all_finished}
use Rattle.rules.specs.Tables.{state_words}

-- "once it is read, every K in it is changed to unsafe"
unfoldable pub strip_expr : Expr → Expr
strip_expr (value w) = value w
strip_expr (field s f) = field s f
strip_expr (swap s f w) = swap s f w
strip_expr (call s i w) = call s i w
strip_expr (new k n ws) = new Unsafe n ws
strip_expr (cast k w) = cast Unsafe w
strip_expr (spawn b) = spawn b
strip_expr (send s w) = send s w
strip_expr (recv s) = recv s
strip_expr (copy k s) = copy Unsafe s

unfoldable pub strip_block : Block → Block
strip_block B = record { sort = B.sort; lets = map strip_expr B.lets; result = B.result }

unfoldable pub strip : Program → Program
strip P = record { edition = P.edition; kinds = P.kinds; blocks = map strip_block P.blocks }

-- "the guarded state with every object made unsafe"
unfoldable pub erase_object : Object → Object
erase_object o = record { cap = Unsafe; kind = o.kind; creator = o.creator; fields = o.fields }

unfoldable pub erase : State → State
erase S = record { objects = map erase_object S.objects; threads = S.threads; channels = S.channels }

module _ (m : Mosts) (P : Program) (ts : List ℕ) where
  -- both runs after i turns
  unfoldable pub guarded : ℕ → Run
  guarded i = run m P (take i ts)

  unfoldable pub stripped : ℕ → Run
  stripped i = run m (strip P) (take i ts)

  -- "stops at that turn": turn i is the first after which the run has stopped
  pub record StopsAt (r : ℕ → Run) (i number thread block line : ℕ) : Type 0 where
    pub listed : i < length ts
    pub before : (r i).stop ≡ none
    pub then_stopped : (r (suc i)).stop ≡ stopped number thread block line

  -- "has stopped .. by that turn for permission or cast"
  pub record GuardStopsBy (i : ℕ) : Type 0 where
    pub at : ℕ
    pub early : at ≤ i
    pub number : ℕ
    pub thread : ℕ
    pub block : ℕ
    pub line : ℕ
    pub stops : StopsAt guarded at number thread block line
    pub guard : No.is_guard number ≡ true

  -- Demand 3, sentence by sentence.
  pub record Matches : Type 0 where
    -- "At the start and after every turn before the guarded run stops, tables are equal, capabilities aside,"
    pub same_tables : (i : ℕ) → i ≤ length ts → (guarded i).stop ≡ none → state_words (erase (guarded i).state) ≡ state_words (stripped i).state
    -- "and so are the moves;"
    pub same_moves : (i : ℕ) → i ≤ length ts → (guarded i).stop ≡ none → (guarded i).moves ≡ (stripped i).moves
    -- "both are finished or neither is,"
    pub both_finished : (i : ℕ) → i ≤ length ts → (guarded i).stop ≡ none → all_finished (guarded i).state ≡ all_finished (stripped i).state
    -- "and if the guarded run is stuck, so is the stripped one."
    pub stuck_too : (i : ℕ) → i ≤ length ts → (guarded i).stop ≡ none → end_of m P (guarded i).state ≡ stuck → end_of m (strip P) (stripped i).state ≡ stuck
    -- (the stripped run has not stopped then either)
    pub goes_on : (i : ℕ) → i ≤ length ts → (guarded i).stop ≡ none → (stripped i).stop ≡ none
    -- "If the guarded run stops for anything but permission or cast, the stripped run stops at that turn with the same number, thread,
    -- block and line."
    pub stops_too : (i k t b l : ℕ) → StopsAt guarded i k t b l → No.is_guard k ≡ false → StopsAt stripped i k t b l
    -- "The stripped run never stops for permission or cast;"
    pub never_guard : (i k t b l : ℕ) → StopsAt stripped i k t b l → No.is_guard k ≡ false
    -- "if it stops, the guarded run has stopped at that turn with that number, or by that turn for permission or cast."
    pub has_cause : (i k t b l : ℕ) → StopsAt stripped i k t b l → StopsAt guarded i k t b l ⊎ GuardStopsBy i
