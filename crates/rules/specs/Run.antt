-- A run over a list of turns: its end, its moves and where it stopped.
use Rattle.std.specs.Prelude.{ℕ, zero, suc, ◌+◌, Bool, true, false, cond, List, [], ◌∷◌, ◌++◌, length}
use Rattle.rules.specs.declared.Mosts.{Mosts}
use Rattle.rules.specs.Lists.{all}
use Rattle.rules.specs.Script.{Program}
use Rattle.rules.specs.State.{Frame, Thread, State, thread_at, start}
use Rattle.rules.specs.Turn.{Res, ok, wait, stop, turn}

-- "for a stop, the number, thread, block and line"
pub data Stop : Type 0 where
  none : Stop
  stopped : (number thread block line : ℕ) → Stop

-- the run so far
pub record Run : Type 0 where
  pub state : State
  pub moves : ℕ
  pub stop : Stop

abbrev pub fresh : Run
fresh = record { state = start; moves = 0; stop = none }

-- the block and line of the innermost frame
unfoldable pub block_of : List Frame → ℕ
block_of [] = 0
block_of (f ∷ fs) = f.block

unfoldable pub line_now : List Frame → ℕ
line_now [] = 0
line_now (f ∷ fs) = f.line

-- "A turn that changes the state, the putting of a message included, moves and counts one move."
-- "A stop ends the whole run, and the state is the one before that turn."
unfoldable pub after : State → (moves thread : ℕ) → Res State → Run
after S n t (ok S₁) = record { state = S₁; moves = n + 1; stop = none }
after S n t wait = record { state = S; moves = n; stop = none }
after S n t (stop k) =
    record { state = S; moves = n; stop = stopped k t (block_of (thread_at S t).frames) (line_now (thread_at S t).frames) }

unfoldable pub advance : Mosts → Program → State → ℕ → Stop → ℕ → Run
advance m P S n none t = after S n t (turn m P S t)
advance m P S n (stopped k i b l) t = record { state = S; moves = n; stop = stopped k i b l }

-- "Each turn gets the state that the turn before it left."
unfoldable pub run_from : Mosts → Program → Run → List ℕ → Run
run_from m P r [] = r
run_from m P r (t ∷ ts) = run_from m P (advance m P r.state r.moves r.stop t) ts

unfoldable pub run : Mosts → Program → List ℕ → Run
run m P ts = run_from m P fresh ts

-- ---- "The end is finished (all threads finished), stuck (some unfinished, and each of these would wait), else open."

pub data End : Type 0 where
  finished stuck open_end : End

unfoldable pub is_finished : Thread → Bool
is_finished th = elim th.frames [ [] ↦ true | f ∷ fs ↦ false ]

unfoldable pub all_finished : State → Bool
all_finished S = all is_finished S.threads

unfoldable pub waits : Res State → Bool
waits (ok S) = false
waits wait = true
waits (stop k) = false

-- the first n threads
unfoldable pub up_to : ℕ → List ℕ
up_to zero = []
up_to (suc n) = up_to n ++ (n ∷ [])

-- each thread would wait; a finished one's turn idles, so that only the unfinished count
unfoldable pub all_wait : Mosts → Program → State → Bool
all_wait m P S = all (λ t. waits (turn m P S t)) (up_to (length S.threads))

unfoldable pub end_of : Mosts → Program → State → End
end_of m P S = cond (all_finished S) finished (cond (all_wait m P S) stuck open_end)

-- "The run answers its end, its moves and, for a stop, the number, thread, block and line."
pub data Answer : Type 0 where
  refused : (number line : ℕ) → Answer
  ended : End → (moves : ℕ) → Answer
  halted : (number thread block line moves : ℕ) → Answer

unfoldable pub answer_of : Mosts → Program → State → ℕ → Stop → Answer
answer_of m P S n none = ended (end_of m P S) n
answer_of m P S n (stopped k t b l) = halted k t b l n

unfoldable pub answer : Mosts → Program → Run → Answer
answer m P r = answer_of m P r.state r.moves r.stop
