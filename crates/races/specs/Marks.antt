-- What is noted of the turns before: for each thread one more than the place of a turn of its own, or 0. Each row has a word for each of 16 threads.
use Rattle.std.specs.Prelude.{ℕ, zero, suc, ◌+◌, ◌*◌, ◌%◌, ◌≤◌, ◌<◌, ◌≡◌, ◌&&◌, cond, List, [], ◌∷◌, length, map, ltb, eqb, get_or, set, Option, None, Some}
use Rattle.rules.specs.declared.Event.{Event}
use Rattle.rules.specs.declared.Event.TheVariants.{Quiet, Reads, Swaps, Puts, Receives, Copies}
use Rattle.rules.specs.Lists.{among}
use Rattle.races.specs.declared.marks.Rows.{Rows}
use Rattle.races.specs.declared.marks.Marks.{Marks}
use Rattle.races.specs.declared.marks.Found.{Found}

-- ---- The rows

-- of an object: the last receive of a thread from which it was reached. Of a field: the last read of a thread, the last swap, and after each of these the
-- first put of that thread from which the object was reached.
abbrev pub rows : (last puts : List ℕ) → Rows
rows a b = record { last = a; puts = b }

abbrev pub marks : (receives : List ℕ) (reads swaps : Rows) → Marks
marks a b c = record { receives = a; reads = b; swaps = c }

-- room for a word of each thread in the rows of each field
pub record Roomy (M : Marks) : Type 0 where
  pub reads : 16384 ≤ length M.reads.last
  pub read_puts : 16384 ≤ length M.reads.puts
  pub swaps : 16384 ≤ length M.swaps.last
  pub swap_puts : 16384 ≤ length M.swaps.puts

abbrev pub receive_at : (n u : ℕ) → ℕ
receive_at n u = n * 16 + u

abbrev pub field_at : (n f u : ℕ) → ℕ
field_at n f u = (n * 4 + f) * 16 + u

-- the words of a list as objects
abbrev pub objects_in : List ℕ → List ℕ
objects_in order = map (λ x. x % 256) order

-- ---- What is noted

-- thread t's word in the rows of these objects
pub record MarksMet (objects : List ℕ) (t mark : ℕ) (ws ws₁ : List ℕ) : Type 0 where
  pub each : (n u : ℕ) → n < 256 → u < 16 → get_or ws₁ (receive_at n u) 0 ≡ cond (among n objects && eqb u t) mark (get_or ws (receive_at n u) 0)

-- in the rows of all their fields
pub record MarksFields (objects : List ℕ) (t mark : ℕ) (ws ws₁ : List ℕ) : Type 0 where
  pub each : (n f u : ℕ) → n < 256 → f < 4 → u < 16 → get_or ws₁ (field_at n f u) 0 ≡ cond (among n objects && eqb u t) mark (get_or ws (field_at n f u) 0)

-- the same where it is 0 still: the first put
abbrev pub first_of : (mark was : ℕ) → ℕ
first_of mark was = cond (eqb was 0) mark was

pub record MarksFirst (objects : List ℕ) (t mark : ℕ) (ws ws₁ : List ℕ) : Type 0 where
  pub each : (n f u : ℕ) → n < 256 → f < 4 → u < 16
      → get_or ws₁ (field_at n f u) 0 ≡ cond (among n objects && eqb u t) (first_of mark (get_or ws (field_at n f u) 0)) (get_or ws (field_at n f u) 0)

-- ---- What is found: the last turn of another thread that was not handed over

abbrev pub most : ℕ → ℕ → ℕ
most a b = cond (ltb a b) b a

-- a turn, the first put of its thread after it, and the last receive of the other thread: it was handed over where that put was before that receive
abbrev pub unhanded : (mark put receive : ℕ) → ℕ
unhanded x p q = cond (ltb 0 p && ltb p q) 0 x

-- row a of some marks beside the same row of the puts after them, for the first k threads but t, whose last receive is q
unfoldable pub latest_in : (ws puts : List ℕ) (a q t k : ℕ) → ℕ
latest_in ws puts a q t zero = 0
latest_in ws puts a q t (suc k) = most (latest_in ws puts a q t k) (cond (eqb k t) 0 (unhanded (get_or ws (a * 16 + k) 0) (get_or puts (a * 16 + k) 0) q))

-- on field f of object n, for thread t
abbrev pub latest_on : (ws puts receives : List ℕ) (t n f : ℕ) → ℕ
latest_on ws puts receives t n f = latest_in ws puts (n * 4 + f) (get_or receives (receive_at n t) 0) t 16

-- what a mark tells, and the mark of what is found: one more than the place of the turn, or 0
abbrev pub race_on : (mark object field : ℕ) → Option Found
race_on zero n f = None
race_on (suc i) n f = Some (record { turn = i; object = n; field = f })

abbrev pub mark_of : Option Found → ℕ
mark_of None = 0
mark_of (Some F) = suc F.turn

-- the later of two
abbrev pub later : Option Found → Option Found → Option Found
later F G = cond (ltb (mark_of F) (mark_of G)) G F

-- on the first k fields of object n; on all fields of these objects
unfoldable pub over_fields : (swaps puts receives : List ℕ) (t n : ℕ) → Option Found → (k : ℕ) → Option Found
over_fields swaps puts receives t n F zero = F
over_fields swaps puts receives t n F (suc k) = later (over_fields swaps puts receives t n F k) (race_on (latest_on swaps puts receives t n k) n k)

unfoldable pub over_objects : (swaps puts receives : List ℕ) (t : ℕ) → Option Found → List ℕ → Option Found
over_objects swaps puts receives t F [] = F
over_objects swaps puts receives t F (n ∷ ns) = over_objects swaps puts receives t (over_fields swaps puts receives t n F 4) ns

-- ---- A turn of thread t that moves: what it does, the objects met, its mark; the marks before and after, and what it races with

abbrev pub Notes : Event → (objects : List ℕ) (t mark : ℕ) (M M₁ : Marks) → Option Found → Type 0
Notes Quiet objects t mark M M₁ F = (M₁ ≡ M) × (F ≡ None)
Notes (Reads n f) objects t mark M M₁ F =
    (M₁ ≡ marks M.receives (rows (set M.reads.last (field_at n (f % 4) t) mark) (set M.reads.puts (field_at n (f % 4) t) 0)) M.swaps)
    × (F ≡ race_on (latest_on M.swaps.last M.swaps.puts M.receives t n (f % 4)) n (f % 4))
Notes (Swaps n f) objects t mark M M₁ F =
    (M₁ ≡ marks M.receives M.reads (rows (set M.swaps.last (field_at n (f % 4) t) mark) (set M.swaps.puts (field_at n (f % 4) t) 0)))
    × (F ≡ race_on (most (latest_on M.swaps.last M.swaps.puts M.receives t n (f % 4)) (latest_on M.reads.last M.reads.puts M.receives t n (f % 4))) n (f % 4))
Notes (Puts n) objects t mark M M₁ F =
    (M₁.receives ≡ M.receives) × (M₁.reads.last ≡ M.reads.last) × MarksFirst objects t mark M.reads.puts M₁.reads.puts × (M₁.swaps.last ≡ M.swaps.last)
    × MarksFirst objects t mark M.swaps.puts M₁.swaps.puts × (F ≡ None)
Notes (Receives n) objects t mark M M₁ F =
    MarksMet objects t mark M.receives M₁.receives × (M₁.reads ≡ M.reads) × (M₁.swaps ≡ M.swaps) × (F ≡ None)
Notes (Copies n) objects t mark M M₁ F =
    (M₁.receives ≡ M.receives) × MarksFields objects t mark M.reads.last M₁.reads.last × MarksFields objects t 0 M.reads.puts M₁.reads.puts
    × (M₁.swaps ≡ M.swaps) × (F ≡ over_objects M.swaps.last M.swaps.puts M.receives t None objects)
