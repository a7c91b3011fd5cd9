-- What a turn notes makes the marks before it those before the next: it is its thread's last turn or first put after that, and each thread has its own words.
use Rattle.std.proofs.Common.{ℕ, zero, suc, ◌%◌, ◌≤◌, ◌<◌, arith, ◌≡◌, refl, sym, ap, ◌∙◌, Bool, false, ◌&&◌, cond, List, eqb, length, get_or, set, get_or-set_same, get_or-set_other, eqb-true, Option}
use mathlib.Core.Bool.{and_comm, and-false}
use borrow.Author.Tests.{eqb-false}
use Rattle.rules.specs.declared.Event.{Event}
use Rattle.rules.specs.declared.Event.TheVariants.{Quiet, Reads, Swaps, Puts, Receives, Copies}
use Rattle.rules.specs.Mosts.{mosts}
use Rattle.rules.specs.Lists.{among, last_below, Every}
use Rattle.rules.specs.Script.{Program}
use Rattle.rules.specs.Races.{meets, reads_of, swaps_of, puts_of, receives_of, objects_at, thread_of, event_at, reads_at, swaps_at, puts_at, receives_at}
use Rattle.rules.proofs.ListLaws.{by_bool}
use Rattle.rules.proofs.Counts.{eqb_sym}
use Rattle.races.specs.declared.marks.Found.{Found}
use Rattle.races.specs.declared.marks.Rows.{Rows}
use Rattle.races.specs.declared.marks.Marks.{Marks}
use Rattle.races.specs.Events.{ObjectBelow, met_by}
use Rattle.races.specs.Marks.{Roomy, receive_at, field_at, MarksMet, MarksFields, first_of, MarksFirst, Notes}

-- ---- The rows of marks that are the same

module _ {M N : Marks} (same : M ≡ N) where
  same_receives : M.receives ≡ N.receives
  same_receives = ap (λ (m : Marks). m.receives) same

  same_reads : M.reads.last ≡ N.reads.last
  same_reads = ap (λ (m : Marks). m.reads.last) same

  same_read_puts : M.reads.puts ≡ N.reads.puts
  same_read_puts = ap (λ (m : Marks). m.reads.puts) same

  same_swaps : M.swaps.last ≡ N.swaps.last
  same_swaps = ap (λ (m : Marks). m.swaps.last) same

  same_swap_puts : M.swaps.puts ≡ N.swaps.puts
  same_swap_puts = ap (λ (m : Marks). m.swaps.puts) same

-- ---- The word of a thread

-- one word of the fields' rows is written
get_field : (ws : List ℕ) (x g t m n f u : ℕ) → 16384 ≤ length ws → x < 256 → g < 4 → t < 16 → f < 4 → u < 16
    → get_or (set ws (field_at x g t) m) (field_at n f u) 0 ≡ cond (eqb t u && (eqb x n && eqb g f)) m (get_or ws (field_at n f u) 0)
get_field ws x g t m n f u wide x< g< t< f< u< = by_bool (eqb t u)
    (λ a. by_bool (eqb x n)
    (λ b. by_bool (eqb g f)
    (λ c. rw (a, b, c, ← eqb-true t u a, ← eqb-true x n b, ← eqb-true g f c) (get_or-set_same ws (field_at x g t) m 0 (omega arith)))
    (λ c. let other = eqb-false g f c in rw (a, b, c) (get_or-set_other ws (field_at x g t) (field_at n f u) m 0 (λ e. other (omega (arith, e))))))
    (λ b. let other = eqb-false x n b in rw (a, b) (get_or-set_other ws (field_at x g t) (field_at n f u) m 0 (λ e. other (omega (arith, e))))))
    (λ a. let other = eqb-false t u a in rw a (get_or-set_other ws (field_at x g t) (field_at n f u) m 0 (λ e. other (omega (arith, e)))))

-- the field of an event is below n
abbrev pub FieldBelow : ℕ → Event → Type 0
FieldBelow n Quiet = Unit {0}
FieldBelow n (Reads x f) = f < n
FieldBelow n (Swaps x f) = f < n
FieldBelow n (Puts x) = Unit {0}
FieldBelow n (Receives x) = Unit {0}
FieldBelow n (Copies x) = Unit {0}

pub low_part : (g : ℕ) → g < 4 → g % 4 ≡ g
low_part g g< = omega arith

-- thread t's word is written in the rows of these fields
record Writes (fields : (n f : ℕ) → Bool) (t mark : ℕ) (ws ws₁ : List ℕ) : Type 0 where
  each : (n f u : ℕ) → n < 256 → f < 4 → u < 16 → get_or ws₁ (field_at n f u) 0 ≡ cond (eqb t u && fields n f) mark (get_or ws (field_at n f u) 0)

one_written : {x g t mark : ℕ} (ws : List ℕ) {ws₁ : List ℕ} → 16384 ≤ length ws → x < 256 → g < 4 → t < 16 → ws₁ ≡ set ws (field_at x (g % 4) t) mark
    → Writes (λ n f. eqb x n && eqb g f) t mark ws ws₁
one_written {x} {g} {t} {mark} ws wide x< g< t< noted = record {
  each = λ n f u a b c. ap (λ (l : List ℕ). get_or l (field_at n f u) 0) (noted ∙ ap (λ i. set ws (field_at x i t) mark) (low_part g g<))
      ∙ get_field ws x g t mark n f u wide x< g< t< b c;
}

all_written : {objects : List ℕ} {t mark : ℕ} {ws ws₁ : List ℕ} → MarksFields objects t mark ws ws₁ → Writes (λ n f. among n objects) t mark ws ws₁
all_written {objects} {t} noted = record { each = λ n f u a b c. noted.each n f u a b c ∙ rw (and_comm (among n objects) (eqb u t), eqb_sym u t) }

module _ (P : Program) (ts : List ℕ) where
  -- ---- The marks before turn k

  unfoldable pub receive_mark : (k n u : ℕ) → ℕ
  receive_mark k n u = last_below k (λ p. eqb (thread_of mosts P ts p) u && receives_at mosts P ts p n)

  unfoldable pub read_mark : (k n f u : ℕ) → ℕ
  read_mark k n f u = last_below k (λ p. eqb (thread_of mosts P ts p) u && reads_at mosts P ts p n f)

  unfoldable pub swap_mark : (k n f u : ℕ) → ℕ
  swap_mark k n f u = last_below k (λ p. eqb (thread_of mosts P ts p) u && swaps_at mosts P ts p n f)

  -- the first put of thread u that reaches n after its last turn of which A holds
  unfoldable pub put_after : (A : ℕ → Bool) (k n u : ℕ) → ℕ
  put_after A zero n u = 0
  put_after A (suc k) n u = cond (eqb (thread_of mosts P ts k) u && A k) 0
      (cond (eqb (thread_of mosts P ts k) u && puts_at mosts P ts k n) (first_of (suc k) (put_after A k n u)) (put_after A k n u))

  pub record HasMarks (k : ℕ) (M : Marks) : Type 0 where
    pub receives : (n u : ℕ) → n < 256 → u < 16 → get_or M.receives (receive_at n u) 0 ≡ receive_mark k n u
    pub reads : (n f u : ℕ) → n < 256 → f < 4 → u < 16 → get_or M.reads.last (field_at n f u) 0 ≡ read_mark k n f u
    pub read_puts : (n f u : ℕ) → n < 256 → f < 4 → u < 16 → get_or M.reads.puts (field_at n f u) 0 ≡ put_after (λ i. reads_at mosts P ts i n f) k n u
    pub swaps : (n f u : ℕ) → n < 256 → f < 4 → u < 16 → get_or M.swaps.last (field_at n f u) 0 ≡ swap_mark k n f u
    pub swap_puts : (n f u : ℕ) → n < 256 → f < 4 → u < 16 → get_or M.swaps.puts (field_at n f u) 0 ≡ put_after (λ i. swaps_at mosts P ts i n f) k n u

  -- all words 0
  pub start_marks : (M : Marks)
      → ((i : ℕ) → get_or M.receives i 0 ≡ 0) → ((i : ℕ) → get_or M.reads.last i 0 ≡ 0) → ((i : ℕ) → get_or M.reads.puts i 0 ≡ 0)
      → ((i : ℕ) → get_or M.swaps.last i 0 ≡ 0) → ((i : ℕ) → get_or M.swaps.puts i 0 ≡ 0) → HasMarks 0 M
  unfolding receive_mark read_mark swap_mark put_after last_below
  start_marks M a b c d e = record {
    receives = λ n u _ _. a (receive_at n u);
    reads = λ n f u _ _ _. b (field_at n f u);
    read_puts = λ n f u _ _ _. c (field_at n f u);
    swaps = λ n f u _ _ _. d (field_at n f u);
    swap_puts = λ n f u _ _ _. e (field_at n f u);
  }

  -- ---- A turn by its event

  -- turn k of thread t does e, and meets these objects
  pub record TurnIs (k : ℕ) (e : Event) (objects : List ℕ) (t : ℕ) : Type 0 where
    pub event : event_at mosts P ts k ≡ e
    pub thread : thread_of mosts P ts k ≡ t
    pub thread_low : t < 16
    pub met : objects ≡ met_by (objects_at mosts P ts k) e
    pub met_low : Every (λ n. n < 256) objects
    pub object_low : ObjectBelow 256 e
    pub field_low : FieldBelow 4 e

  module _ (k : ℕ) {e : Event} (is : event_at mosts P ts k ≡ e) where
    pub reads_is : (n f : ℕ) → reads_at mosts P ts k n f ≡ reads_of (objects_at mosts P ts k) e n f
    unfolding reads_at
    reads_is n f = rw is

    pub swaps_is : (n f : ℕ) → swaps_at mosts P ts k n f ≡ swaps_of e n f
    unfolding swaps_at
    swaps_is n f = rw is

    puts_is : (n : ℕ) → puts_at mosts P ts k n ≡ puts_of (objects_at mosts P ts k) e n
    unfolding puts_at
    puts_is n = rw is

    receives_is : (n : ℕ) → receives_at mosts P ts k n ≡ receives_of (objects_at mosts P ts k) e n
    unfolding receives_at
    receives_is n = rw is

  -- ---- One turn more

  module _ {k : ℕ} {M : Marks} (has : HasMarks k M) {ws : List ℕ} where
    receives_kept : ((n : ℕ) → receives_at mosts P ts k n ≡ false) → ws ≡ M.receives
        → (n u : ℕ) → n < 256 → u < 16 → get_or ws (receive_at n u) 0 ≡ receive_mark (suc k) n u
    unfolding receive_mark last_below
    receives_kept not same n u a b =
        rw (not n, and-false (eqb (thread_of mosts P ts k) u)) (ap (λ (l : List ℕ). get_or l (receive_at n u) 0) same ∙ has.receives n u a b)

    receives_noted : {t : ℕ} {objects : List ℕ} → thread_of mosts P ts k ≡ t → ((n : ℕ) → receives_at mosts P ts k n ≡ among n objects)
        → MarksMet objects t (suc k) M.receives ws → (n u : ℕ) → n < 256 → u < 16 → get_or ws (receive_at n u) 0 ≡ receive_mark (suc k) n u
    unfolding receive_mark last_below
    receives_noted {t} {objects} mine does noted n u a b =
        noted.each n u a b ∙ rw (does n, mine, has.receives n u a b, and_comm (among n objects) (eqb u t), eqb_sym u t)

  -- turns that do A at a field: reads, or swaps
  module _ (A : (i n f : ℕ) → Bool) {k : ℕ} (ws : List ℕ) {ws₁ : List ℕ} where
    module _ (has : (n f u : ℕ) → n < 256 → f < 4 → u < 16 → get_or ws (field_at n f u) 0 ≡ last_below k (λ p. eqb (thread_of mosts P ts p) u && A p n f)) where
      last_kept : ((n f : ℕ) → A k n f ≡ false) → ws₁ ≡ ws
          → (n f u : ℕ) → n < 256 → f < 4 → u < 16 → get_or ws₁ (field_at n f u) 0 ≡ last_below (suc k) (λ p. eqb (thread_of mosts P ts p) u && A p n f)
      unfolding last_below
      last_kept not same n f u a b c =
          rw (not n f, and-false (eqb (thread_of mosts P ts k) u)) (ap (λ (l : List ℕ). get_or l (field_at n f u) 0) same ∙ has n f u a b c)

      last_noted : {fields : (n f : ℕ) → Bool} {t : ℕ} → thread_of mosts P ts k ≡ t → ((n f : ℕ) → A k n f ≡ fields n f) → Writes fields t (suc k) ws ws₁
          → (n f u : ℕ) → n < 256 → f < 4 → u < 16 → get_or ws₁ (field_at n f u) 0 ≡ last_below (suc k) (λ p. eqb (thread_of mosts P ts p) u && A p n f)
      unfolding last_below
      last_noted mine does noted n f u a b c = noted.each n f u a b c ∙ rw (does n f, mine, has n f u a b c)

    module _ (has : (n f u : ℕ) → n < 256 → f < 4 → u < 16 → get_or ws (field_at n f u) 0 ≡ put_after (λ i. A i n f) k n u) where
      first_kept : ((n f : ℕ) → A k n f ≡ false) → ((n : ℕ) → puts_at mosts P ts k n ≡ false) → ws₁ ≡ ws
          → (n f u : ℕ) → n < 256 → f < 4 → u < 16 → get_or ws₁ (field_at n f u) 0 ≡ put_after (λ i. A i n f) (suc k) n u
      unfolding put_after
      first_kept not none same n f u a b c =
          rw (not n f, none n, and-false (eqb (thread_of mosts P ts k) u)) (ap (λ (l : List ℕ). get_or l (field_at n f u) 0) same ∙ has n f u a b c)

      -- no put yet
      first_cleared : {fields : (n f : ℕ) → Bool} {t : ℕ} → thread_of mosts P ts k ≡ t → ((n f : ℕ) → A k n f ≡ fields n f)
          → ((n : ℕ) → puts_at mosts P ts k n ≡ false) → Writes fields t 0 ws ws₁
          → (n f u : ℕ) → n < 256 → f < 4 → u < 16 → get_or ws₁ (field_at n f u) 0 ≡ put_after (λ i. A i n f) (suc k) n u
      unfolding put_after
      first_cleared {t = t} mine does none noted n f u a b c =
          noted.each n f u a b c ∙ rw (does n f, none n, mine, and-false (eqb t u), has n f u a b c)

      first_noted : {t : ℕ} {objects : List ℕ} → thread_of mosts P ts k ≡ t → ((n f : ℕ) → A k n f ≡ false)
          → ((n : ℕ) → puts_at mosts P ts k n ≡ among n objects) → MarksFirst objects t (suc k) ws ws₁
          → (n f u : ℕ) → n < 256 → f < 4 → u < 16 → get_or ws₁ (field_at n f u) 0 ≡ put_after (λ i. A i n f) (suc k) n u
      unfolding put_after
      first_noted {t} {objects} mine not does noted n f u a b c =
          noted.each n f u a b c
          ∙ rw (not n f, does n, mine, and-false (eqb t u), has n f u a b c, and_comm (among n objects) (eqb u t), eqb_sym u t)

  -- what is met is what the event reaches
  pub met_is : {k : ℕ} {e : Event} {objects : List ℕ} {t : ℕ} → TurnIs k e objects t → (n : ℕ) → among n (met_by (objects_at mosts P ts k) e) ≡ among n objects
  met_is turn n = ap (among n) (sym turn.met)

  pub quiet_marks : {k : ℕ} {M : Marks} → event_at mosts P ts k ≡ Quiet → HasMarks k M → HasMarks (suc k) M
  unfolding read_mark swap_mark
  quiet_marks {k} {M} is has = record {
    receives = receives_kept has (receives_is k is) refl;
    reads = last_kept (reads_at mosts P ts) M.reads.last has.reads (reads_is k is) refl;
    read_puts = first_kept (reads_at mosts P ts) M.reads.puts has.read_puts (reads_is k is) (puts_is k is) refl;
    swaps = last_kept (swaps_at mosts P ts) M.swaps.last has.swaps (swaps_is k is) refl;
    swap_puts = first_kept (swaps_at mosts P ts) M.swaps.puts has.swap_puts (swaps_is k is) (puts_is k is) refl;
  }

  pub noted_marks : (e : Event) {k : ℕ} {M : Marks} (M₁ : Marks) {objects : List ℕ} {t : ℕ} (F : Option Found)
      → HasMarks k M → Roomy M → TurnIs k e objects t → Notes e objects t (suc k) M M₁ F → HasMarks (suc k) M₁
  unfolding meets read_mark swap_mark
  noted_marks Quiet {k} {M} M₁ F has roomy turn notes = let is = turn.event in let same = notes.0 in record {
    receives = receives_kept has (receives_is k is) (same_receives same);
    reads = last_kept (reads_at mosts P ts) M.reads.last has.reads (reads_is k is) (same_reads same);
    read_puts = first_kept (reads_at mosts P ts) M.reads.puts has.read_puts (reads_is k is) (puts_is k is) (same_read_puts same);
    swaps = last_kept (swaps_at mosts P ts) M.swaps.last has.swaps (swaps_is k is) (same_swaps same);
    swap_puts = first_kept (swaps_at mosts P ts) M.swaps.puts has.swap_puts (swaps_is k is) (puts_is k is) (same_swap_puts same);
  }
  noted_marks (Reads x g) {k} {M} M₁ F has roomy turn notes = let is = turn.event in let same = notes.0 in record {
    receives = receives_kept has (receives_is k is) (same_receives same);
    reads = last_noted (reads_at mosts P ts) M.reads.last has.reads turn.thread (reads_is k is)
        (one_written M.reads.last roomy.reads turn.object_low turn.field_low turn.thread_low (same_reads same));
    read_puts = first_cleared (reads_at mosts P ts) M.reads.puts has.read_puts turn.thread (reads_is k is) (puts_is k is)
        (one_written M.reads.puts roomy.read_puts turn.object_low turn.field_low turn.thread_low (same_read_puts same));
    swaps = last_kept (swaps_at mosts P ts) M.swaps.last has.swaps (swaps_is k is) (same_swaps same);
    swap_puts = first_kept (swaps_at mosts P ts) M.swaps.puts has.swap_puts (swaps_is k is) (puts_is k is) (same_swap_puts same);
  }
  noted_marks (Swaps x g) {k} {M} M₁ F has roomy turn notes = let is = turn.event in let same = notes.0 in record {
    receives = receives_kept has (receives_is k is) (same_receives same);
    reads = last_kept (reads_at mosts P ts) M.reads.last has.reads (reads_is k is) (same_reads same);
    read_puts = first_kept (reads_at mosts P ts) M.reads.puts has.read_puts (reads_is k is) (puts_is k is) (same_read_puts same);
    swaps = last_noted (swaps_at mosts P ts) M.swaps.last has.swaps turn.thread (swaps_is k is)
        (one_written M.swaps.last roomy.swaps turn.object_low turn.field_low turn.thread_low (same_swaps same));
    swap_puts = first_cleared (swaps_at mosts P ts) M.swaps.puts has.swap_puts turn.thread (swaps_is k is) (puts_is k is)
        (one_written M.swaps.puts roomy.swap_puts turn.object_low turn.field_low turn.thread_low (same_swap_puts same));
  }
  noted_marks (Puts x) {k} {M} M₁ F has roomy turn notes = let is = turn.event in record {
    receives = receives_kept has (receives_is k is) notes.0;
    reads = last_kept (reads_at mosts P ts) M.reads.last has.reads (reads_is k is) notes.1;
    read_puts = first_noted (reads_at mosts P ts) M.reads.puts has.read_puts turn.thread (reads_is k is) (λ n. puts_is k is n ∙ met_is turn n) notes.2;
    swaps = last_kept (swaps_at mosts P ts) M.swaps.last has.swaps (swaps_is k is) notes.3;
    swap_puts = first_noted (swaps_at mosts P ts) M.swaps.puts has.swap_puts turn.thread (swaps_is k is) (λ n. puts_is k is n ∙ met_is turn n) notes.4;
  }
  noted_marks (Receives x) {k} {M} M₁ F has roomy turn notes = let is = turn.event in record {
    receives = receives_noted has turn.thread (λ n. receives_is k is n ∙ met_is turn n) notes.0;
    reads = last_kept (reads_at mosts P ts) M.reads.last has.reads (reads_is k is) (ap (λ (r : Rows). r.last) notes.1);
    read_puts = first_kept (reads_at mosts P ts) M.reads.puts has.read_puts (reads_is k is) (puts_is k is) (ap (λ (r : Rows). r.puts) notes.1);
    swaps = last_kept (swaps_at mosts P ts) M.swaps.last has.swaps (swaps_is k is) (ap (λ (r : Rows). r.last) notes.2);
    swap_puts = first_kept (swaps_at mosts P ts) M.swaps.puts has.swap_puts (swaps_is k is) (puts_is k is) (ap (λ (r : Rows). r.puts) notes.2);
  }
  noted_marks (Copies x) {k} {M} M₁ F has roomy turn notes = let is = turn.event in record {
    receives = receives_kept has (receives_is k is) notes.0;
    reads = last_noted (reads_at mosts P ts) M.reads.last has.reads turn.thread (λ n f. reads_is k is n f ∙ met_is turn n) (all_written notes.1);
    read_puts = first_cleared (reads_at mosts P ts) M.reads.puts has.read_puts turn.thread (λ n f. reads_is k is n f ∙ met_is turn n) (puts_is k is)
        (all_written notes.2);
    swaps = last_kept (swaps_at mosts P ts) M.swaps.last has.swaps (swaps_is k is) (ap (λ (r : Rows). r.last) notes.3);
    swap_puts = first_kept (swaps_at mosts P ts) M.swaps.puts has.swap_puts (swaps_is k is) (puts_is k is) (ap (λ (r : Rows). r.puts) notes.3);
  }
