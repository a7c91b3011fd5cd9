-- A rule's result as the step taken: where the check waits or stops the table is as it was; where it passes the rule has moved.
use Prim.Native.Nat.{ℕ, suc, ◌/◌, ◌<◌}
use native.Mathlib.Omega.{arith}
use mathlib.Core.Path.{◌≡◌, refl}
use mathlib.Core.List.{List, [], ◌∷◌}
use lib.ListN.{length, get_or}
use Rattle.rules.specs.Mosts as Most
use Rattle.rules.specs.Mosts.{mosts}
use Rattle.rules.specs.Lists.{pad}
use Rattle.rules.specs.Script.{Operand, reads, takes, Expr, Line, bind, give, Sort, Program, block_at, line_at}
use Rattle.rules.specs.Reading.{slot_of}
use Rattle.rules.specs.Valid.{OperandOk, ExprOk}
use Rattle.rules.specs.State.{Frame, State}
use Rattle.rules.specs.Tables.{operand_of}
use Rattle.rules.specs.Turn as R
use Rattle.rules.specs.Turn.{Res, ok, wait, stop}
use Rattle.rules.specs.Fits.{FrameFits}
use Rattle.rules.proofs.ListLaws.{impossible}
use Rattle.rules.proofs.Moves.{Step, stepped}
use Rattle.rules.specs.Holders.{holders}
use Rattle.rules.specs.HolderChanges.{line_gained, line_lost}
use Rattle.rules.proofs.Keeps.{let_below, let_ok, give_ok, block_ok, step_fits}
use Rattle.rules.proofs.HolderLaws.{step_changes, holders_few}
use Rattle.rules.proofs.TableWords.{slot_of_word}
use Rattle.table.specs.declared.standing.Here.{Here}
use Rattle.table.specs.StateTable.{Held}
use Rattle.std.specs.Prelude.{Result, Ok, Err}
use Rattle.std.specs.Result.{IsErrAnd}
use Rattle.std.proofs.lemmas.Result.{err_from_is_err_and}
use Rattle.checks.specs.declared.form_checks.Halt.{Halt}
use Rattle.checks.specs.declared.form_checks.Halt.TheVariants.{Waits, Stops}
use Rattle.checks.specs.Checked.{halted, outcome_of, here_at, Stand}
use Rattle.checks.proofs.Standing.{fits_here}
use Rattle.turn.proofs.Settled.{InWords, Written, settled}
use Rattle.turn.specs.Performed.{Went, Performed, moved, waited, stopped, Performs, Always}
use Rattle.turn.specs.declared.Move.{Move}

-- ---- A result

module _ {t : ℕ} {f : Frame} {fs : List Frame} {s rest : List ℕ} where
  performed_halt : (x : Res State) (e : Halt) → halted e ≡ outcome_of x → Performed t f fs s rest (Err e) s x
  performed_halt (ok S) Waits is = impossible cc
  performed_halt (ok S) (Stops f) is = impossible cc
  performed_halt wait Waits is = waited
  performed_halt wait (Stops f) is = impossible cc
  performed_halt (stop m) Waits is = impossible cc
  performed_halt (stop m) (Stops f) is = stopped cc

  performed_pass : (x : Res State) {r : Result Move Halt} {s₁ : List ℕ} → ok tt ≡ outcome_of x → ((S : State) → x ≡ ok S → Performed t f fs s rest r s₁ (ok S))
      → Performed t f fs s rest r s₁ x
  performed_pass (ok S) is go = go S refl
  performed_pass wait is go = impossible cc
  performed_pass (stop m) is go = impossible cc

-- ---- A line, by its check

-- the check k is the answer of line x
pub record Answers (Q : Program → State → Type 0) (s : List ℕ) (h : Here) (x : Line) (k : Res (Unit {0})) : Type 0 where
  pub answers : (P : Program) (n : ℕ) (S : State) (f : Frame) (fs : List Frame) (rest : List ℕ) → Q P S → Stand s h P n S f fs rest
      → line_at P f.block f.line ≡ x → k ≡ outcome_of (R.perform mosts P (here_at S h.thread f fs) x)

-- each way to move is one that the writes make
pub record Writes (Q : Program → State → Type 0) (s : List ℕ) (h : Here) (x : Line) (r : Move) (s₁ : List ℕ) : Type 0 where
  pub writes : (P : Program) (n : ℕ) (S : State) (f : Frame) (fs : List Frame) (rest : List ℕ) → Q P S → Stand s h P n S f fs rest → n < Most.turns
      → line_at P f.block f.line ≡ x → (S₁ : State) → Step mosts P (here_at S h.thread f fs) x S₁
      → Written s₁ S (line_gained (here_at S h.thread f fs) x) (line_lost (here_at S h.thread f fs) x) S₁ rest × Went h.thread f fs S₁ r

module _ {Q : Program → State → Type 0} {s : List ℕ} {h : Here} {x : Line} where
  pub line_halts : {e : Halt} → Answers Q s h x (halted e) → Performs Q s h x (Err e) s
  line_halts {e} told = record { performs = λ P n S f fs rest q st few at_line. performed_halt _ e (told.answers P n S f fs rest q st at_line) }

  -- what a `?` hands on
  pub line_hands_on : {r : Result Move Halt} (e : Halt) → IsErrAnd r (λ i. i ≡ e) → Answers Q s h x (halted e) → Performs Q s h x r s
  line_hands_on {r} e is told = let p = err_from_is_err_and r is in rw (p.1, p.2) (line_halts told)

  pub line_moves : {m : Move} {s₁ : List ℕ} → Answers Q s h x (ok tt) → Writes Q s h x m s₁ → Performs Q s h x (Ok m) s₁
  line_moves told does =
      record {
        performs = λ P n S f fs rest q st few at_line.
            let H = here_at S h.thread f fs in
            performed_pass (R.perform mosts P H x) (told.answers P n S f fs rest q st at_line)
            λ S₁ e.
            let step = stepped mosts P H x S₁ e in
            let done = does.writes P n S f fs rest q st few at_line S₁ step in
            let fits₁ = step_fits mosts P n H (fits_here st) st.valid x S₁ at_line step in
            let small : InWords (holders S) = record { few = holders_few P n S st.fits } in
            let small₁ : InWords (holders S₁) = record { few = holders_few P (suc n) S₁ fits₁ } in
            moved (settled done.0 small small₁ (step_changes st.fits st.frames step)) done.1;
      }

-- where Q holds of each state that the table holds, it need not be asked
pub always_performs : {Q : Program → State → Type 0} {s s₁ : List ℕ} {h : Here} {x : Line} {r : Result Move Halt} → ((P : Program) (S : State) (rest : List ℕ) → Held s S rest → Q P S)
    → Performs Q s h x r s₁ → Performs Always s h x r s₁
always_performs holds does = record { performs = λ P n S f fs rest q st few at_line. does.performs P n S f fs rest (holds P S rest st.held) st few at_line }

-- ---- Four of a list, by their places

pub four_by_place : {A : Type 0} (d : A) (xs : List A) → get_or xs 0 d ∷ get_or xs 1 d ∷ get_or xs 2 d ∷ get_or xs 3 d ∷ [] ≡ pad 4 d xs
unfolding pad
four_by_place d [] = refl
four_by_place d (a ∷ []) = refl
four_by_place d (a ∷ b ∷ []) = refl
four_by_place d (a ∷ b ∷ c ∷ []) = refl
four_by_place d (a ∷ b ∷ c ∷ e ∷ xs) = refl

-- ---- What a line says of the slots that are filled

pub operand_names : (o : Sort) (n : ℕ) (w : Operand) → OperandOk o n w → slot_of w < n
operand_names o n (reads s) names = names
operand_names o n (takes s) names = names.0

module _ {s : List ℕ} {h : Here} {P : Program} {n : ℕ} {S : State} {f : Frame} {fs : List Frame} {rest : List ℕ} (st : Stand s h P n S f fs rest) where
  frame_fits : FrameFits P (length S.objects) (length S.threads) f
  frame_fits = (fits_here st).frame

  pub let_names : {e : Expr} → line_at P f.block f.line ≡ bind e → ExprOk P (block_at P f.block).sort (length f.slots) e
  let_names {e} at_line = rw frame_fits.count (let_ok mosts P st.valid f.block f.line e frame_fits.block at_line)

  pub give_names : {w : Operand} → line_at P f.block f.line ≡ give w → OperandOk (block_at P f.block).sort (length f.slots) w
  give_names {w} at_line = rw frame_fits.count (give_ok mosts P st.valid f.block f.line w frame_fits.block frame_fits.line at_line)

  -- the operand of word w names a filled slot
  pub word_names : (w : ℕ) → OperandOk (block_at P f.block).sort (length f.slots) (operand_of w) → w / 2 < length f.slots
  word_names w names = rw (slot_of_word w) at (operand_names (block_at P f.block).sort (length f.slots) (operand_of w) names)

  -- a let has room for its value
  pub let_room : {e : Expr} → line_at P f.block f.line ≡ bind e → length f.slots < Most.slots
  let_room {e} at_line =
      let more = let_below P f.block f.line e at_line in
      let few = (block_ok mosts P st.valid f.block frame_fits.block).few in
      omega (arith, more, few, frame_fits.count)

  pub line_few : f.line < Most.turns
  line_few =
      let few = (block_ok mosts P st.valid f.block frame_fits.block).few in
      omega (arith, few, frame_fits.line)
