-- The words of a line's row tell the line: the first is the number of its form, the others are its parts, each of which reads back.
use Prim.Native.Nat.{ℕ, ◌+◌, ◌%◌, ◌<◌}
use native.Mathlib.Omega.{arith}
use mathlib.Core.Path.{◌≡◌, refl, sym, ap, ap₂, ◌∙◌, subst}
use mathlib.Core.Bool.{not}
use mathlib.Core.List.{List, [], ◌∷◌, map}
use lib.Dec.{T}
use lib.ListN.{get_or}
use mir.Val.{has_key}
use types.Run.{OneOf, miss}
use Rattle.rules.specs.declared.Cap.{Cap}
use Rattle.rules.specs.declared.forms.Form.{Form as Name}
use Rattle.rules.specs.declared.forms.Form.TheVariants as N
use Rattle.rules.specs.Lists.{pad}
use Rattle.rules.specs.Script.{Operand, reads, value, field, swap, call, new, cast, spawn, send, recv, copy, Line, bind, give, line, rank, Program, line_at}
use Rattle.rules.specs.State.{Frame, State}
use Rattle.rules.specs.Forms.{form_of}
use Rattle.rules.specs.Tables.{operand_word, operand_item, operand_of, cap_of, line_words, row}
use Rattle.rules.proofs.ListLaws.{get_pad, all_below, below_true}
use Rattle.rules.proofs.FormNumbers.{place}
use Rattle.rules.proofs.TableWords.{cap_of_rank, operand_of_word}
use Rattle.table.specs.declared.standing.Here.{Here}
use Rattle.table.specs.StateTable.{OnLine}
use Rattle.checks.specs.Checked.{Stand}
use Rattle.checks.proofs.Standing.{slot_place}
use Rattle.turn.specs.Performed.{Always, Loaded, Performs, PerformsNew, PerformsHere}
use Rattle.turn.proofs.TurnSteps.{four_by_place, let_names}
use Rattle.std.specs.Prelude.{Result}
use Rattle.checks.specs.declared.form_checks.Halt.{Halt}
use Rattle.turn.specs.declared.Move.{Move}

-- ---- The parts read back

operand_read : {u : Operand} {n : ℕ} → n ≡ operand_word u → u ≡ operand_of n
operand_read {u} e = sym (operand_of_word u) ∙ ap operand_of (sym e)

cap_read : {c : Cap} {n : ℕ} → n ≡ rank c → c ≡ cap_of n
cap_read {c} e = sym (cap_of_rank c) ∙ ap cap_of (sym e)

-- ---- What the words of a line say of it

-- the lines in the order of their forms' numbers, 4 to 14; w k is word k, ws are the operands of a new
abbrev line_by_place : (w : ℕ → ℕ) → List Operand → ℕ → Line
line_by_place w ws n =
    get_or
    (give (operand_of (w 1)) ∷ bind (value (operand_of (w 1))) ∷ bind (field (w 1) (w 2)) ∷ bind (swap (w 1) (w 2) (operand_of (w 3))) ∷ bind (call (w 1) (w 2) (operand_of (w 3)))
    ∷ bind (new (cap_of (w 1)) (w 2) ws) ∷ bind (cast (cap_of (w 1)) (operand_of (w 2))) ∷ bind (spawn (w 1)) ∷ bind (send (w 1) (operand_of (w 2))) ∷ bind (recv (w 1)) ∷ bind (copy (cap_of (w 1)) (w 2)) ∷ [])
    n
    (give (reads 0))

-- the first of the words w is the number of line x's form, and the others are its parts
record Says (w : ℕ → ℕ) (x : Line) : Type 0 where
  operands : List Operand
  place : ℕ
  few : place < 11
  form : w 0 ≡ 4 + place
  items : w 0 ≡ 9 → w 3 ∷ w 4 ∷ w 5 ∷ w 6 ∷ [] ≡ pad 4 0 (map operand_item operands)
  is : x ≡ line_by_place w operands place

record WordsOf (w : ℕ → ℕ) (x : Line) : Type 0 where
  word : (k : ℕ) → k < 8 → w k ≡ get_or (row (line x)) k 0

module _ {w : ℕ → ℕ} where
  -- a line that is no new
  plain : {x : Line} (n : ℕ) → n < 11 → (n ≡ 5 → ⊥) → w 0 ≡ 4 + n → x ≡ line_by_place w [] n → Says w x
  plain n few other form is = record { operands = []; place = n; few = few; form = form; items = λ is_new. absurd (other (omega arith)); is = is }

  new_items : (c : Cap) (kind : ℕ) (ws : List Operand) → WordsOf w (bind (new c kind ws)) → w 3 ∷ w 4 ∷ w 5 ∷ w 6 ∷ [] ≡ pad 4 0 (map operand_item ws)
  unfolding row line_words
  new_items c kind ws words =
      let xs = map operand_item ws in
      let at : (k : ℕ) → k < 8 → w k ≡ get_or (9 ∷ rank c ∷ kind ∷ xs) k 0 = λ k there. words.word k there ∙ get_pad 8 0 (9 ∷ rank c ∷ kind ∷ xs) k there in
      rw (at 3 (omega arith), at 4 (omega arith), at 5 (omega arith), at 6 (omega arith)) (four_by_place 0 xs)

  says : (x : Line) → WordsOf w x → Says w x
  unfolding row line_words pad
  says (give u) words = plain 0 (omega arith) (λ e. omega arith) (words.word 0 (omega arith)) (ap give (operand_read (words.word 1 (omega arith))))
  says (bind (value u)) words = plain 1 (omega arith) (λ e. omega arith) (words.word 0 (omega arith)) (ap (λ v. bind (value v)) (operand_read (words.word 1 (omega arith))))
  says (bind (field s f)) words =
      plain 2 (omega arith) (λ e. omega arith) (words.word 0 (omega arith)) (ap₂ (λ a b. bind (field a b)) (sym (words.word 1 (omega arith))) (sym (words.word 2 (omega arith))))
  says (bind (swap s f u)) words =
      plain 3 (omega arith) (λ e. omega arith) (words.word 0 (omega arith))
      (rw (words.word 1 (omega arith), words.word 2 (omega arith)) (ap (λ v. bind (swap s f v)) (operand_read (words.word 3 (omega arith)))))
  says (bind (call s f u)) words =
      plain 4 (omega arith) (λ e. omega arith) (words.word 0 (omega arith))
      (rw (words.word 1 (omega arith), words.word 2 (omega arith)) (ap (λ v. bind (call s f v)) (operand_read (words.word 3 (omega arith)))))
  says (bind (new c kind ws)) words =
      record {
        operands = ws;
        place = 5;
        few = omega arith;
        form = words.word 0 (omega arith);
        items = λ is_new. new_items c kind ws words;
        is = ap₂ (λ a b. bind (new a b ws)) (cap_read (words.word 1 (omega arith))) (sym (words.word 2 (omega arith)));
      }
  says (bind (cast c u)) words =
      plain 6 (omega arith) (λ e. omega arith) (words.word 0 (omega arith)) (ap₂ (λ a b. bind (cast a b)) (cap_read (words.word 1 (omega arith))) (operand_read (words.word 2 (omega arith))))
  says (bind (spawn b)) words = plain 7 (omega arith) (λ e. omega arith) (words.word 0 (omega arith)) (ap (λ a. bind (spawn a)) (sym (words.word 1 (omega arith))))
  says (bind (send s u)) words =
      plain 8 (omega arith) (λ e. omega arith) (words.word 0 (omega arith)) (ap₂ (λ a b. bind (send a b)) (sym (words.word 1 (omega arith))) (operand_read (words.word 2 (omega arith))))
  says (bind (recv s)) words = plain 9 (omega arith) (λ e. omega arith) (words.word 0 (omega arith)) (ap (λ a. bind (recv a)) (sym (words.word 1 (omega arith))))
  says (bind (copy c s)) words =
      plain 10 (omega arith) (λ e. omega arith) (words.word 0 (omega arith)) (ap₂ (λ a b. bind (copy a b)) (cap_read (words.word 1 (omega arith))) (sym (words.word 2 (omega arith))))

-- ---- The line where a thread stands

-- word k of the row at the thread's place
abbrev pub word_at : List ℕ → Here → ℕ → ℕ
word_at p h k = get_or p (h.row + k) 0

here_says : {p : List ℕ} {P : Program} {b l : ℕ} {h : Here} → OnLine p P b l h → Says (word_at p h) (line_at P b l)
here_says on = says _ (record { word = on.words })

-- its line, by the number of its form
line_by_place_lem : {w : ℕ → ℕ} {x : Line} (said : Says w x) (n : ℕ) → w 0 ≡ 4 + n → x ≡ line_by_place w said.operands n
line_by_place_lem {w} said n number =
    let same : said.place ≡ n = omega (arith, said.form, number) in
    said.is ∙ ap (line_by_place w said.operands) same

-- wherever the thread stands at its line's words, that line is x
pub record Tells (p s : List ℕ) (h : Here) (x : Line) : Type 0 where
  pub at_line : (P : Program) (n : ℕ) (S : State) (f : Frame) (fs : List Frame) (rest : List ℕ) → Stand s h P n S f fs rest → OnLine p P f.block f.line h
      → line_at P f.block f.line ≡ x

module _ {p : List ℕ} {h : Here} {form : ℕ} (first : form ≡ word_at p h 0) where
  line_is : (n : ℕ) → form ≡ 4 + n → {P : Program} {i l : ℕ} (on : OnLine p P i l h) → line_at P i l ≡ line_by_place (word_at p h) (here_says on).operands n
  line_is n number on = line_by_place_lem (here_says on) n (sym first ∙ number)

  module _ {s : List ℕ} {a : ℕ} (second : a ≡ word_at p h 1) where
    pub tells_give : form ≡ 4 → Tells p s h (give (operand_of a))
    tells_give number = record { at_line = λ P n S f fs rest st on. rw second (line_is 0 number on) }

    pub tells_value : form ≡ 5 → Tells p s h (bind (value (operand_of a)))
    tells_value number = record { at_line = λ P n S f fs rest st on. rw second (line_is 1 number on) }

    pub tells_spawn : form ≡ 11 → Tells p s h (bind (spawn a))
    tells_spawn number = record { at_line = λ P n S f fs rest st on. rw second (line_is 7 number on) }

    pub tells_recv : form ≡ 13 → Tells p s h (bind (recv a))
    tells_recv number = record { at_line = λ P n S f fs rest st on. rw second (line_is 9 number on) }

    module _ {b : ℕ} (third : b ≡ word_at p h 2) where
      pub tells_field : form ≡ 6 → Tells p s h (bind (field a b))
      tells_field number = record { at_line = λ P n S f fs rest st on. rw (second, third) (line_is 2 number on) }

      pub tells_cast : {k : Cap} → k ≡ cap_of a → form ≡ 10 → Tells p s h (bind (cast k (operand_of b)))
      tells_cast is-cap number = record { at_line = λ P n S f fs rest st on. rw (is-cap, second, third) (line_is 6 number on) }

      pub tells_copy : {k : Cap} → k ≡ cap_of a → form ≡ 14 → Tells p s h (bind (copy k b))
      tells_copy is-cap number = record { at_line = λ P n S f fs rest st on. rw (is-cap, second, third) (line_is 10 number on) }

      pub tells_send : form ≡ 12 → Tells p s h (bind (send (a % 16) (operand_of b)))
      tells_send number =
          record {
            at_line = λ P n S f fs rest st on.
                let named : line_at P f.block f.line ≡ bind (send a (operand_of b)) = rw (second, third) (line_is 8 number on) in
                rw (slot_place st _ (let_names st named).0) named;
          }

      module _ {c : ℕ} (fourth : c ≡ word_at p h 3) where
        pub tells_swap : form ≡ 7 → Tells p s h (bind (swap (a % 16) b (operand_of c)))
        tells_swap number =
            record {
              at_line = λ P n S f fs rest st on.
                  let named : line_at P f.block f.line ≡ bind (swap a b (operand_of c)) = rw (second, third, fourth) (line_is 3 number on) in
                  rw (slot_place st _ (let_names st named).0) named;
            }

        pub tells_call : form ≡ 8 → Tells p s h (bind (call (a % 16) b (operand_of c)))
        tells_call number =
            record {
              at_line = λ P n S f fs rest st on.
                  let named : line_at P f.block f.line ≡ bind (call a b (operand_of c)) = rw (second, third, fourth) (line_is 4 number on) in
                  rw (slot_place st _ (let_names st named).0) named;
            }

-- ---- The line performed

-- the places of the forms that no line of a block has
abbrev outside : List ℕ
outside = place N.NoForm ∷ place N.Kind ∷ place N.Thread ∷ place N.Method ∷ []

-- numbers 4 to 14 are other forms'
not_outside : (k : ℕ) → k < 11 → OneOf outside (place (form_of (4 + k))) → ⊥
unfolding all_below
not_outside k few one = miss outside (place (form_of (4 + k))) (subst T (sym (below_true (λ i. not (has_key outside (place (form_of (4 + i))))) 11 k refl few)) tt) one

module _ {p s s₁ : List ℕ} {h : Here} {r : Result Move Halt} where
  -- Q is asked of a program that is loaded
  pub performs_loaded : {Q : Program → State → Type 0} {x : Line} → ((P : Program) (S : State) → Loaded p P → Q P S) → Tells p s h x → Performs Q s h x r s₁
      → PerformsHere p s h r s₁
  performs_loaded holds told does =
      record {
        performs = λ P n S f fs rest loaded st few on.
            let is = told.at_line P n S f fs rest st on in
            rw is (does.performs P n S f fs rest (holds P S loaded) st few is);
      }

  pub performs_here : {x : Line} → Tells p s h x → Performs Always s h x r s₁ → PerformsHere p s h r s₁
  performs_here told does = performs_loaded (λ P S loaded. tt) told does

  -- the items of a new are words 3 to 6
  pub performs_new : {form a b c d e g : ℕ} {k : Cap} → form ≡ word_at p h 0 → a ≡ word_at p h 1 → b ≡ word_at p h 2 → k ≡ cap_of a
      → c ≡ word_at p h 3 → d ≡ word_at p h 4 → e ≡ word_at p h 5 → g ≡ word_at p h 6 → form ≡ 9
      → PerformsNew s h k b (c ∷ d ∷ e ∷ g ∷ []) r s₁ → PerformsHere p s h r s₁
  performs_new {b = b} {c = c} {d = d} {e = e} {g = g} {k = k} first second third is-cap fourth fifth sixth seventh number does =
      record {
        performs = λ P n S f fs rest loaded st few on.
            let ws = (here_says on).operands in
            let items : c ∷ d ∷ e ∷ g ∷ [] ≡ pad 4 0 (map operand_item ws) = rw (fourth, fifth, sixth, seventh) ((here_says on).items (sym first ∙ number)) in
            let is : line_at P f.block f.line ≡ bind (new k b ws) = rw (is-cap, second, third) (line_is first 5 number on) in
            rw is ((does.performs ws items).performs P n S f fs rest tt st few is);
      }

  -- no line of a block has another form
  pub no_such_line : {form : ℕ} {f : Name} → form ≡ word_at p h 0 → f ≡ form_of form → OneOf outside (place f) → PerformsHere p s h r s₁
  no_such_line first told one =
      record {
        performs = λ P n S f fs rest loaded st few on.
            let said = here_says on in
            absurd (not_outside said.place said.few (subst (λ g. OneOf outside (place g)) (told ∙ ap form_of (first ∙ said.form)) one));
      }
