-- The text of a form from the words of its line: what the calls of a function write one after the other is what the form's template says. And the
-- line that names the edition, from its word.
use Rattle.std.proofs.Common.{ℕ, zero, suc, ◌+◌, ◌*◌, ◌-◌, ◌/◌, ◌%◌, ◌≤◌, ◌<◌, add-one, arith, ◌≡◌, refl, sym, ap, ◌∙◌, List, [], ◌∷◌, ◌++◌, map, append-nil, append_assoc, length, get_or, take, take-suc, eq-eqb, ne_eqb}
use Rattle.std.proofs.Math.Nat.{mul-le-mul_left, mul_comm, suc-mul}
use Rattle.rules.specs.declared.forms.Form.TheVariants as N
use Rattle.rules.specs.Lists.{pad}
use Rattle.rules.specs.Text.{bytes, space}
use Rattle.rules.specs.Script.{Operand, value, field, swap, call, new, cast, spawn, send, recv, copy, bind, give, thread, method, Form, kind, opens, line, Edition, edition1, edition2, rank}
use Rattle.rules.specs.Templates.{cap_word, print_operand, print_many, print, show, head_of}
use Rattle.rules.specs.Forms.{form_of}
use Rattle.rules.specs.Tables.{operand_item, operand_of, cap_of, line_words, row, edition_word}
use Rattle.rules.specs.Reading.{operands_in}
use Rattle.rules.proofs.TableWords.{cap_of_rank, operand_of_word}
use Rattle.buffer.specs.declared.Output.{Output}
use Rattle.buffer.specs.Outputs.{HasRoom, Wrote}
use Rattle.buffer.specs.Writing.{number_part}
use Rattle.buffer.proofs.Outputs.{◌▹◌, same_text}
use Rattle.writer.specs.Lines.{operand_part, item_part, items_of, form_text, FewParts, head_text}

-- ---- Parts

pub taken_operand : (w : ℕ) → w % 2 ≡ 1 → bytes " (take" ++ (number_part (w / 2) ++ bytes ")") ≡ operand_part w
unfolding print_operand
taken_operand w odd = rw (eq-eqb (w % 2) 1 odd) refl

pub read_operand : (w : ℕ) → (w % 2 ≡ 1 → ⊥) → bytes " (read" ++ (number_part (w / 2) ++ bytes ")") ≡ operand_part w
unfolding print_operand
read_operand w even = rw (ne_eqb (w % 2) 1 even) refl

module _ (f : ℕ → List ℕ) (k : ℕ) where
  no_item : (w : ℕ) → w ≡ 0 → [] ≡ item_part f w
  no_item w none = rw none refl

  an_item : (w : ℕ) → (w ≡ 0 → ⊥) → space ∷ f (w - 1) ≡ item_part f w
  an_item zero some = absurd (some refl)
  an_item (suc i) some = let less : suc i - 1 ≡ i = omega arith in ap (λ (k : ℕ). space ∷ f k) less

  items_snoc : (ws : List ℕ) (w : ℕ) → print_many f (items_of ws) ++ item_part f w ≡ print_many f (items_of (ws ++ (w ∷ [])))
  unfolding print_many
  items_snoc [] zero = refl
  items_snoc [] (suc i) = sym (append-nil (space ∷ f i))
  items_snoc (zero ∷ ws) w = items_snoc ws w
  items_snoc (suc i ∷ ws) w = append_assoc (space ∷ f i) (print_many f (items_of ws)) (item_part f w) ∙ ap (λ (t : List ℕ). space ∷ (f i ++ t)) (items_snoc ws w)

  items_more : (ws : List ℕ) (n : ℕ) → n < length ws → print_many f (items_of (take n ws)) ++ item_part f (get_or ws n 0) ≡ print_many f (items_of (take (n + 1) ws))
  items_more ws n there = items_snoc (take n ws) (get_or ws n 0) ∙ rw (add-one n, take-suc ws n 0 there) refl

  -- an item more, where there is one
  pub an_item_more : {o o₁ o₂ : Output} {n : ℕ} (ws : List ℕ) → n < length ws → (get_or ws n 0 ≡ 0 → ⊥)
      → Wrote (n * k) o o₁ (print_many f (items_of (take n ws))) → Wrote k o₁ o₂ (space ∷ f (get_or ws n 0 - 1))
      → Wrote ((n + 1) * k) o o₂ (print_many f (items_of (take (n + 1) ws)))
  an_item_more {n = n} ws there some before next =
      same_text ((n + 1) * k) (ap (λ (t : List ℕ). print_many f (items_of (take n ws)) ++ t) (an_item (get_or ws n 0) some) ∙ items_more ws n there)
      (omega (arith, suc-mul n k)) (before ▹ next)

  pub no_item_more : {o o₁ : Output} {n : ℕ} (ws : List ℕ) → n < length ws → get_or ws n 0 ≡ 0
      → Wrote (n * k) o o₁ (print_many f (items_of (take n ws))) → Wrote ((n + 1) * k) o o₁ (print_many f (items_of (take (n + 1) ws)))
  no_item_more {n = n} ws there none before =
      same_text ((n + 1) * k)
      (sym (append-nil _) ∙ ap (λ (t : List ℕ). print_many f (items_of (take n ws)) ++ t) (no_item (get_or ws n 0) none) ∙ items_more ws n there)
      (omega (arith, suc-mul n k)) before

-- room for one item of four more, where n are written
pub room_left : {o o₁ : Output} {t : List ℕ} (n k : ℕ) → n < 4 → HasRoom (4 * k) o → Wrote (n * k) o o₁ t → HasRoom k o₁
room_left n k there room before = omega (arith, suc-mul n k, mul-le-mul_left k there, mul_comm k 4, mul_comm k (suc n), before.most, before.length_same, room)

print_operands : (is : List ℕ) → print_many (λ i. print_operand (operand_of i)) is ≡ print_many print_operand (map operand_of is)
unfolding print_many
print_operands [] = refl
print_operands (i ∷ is) = ap (λ (t : List ℕ). space ∷ (print_operand (operand_of i) ++ t)) (print_operands is)

-- what is written for a `new` is its form's text
pub new_text : (a b c d e f : ℕ)
    → bytes "(let (new" ++ ((space ∷ cap_word (cap_of a)) ++ (number_part b
    ++ (print_many (λ i. print_operand (operand_of i)) (items_of (c ∷ d ∷ e ∷ f ∷ [])) ++ bytes "))\n")))
    ≡ form_text N.New a b c d e f
unfolding form_text show print
new_text a b c d e f = rw (print_operands (items_of (c ∷ d ∷ e ∷ f ∷ []))) refl

-- ---- The words of a form tell it

-- word k of a form's line
abbrev word_of : Form → ℕ → ℕ
word_of F k = get_or (row F) k 0

methods_told : (n : ℕ) (ms : List ℕ) → length ms ≤ 4
    → let ws = pad 8 0 (1 ∷ n ∷ map suc ms) in items_of (get_or ws 2 0 ∷ get_or ws 3 0 ∷ get_or ws 4 0 ∷ get_or ws 5 0 ∷ []) ≡ ms
unfolding pad
methods_told n [] few = refl
methods_told n (a ∷ []) few = refl
methods_told n (a ∷ b ∷ []) few = refl
methods_told n (a ∷ b ∷ c ∷ []) few = refl
methods_told n (a ∷ b ∷ c ∷ d ∷ []) few = refl
methods_told n (a ∷ b ∷ c ∷ d ∷ e ∷ ms) few = absurd (omega (arith, few))

operands_told : (k n : ℕ) (ws : List Operand) → length ws ≤ 4
    → let is = pad 8 0 (9 ∷ k ∷ n ∷ map operand_item ws) in map operand_of (items_of (get_or is 3 0 ∷ get_or is 4 0 ∷ get_or is 5 0 ∷ get_or is 6 0 ∷ [])) ≡ ws
unfolding pad
operands_told k n [] few = refl
operands_told k n (a ∷ []) few = rw (operand_of_word a) refl
operands_told k n (a ∷ b ∷ []) few = rw (operand_of_word a, operand_of_word b) refl
operands_told k n (a ∷ b ∷ c ∷ []) few = rw (operand_of_word a, operand_of_word b, operand_of_word c) refl
operands_told k n (a ∷ b ∷ c ∷ d ∷ []) few = rw (operand_of_word a, operand_of_word b, operand_of_word c, operand_of_word d) refl
operands_told k n (a ∷ b ∷ c ∷ d ∷ e ∷ ws) few = absurd (omega (arith, few))

pub form_told : (F : Form) → FewParts F → form_text (form_of (word_of F 0)) (word_of F 1) (word_of F 2) (word_of F 3) (word_of F 4) (word_of F 5) (word_of F 6) ≡ show F
unfolding form_text show row line_words operands_in pad
form_told (kind K) few = rw (methods_told K.fields K.methods few) refl
form_told (opens thread) few = refl
form_told (opens method) few = refl
form_told (line (give w)) few = rw (operand_of_word w) refl
form_told (line (bind (value w))) few = rw (operand_of_word w) refl
form_told (line (bind (field s f))) few = refl
form_told (line (bind (swap s f w))) few = rw (operand_of_word w) refl
form_told (line (bind (call s i w))) few = rw (operand_of_word w) refl
form_told (line (bind (new k n ws))) few = rw (cap_of_rank k, operands_told (rank k) n ws few) refl
form_told (line (bind (cast k w))) few = rw (cap_of_rank k, operand_of_word w) refl
form_told (line (bind (spawn b))) few = refl
form_told (line (bind (send s w))) few = rw (operand_of_word w) refl
form_told (line (bind (recv s))) few = refl
form_told (line (bind (copy k s))) few = rw (cap_of_rank k) refl

-- ---- The line that names the edition

pub head_text_lem : (w : ℕ) → w ≡ 2 → bytes "(script 2)\n" ≡ head_text w
unfolding head_text print
head_text_lem w names = rw (eq-eqb w 2 names) refl

pub no_head_text : (w : ℕ) → (w ≡ 2 → ⊥) → [] ≡ head_text w
unfolding head_text
no_head_text w other = rw (ne_eqb w 2 other) refl

pub head_told : (d : Edition) → head_text (edition_word d) ≡ head_of d
unfolding head_text
head_told edition1 = refl
head_told edition2 = refl
