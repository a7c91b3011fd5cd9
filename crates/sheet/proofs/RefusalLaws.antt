-- The text of a refusal: the bytes of a line one after the other, its last byte, where it ends, what is shown of it.
use Prim.Native.Nat.{ℕ, suc, ◌+◌, ◌-◌, ◌<◌}
use native.Mathlib.Omega.{arith}
use mathlib.Core.Path.{◌≡◌, refl, sym, ap}
use mathlib.Core.Bool.{Bool, true, false, ◌&&◌}
use mathlib.Core.List.{List, [], ◌∷◌, ◌++◌, map, map-append, append_assoc}
use lib.Dec.{eqb}
use native.Mathlib.Numerals.{add-one}
use lib.ListN.{length, take, drop, get_or}
use lib.Seq.{take-suc, take_all}
use Rattle.std.specs.Prelude.{min}
use Rattle.std.specs.List.{ends_with}
use Rattle.std.proofs.lemmas.List.{take_min}
use Rattle.rules.proofs.Counts.{eqb_sym}
use borrow.Author.Tests.{eq-eqb, ne_eqb}
use Rattle.rules.specs.Numbers as No
use Rattle.rules.specs.Text.{bytes, find_line}
use Rattle.rules.specs.Templates.{decimal}
use Rattle.buffer.specs.declared.Output.{Output}
use Rattle.buffer.specs.Outputs.{Wrote}
use Rattle.buffer.specs.Writing.{number_part}
use Rattle.buffer.proofs.Outputs.{◌▹◌, same_text}
use Rattle.sheet.specs.SheetText.{visible, mark_under, shown, last_of, editor_line, word_text, refusal}

-- one byte more of a line, each as h shows it; and all of them
pub one_more_as : {o o₁ o₂ : Output} {r : ℕ} (h : ℕ → ℕ) (t : List ℕ) (i : ℕ) → i < length t → Wrote i o o₁ (map h (take i t)) → Wrote 1 o₁ o₂ (r ∷ []) → r ≡ h (get_or t i 0)
    → Wrote (i + 1) o o₂ (map h (take (i + 1) t))
one_more_as h t i there a b is =
    same_text (i + 1) (rw (add-one i, take-suc t i 0 there, map-append h (take i t) (get_or t i 0 ∷ []), is) refl) (omega arith) (a ▹ b)

pub all_as : {o o₁ : Output} (h : ℕ → ℕ) (t : List ℕ) (i : ℕ) → i ≡ length t → Wrote i o o₁ (map h (take i t)) → Wrote (length t) o o₁ (map h t)
all_as h t i e a = same_text (length t) (ap (map h) (take_all i t (omega (arith, e)))) (omega (arith, e)) a

last_drop : (c : ℕ) (l : List ℕ) → drop (length l) (c ∷ l) ≡ last_of (c ∷ l) ∷ []
last_drop c [] = refl
last_drop c (d ∷ l) = last_drop d l

and_true : (b : Bool) → (b && true) ≡ b
and_true true = refl
and_true false = refl

-- the last byte, as the library looks at it
pub ends_with_byte : (l : List ℕ) → ends_with eqb l (13 ∷ []) ≡ eqb (last_of l) 13
ends_with_byte [] = refl
ends_with_byte (c ∷ l) =
    let place : suc (length l) - 1 ≡ length l = omega arith in
    rw (place, last_drop c l, eqb_sym 13 (last_of (c ∷ l))) (and_true (eqb (last_of (c ∷ l)) 13))

pub shown_none : (k : ℕ) (l : List ℕ) → length l ≡ 0 → [] ≡ shown k l
unfolding shown
shown_none k [] e = refl
shown_none k (c ∷ l) e = absurd (omega (arith, e))

pub shown_some : (k : ℕ) (l : List ℕ) (n : ℕ) → (length l ≡ 0 → ⊥) → n ≡ min (length l) 100
    → bytes "       " ++ (map visible (take n l) ++ (bytes "\n       " ++ (map (mark_under k) (take n l) ++ bytes "\n"))) ≡ shown k l
unfolding shown
shown_some k [] n some e = absurd (some refl)
shown_some k (c ∷ l) n some e =
    let front : n ≡ min 100 (length (c ∷ l)) = omega (arith, e) in
    rw (front, take_min 100 (c ∷ l)) refl

-- a refusal as its parts
module _ (k n : ℕ) (text : List ℕ) where
  pub refusal_text : {l : List ℕ} → l ≡ find_line n text → (k ≡ No.overlong → ⊥)
      → bytes "       refused:" ++ ((number_part k ++ word_text k) ++ (bytes " at line" ++ (number_part n ++ ((bytes ", in an editor line" ++ (number_part (editor_line n) ++ bytes "\n")) ++ shown k l))))
      ≡ refusal k n text
  unfolding refusal
  refusal_text {l} e other = rw (ne_eqb k No.overlong other, ← e, append_assoc (decimal (editor_line n)) (bytes "\n") (shown k l)) refl

  pub overlong_text : k ≡ No.overlong
      → bytes "       refused:" ++ ((number_part k ++ word_text k) ++ (bytes " at line" ++ (number_part n ++ (bytes ", in an editor line" ++ (number_part (editor_line n) ++ bytes "\n"))))) ≡ refusal k n text
  unfolding refusal
  overlong_text is = rw (eq-eqb k No.overlong is) refl
