-- The line of the objects reached: number after number, between its first word and its bracket.
use Prim.Native.Nat.{ℕ, ◌+◌, ◌*◌, ◌≤◌, ◌<◌}
use native.Mathlib.Numerals.{add-one}
use native.Mathlib.Omega.{arith}
use mathlib.Core.Path.{◌≡◌, sym, ap, ◌∙◌}
use mathlib.Core.List.{List, [], ◌∷◌, ◌++◌, map, append_assoc, append-nil}
use lib.ListN.{length, get_or, take}
use lib.Seq.{take-suc}
use Rattle.rules.specs.Text.{bytes, space}
use Rattle.rules.specs.Templates.{decimal, print_many}
use Rattle.rules.specs.Listing.{bracket, a_line}
use Rattle.buffer.specs.Writing.{number_part}
use Rattle.buffer.specs.declared.Output.{Output}
use Rattle.buffer.specs.Outputs.{Wrote}
use Rattle.buffer.proofs.Outputs.{◌▹◌, same_text, nothing}
use Rattle.reports.specs.ReachedLines.{numbers_text, reached_line}

numbers_snoc : (xs : List ℕ) (x : ℕ) → numbers_text xs ++ number_part x ≡ numbers_text (xs ++ (x ∷ []))
unfolding numbers_text print_many
numbers_snoc [] x = ap (space ∷◌) (sym (append-nil (decimal x)))
numbers_snoc (y ∷ xs) x = ap (space ∷◌) (append_assoc (decimal y) (print_many (λ p. p) (map decimal xs)) (number_part x) ∙ ap (decimal y ++◌) (numbers_snoc xs x))

pub no_number_yet : {o : Output} (numbers : List ℕ) → o.at ≤ length o.buf.now → Wrote 0 o o (numbers_text (take 0 numbers))
unfolding numbers_text print_many
no_number_yet numbers there = nothing 0 there

pub number_next : (numbers : List ℕ) {o o₁ o₂ : Output} (i : ℕ) → i < length numbers → Wrote (6 * i) o o₁ (numbers_text (take i numbers))
    → Wrote 6 o₁ o₂ (number_part (get_or numbers i 0)) → Wrote (6 * (i + 1)) o o₂ (numbers_text (take (i + 1) numbers))
number_next numbers i there before next =
    same_text (6 * (i + 1)) (numbers_snoc (take i numbers) (get_or numbers i 0) ∙ ap numbers_text (sym (take-suc numbers i 0 there) ∙ ap (λ k. take k numbers) (sym (add-one i)))) (omega arith)
    (before ▹ next)

pub reached_line_lem : (xs : List ℕ) → bytes "(reached" ++ (numbers_text xs ++ bytes ")\n") ≡ reached_line xs
unfolding reached_line numbers_text a_line bracket
reached_line_lem xs =
    let many : List ℕ = print_many (λ p. p) (map decimal xs) in
    ap (bytes "(reached" ++◌) (sym (append_assoc many (bytes ")") (bytes "\n")))
