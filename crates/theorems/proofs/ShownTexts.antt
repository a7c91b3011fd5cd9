-- What is printed of lines that pass every check is read as these lines: a form is written without a stray byte, and its only LF ends it; so the
-- lines of the text are the forms' own, each decodes as its form, and passes as before.
use Prim.Native.Nat.{ℕ, suc, ◌/◌, ◌%◌, ◌<◌}
use native.Mathlib.Omega.{arith}
use mathlib.Core.Path.{◌≡◌, refl, ap, ◌∙◌}
use mathlib.Core.Bool.{Bool, true, false, not, ◌&&◌, false≢true, true≢false}
use mathlib.Core.List.{List, [], ◌∷◌, ◌++◌, map}
use lib.Dec.{eqb, ltb}
use borrow.Author.Tests.{ltb-false, eqb-true, not-true}
use Rattle.rules.specs.declared.Cap.{Cap}
use Rattle.rules.specs.declared.Cap.TheVariants.{Imm, Iso, Local, Unsafe}
use Rattle.rules.specs.declared.Mosts.{Mosts}
use Rattle.rules.specs.Mosts as Most
use Rattle.rules.specs.Lists.{any, Every}
use Rattle.rules.specs.Text.{bytes, lf, allowed, stray, lines, join}
use Rattle.rules.specs.Script.{Operand, reads, takes, value, field, swap, call, new, cast, spawn, send, recv, copy, bind, give, thread, method, Form, kind, opens, line, Edition, edition1, edition2, program_of}
use Rattle.rules.specs.Templates.{unfit, literal, ◌>>=◌, digit, digit_at, decimal, cap_word, print_operand, print_many, Part, character, one_number, one_operand, one_cap, many_numbers, many_operands, Holds, fit, print, kind_t, thread_t, method_t, give_t, value_t, field_t, swap_t, call_t, new_t, cast_t, spawn_t, send_t, recv_t, copy_t, show, script_t, head_of}
use Rattle.rules.specs.Reading.{slots_in, numbers_in, over255, is_outside, in_place, read_on, next, form_step, line_step, finish, scanned, scan, nothing, Sofar, link, lines_before, linked, script_of, headed, script}
use Rattle.rules.proofs.ListLaws.{by_bool, all_below, below_true, and_true, or_false, any_false, every_map, every_append}
use Rattle.rules.proofs.Printing.{Small, parted, fit_back}
use Rattle.rules.proofs.Scanned.{Passed, Scanned, ended, passed}
use Rattle.theorems.proofs.ShownForms.{decode_show}

-- ---- Characters

-- a byte of a line before its LF
unfoldable plain : ℕ → Bool
plain c = allowed c && not (eqb c lf)

abbrev Plain : List ℕ → Type 0
Plain l = Every (λ c. plain c ≡ true) l

digit_plain : (d : ℕ) → d < 10 → plain (digit d) ≡ true
unfolding plain allowed all_below
digit_plain d h = below_true (λ x. plain (digit x)) 10 d refl h

digit_at_plain : (place n : ℕ) → Plain (digit_at place n)
digit_at_plain place n = by_bool (ltb n place) (λ t. rw t tt) (λ t. rw t (digit_plain (n / place % 10) (omega arith), tt))

decimal_plain : (n : ℕ) → Plain (decimal n)
unfolding decimal
decimal_plain n =
    every_append _ (digit_at 10000 n) _ (digit_at_plain 10000 n)
    (every_append _ (digit_at 1000 n) _ (digit_at_plain 1000 n)
    (every_append _ (digit_at 100 n) _ (digit_at_plain 100 n)
    (every_append _ (digit_at 10 n) _ (digit_at_plain 10 n) (digit_plain (n % 10) (omega arith), tt))))

cap_plain : (k : Cap) → Plain (cap_word k)
unfolding plain allowed
cap_plain Imm = (refl, (refl, (refl, tt)))
cap_plain Iso = (refl, (refl, (refl, tt)))
cap_plain Local = (refl, (refl, (refl, (refl, (refl, tt)))))
cap_plain Unsafe = (refl, (refl, (refl, (refl, (refl, (refl, tt))))))

operand_plain : (w : Operand) → Plain (print_operand w)
unfolding plain allowed print_operand
operand_plain (reads s) = (refl, (refl, (refl, (refl, (refl, (refl, every_append _ (decimal s) (bytes ")") (decimal_plain s) (refl, tt)))))))
operand_plain (takes s) = (refl, (refl, (refl, (refl, (refl, (refl, every_append _ (decimal s) (bytes ")") (decimal_plain s) (refl, tt)))))))

many_plain : {A : Type 0} (f : A → List ℕ) → ((a : A) → Plain (f a)) → (xs : List A) → Plain (print_many f xs)
unfolding plain allowed print_many
many_plain f each [] = tt
many_plain f each (x ∷ xs) = (refl, every_append _ (f x) (print_many f xs) (each x) (many_plain f each xs))

-- ---- A line

data IsLine : List ℕ → Type 0 where
  end : IsLine (lf ∷ [])
  more : {c : ℕ} {l : List ℕ} → plain c ≡ true → IsLine l → IsLine (c ∷ l)

plain_then : (l k : List ℕ) → Plain l → IsLine k → IsLine (l ++ k)
plain_then [] k p h = h
plain_then (c ∷ l) k p h = more p.0 (plain_then l k p.1 h)

-- a template's only LF is its last character
unfoldable one_line : List Part → Bool
one_line [] = false
one_line (character c ∷ []) = eqb c lf
one_line (character c ∷ p ∷ t) = plain c && one_line (p ∷ t)
one_line (one_number ∷ t) = one_line t
one_line (one_operand ∷ t) = one_line t
one_line (one_cap ∷ t) = one_line t
one_line (many_numbers ∷ t) = one_line t
one_line (many_operands ∷ t) = one_line t

line_printed : (t : List Part) (p : Holds t) → one_line t ≡ true → IsLine (print t p)
unfolding one_line print
line_printed [] p h = absurd (false≢true h)
line_printed (character c ∷ []) p h = rw (eqb-true c lf h) end
line_printed (character c ∷ q ∷ t) p h = let both = and_true (plain c) (one_line (q ∷ t)) h in more both.0 (line_printed (q ∷ t) p both.1)
line_printed (one_number ∷ t) p h = plain_then (decimal p.0) _ (decimal_plain p.0) (line_printed t p.1 h)
line_printed (one_operand ∷ t) p h = plain_then (print_operand p.0) _ (operand_plain p.0) (line_printed t p.1 h)
line_printed (one_cap ∷ t) p h = plain_then (cap_word p.0) _ (cap_plain p.0) (line_printed t p.1 h)
line_printed (many_numbers ∷ t) p h = plain_then (print_many decimal p.0) _ (many_plain decimal decimal_plain p.0) (line_printed t p.1 h)
line_printed (many_operands ∷ t) p h = plain_then (print_many print_operand p.0) _ (many_plain print_operand operand_plain p.0) (line_printed t p.1 h)

show_line : (F : Form) → IsLine (show F)
unfolding show one_line plain allowed
show_line (kind K) = line_printed kind_t (K.fields, (K.methods, tt)) refl
show_line (opens thread) = line_printed thread_t tt refl
show_line (opens method) = line_printed method_t tt refl
show_line (line (give w)) = line_printed give_t (w, tt) refl
show_line (line (bind (value w))) = line_printed value_t (w, tt) refl
show_line (line (bind (field s f))) = line_printed field_t (s, (f, tt)) refl
show_line (line (bind (swap s f w))) = line_printed swap_t (s, (f, (w, tt))) refl
show_line (line (bind (call s i w))) = line_printed call_t (s, (i, (w, tt))) refl
show_line (line (bind (new k n ws))) = line_printed new_t (k, (n, (ws, tt))) refl
show_line (line (bind (cast k w))) = line_printed cast_t (k, (w, tt)) refl
show_line (line (bind (spawn b))) = line_printed spawn_t (b, tt) refl
show_line (line (bind (send s w))) = line_printed send_t (s, (w, tt)) refl
show_line (line (bind (recv s))) = line_printed recv_t (s, tt) refl
show_line (line (bind (copy k s))) = line_printed copy_t (k, (s, tt)) refl

-- it is the first line of a text that begins with it, and has no stray byte
line_first : {l : List ℕ} → IsLine l → (s : List ℕ) → lines (l ++ s) ≡ l ∷ lines s
unfolding lines plain
line_first end s = refl
line_first (more {c} {l} p h) s = rw (line_first h s, not-true (eqb c lf) (and_true (allowed c) (not (eqb c lf)) p).1) refl

not_stray : {l : List ℕ} → IsLine l → stray l ≡ false
unfolding stray any allowed plain
not_stray end = refl
not_stray (more {c} p h) = rw (and_true (allowed c) (not (eqb c lf)) p).0 (not_stray h)

lines_shown : (Fs : List Form) → lines (join (map show Fs)) ≡ map show Fs
unfolding join lines
lines_shown [] = refl
lines_shown (F ∷ Fs) = line_first (show_line F) (join (map show Fs)) ∙ ap (show F ∷◌) (lines_shown Fs)

-- ---- A text

at_most_255 : (F : Form) → over255 F ≡ false → Every Small (slots_in F) × Every Small (numbers_in F)
unfolding over255
at_most_255 F h =
    let few = or_false (any (ltb Most.number) (slots_in F)) (any (ltb Most.number) (numbers_in F)) h in
    let small : (x : ℕ) → ltb Most.number x ≡ false → Small x = λ x e. omega (arith, ltb-false Most.number x e) in
    (every_map small (slots_in F) (any_false (ltb Most.number) (slots_in F) few.0), every_map small (numbers_in F) (any_false (ltb Most.number) (numbers_in F) few.1))

step_shown : (m : Mosts) (r : Sofar) (F : Form) → Passed m r F → line_step m r (show F) ≡ next F (read_on r F)
unfolding line_step form_step
step_shown m r F x =
    let small = at_most_255 F x.in_255 in
    rw (not_stray (show_line F), decode_show F small.0 small.1, x.is_in_place, x.in_mosts, x.in_255, x.bound, x.not_self) refl

scan_shown : {m : Mosts} {r : Sofar} {Fs : List Form} → Scanned m r Fs → (n : ℕ) → scan m r n (map show Fs) ≡ scanned Fs
unfolding scan finish
scan_shown (ended some closed) n = rw (some, closed) refl
scan_shown {m} {r} (passed {F} {Fs} x s) n = rw (step_shown m r F x, scan_shown s (suc n)) refl

-- no text of the first edition begins as one of the second
no_head : {m : Mosts} (Fs : List Form) → Scanned m (nothing edition1) Fs → fit script_t (join (map show Fs)) ≡ unfit
unfolding in_place is_outside show join print fit literal ◌>>=◌
no_head [] (ended some closed) = absurd (true≢false some)
no_head (kind K ∷ Fs) s = refl
no_head (opens thread ∷ Fs) s = refl
no_head (opens method ∷ Fs) s = refl
no_head (line y ∷ Fs) (passed x s) = absurd (false≢true x.is_in_place)

body_reads : (m : Mosts) (e : Edition) (Fs : List Form) → Scanned m (nothing e) Fs → script_of m e (join (map show Fs)) ≡ link (program_of e Fs) 0 (lines_before e) Fs
unfolding script_of
body_reads m e Fs s =
    ap (λ (ls : List (List ℕ)). linked e (scan m (nothing e) (lines_before e) ls)) (lines_shown Fs) ∙ ap (linked e) (scan_shown s (lines_before e))

-- so what is left to ask of it is whether a line dangles
pub shown_reads : (m : Mosts) (e : Edition) (Fs : List Form) → Scanned m (nothing e) Fs
    → script m (head_of e ++ join (map show Fs)) ≡ link (program_of e Fs) 0 (lines_before e) Fs
unfolding script parted
shown_reads m edition1 Fs s = ap (headed m (join (map show Fs))) (no_head Fs s) ∙ body_reads m edition1 Fs s
shown_reads m edition2 Fs s = ap (headed m (head_of edition2 ++ join (map show Fs))) (fit_back script_t tt (join (map show Fs)) refl tt) ∙ body_reads m edition2 Fs s
