-- What the words of a line tell of the capability that it names; the lines one by one.
use Prim.Native.Nat.{ℕ, suc, ◌+◌, ◌*◌, ◌≤◌, ◌<◌}
use native.Mathlib.Nat.{add-zero, add-suc, suc-add}
use native.Mathlib.Numerals.{add-one}
use native.Mathlib.Omega.{arith}
use mathlib.Core.Path.{◌≡◌, refl, sym, ap, ◌∙◌, subst}
use mathlib.Core.Bool.{Bool, true, false, cond}
use mathlib.Core.List.{List, [], ◌∷◌, ◌++◌, map, append_assoc, append-nil}
use lib.Dec.{eqb}
use Rattle.std.specs.Prelude.{min, Option, Some, None}
use Rattle.std.specs.Option.{option_eq}
use Rattle.rules.specs.contracts.CapPartialEq.TheImpl as Equal
use Rattle.rules.specs.declared.Cap.{Cap}
use Rattle.rules.specs.declared.Cap.TheVariants.{Imm, Iso, Local, Unsafe}
use lib.ListN.{length, get_or, take}
use lib.Seq.{take-suc, take_all, length-take-le}
use borrow.Author.Tests.{eqb-true, eqb-false, eq-eqb, ne_eqb}
use types.Run.{OneOf, miss}
use Rattle.rules.specs.declared.forms.Form.{Form as Name}
use Rattle.rules.specs.declared.forms.Form.TheVariants.{NoForm, Thread, Method, Kind, Give, Value, Field, Swap, Call, New, Cast, Spawn, Send, Recv, Copy}
use Rattle.rules.specs.Forms.{form_of}
use Rattle.rules.specs.Text.{space}
use Rattle.rules.specs.Templates.{decimal, print_many}
use Rattle.rules.specs.Script.{value, field, swap, call, new, cast, spawn, send, recv, copy, bind, give, thread, method, Form, kind, opens, line, rank}
use Rattle.rules.specs.Lists.{pad}
use Rattle.rules.specs.Tables.{cap_of, line_words, row}
use Rattle.rules.proofs.FormNumbers.{place, IsOneOf, one_of_keys}
use Rattle.rules.proofs.TableWords.{cap_of_rank}
use Rattle.buffer.specs.declared.Output.{Output}
use Rattle.buffer.specs.Outputs.{Wrote}
use Rattle.buffer.specs.Writing.{number_part}
use Rattle.buffer.proofs.Outputs.{nothing, ◌▹◌, same_text}
use Rattle.table.specs.ProgramTable.{Filled, no_form, LineWord, LineCount}
use Rattle.sheet.specs.Ticks.{cap_named, cap_made, making, naming}
use Rattle.sheet.specs.CapLines.{cap_number, TellsLine, CountsMaking, WritesName, WritesNaming}

-- ---- One line

-- the forms that name a capability, those that make records, and all others
abbrev namers : List Name
namers = New ∷ Cast ∷ Copy ∷ []

abbrev makers : List Name
makers = New ∷ Copy ∷ []

abbrev nameless : List Name
nameless = NoForm ∷ Kind ∷ Thread ∷ Method ∷ Give ∷ Value ∷ Field ∷ Swap ∷ Call ∷ Spawn ∷ Send ∷ Recv ∷ []

abbrev makeless : List Name
makeless = NoForm ∷ Kind ∷ Thread ∷ Method ∷ Give ∷ Value ∷ Field ∷ Swap ∷ Call ∷ Cast ∷ Spawn ∷ Send ∷ Recv ∷ []

abbrev form_at : Form → Name
form_at F = form_of (get_or (row F) 0 0)

names_one : (F : Form) → OneOf (map place namers) (place (form_at F)) → suc (rank (cap_of (get_or (row F) 1 0))) ≡ cap_named F
unfolding row pad line_words
names_one (kind K) one = absurd (miss (map place namers) 3 tt one)
names_one (opens thread) one = absurd (miss (map place namers) 1 tt one)
names_one (opens method) one = absurd (miss (map place namers) 2 tt one)
names_one (line (give w)) one = absurd (miss (map place namers) 4 tt one)
names_one (line (bind (value w))) one = absurd (miss (map place namers) 5 tt one)
names_one (line (bind (field s f))) one = absurd (miss (map place namers) 6 tt one)
names_one (line (bind (swap s f w))) one = absurd (miss (map place namers) 7 tt one)
names_one (line (bind (call s i w))) one = absurd (miss (map place namers) 8 tt one)
names_one (line (bind (new k n ws))) one = ap (λ c. suc (rank c)) (cap_of_rank k)
names_one (line (bind (cast k w))) one = ap (λ c. suc (rank c)) (cap_of_rank k)
names_one (line (bind (spawn b))) one = absurd (miss (map place namers) 11 tt one)
names_one (line (bind (send s w))) one = absurd (miss (map place namers) 12 tt one)
names_one (line (bind (recv s))) one = absurd (miss (map place namers) 13 tt one)
names_one (line (bind (copy k s))) one = ap (λ c. suc (rank c)) (cap_of_rank k)

names_none : (F : Form) → OneOf (map place nameless) (place (form_at F)) → 0 ≡ cap_named F
unfolding row pad line_words
names_none (kind K) one = refl
names_none (opens o) one = refl
names_none (line (give w)) one = refl
names_none (line (bind (value w))) one = refl
names_none (line (bind (field s f))) one = refl
names_none (line (bind (swap s f w))) one = refl
names_none (line (bind (call s i w))) one = refl
names_none (line (bind (new k n ws))) one = absurd (miss (map place nameless) 9 tt one)
names_none (line (bind (cast k w))) one = absurd (miss (map place nameless) 10 tt one)
names_none (line (bind (spawn b))) one = refl
names_none (line (bind (send s w))) one = refl
names_none (line (bind (recv s))) one = refl
names_none (line (bind (copy k s))) one = absurd (miss (map place nameless) 14 tt one)

makes_one : (F : Form) → OneOf (map place makers) (place (form_at F)) → suc (rank (cap_of (get_or (row F) 1 0))) ≡ cap_made F
unfolding row pad line_words
makes_one (kind K) one = absurd (miss (map place makers) 3 tt one)
makes_one (opens thread) one = absurd (miss (map place makers) 1 tt one)
makes_one (opens method) one = absurd (miss (map place makers) 2 tt one)
makes_one (line (give w)) one = absurd (miss (map place makers) 4 tt one)
makes_one (line (bind (value w))) one = absurd (miss (map place makers) 5 tt one)
makes_one (line (bind (field s f))) one = absurd (miss (map place makers) 6 tt one)
makes_one (line (bind (swap s f w))) one = absurd (miss (map place makers) 7 tt one)
makes_one (line (bind (call s i w))) one = absurd (miss (map place makers) 8 tt one)
makes_one (line (bind (new k n ws))) one = ap (λ c. suc (rank c)) (cap_of_rank k)
makes_one (line (bind (cast k w))) one = absurd (miss (map place makers) 10 tt one)
makes_one (line (bind (spawn b))) one = absurd (miss (map place makers) 11 tt one)
makes_one (line (bind (send s w))) one = absurd (miss (map place makers) 12 tt one)
makes_one (line (bind (recv s))) one = absurd (miss (map place makers) 13 tt one)
makes_one (line (bind (copy k s))) one = ap (λ c. suc (rank c)) (cap_of_rank k)

makes_none : (F : Form) → OneOf (map place makeless) (place (form_at F)) → 0 ≡ cap_made F
unfolding row pad line_words
makes_none (kind K) one = refl
makes_none (opens o) one = refl
makes_none (line (give w)) one = refl
makes_none (line (bind (value w))) one = refl
makes_none (line (bind (field s f))) one = refl
makes_none (line (bind (swap s f w))) one = refl
makes_none (line (bind (call s i w))) one = refl
makes_none (line (bind (new k n ws))) one = absurd (miss (map place makeless) 9 tt one)
makes_none (line (bind (cast k w))) one = refl
makes_none (line (bind (spawn b))) one = refl
makes_none (line (bind (send s w))) one = refl
makes_none (line (bind (recv s))) one = refl
makes_none (line (bind (copy k s))) one = absurd (miss (map place makeless) 14 tt one)

-- of the words that were read
module _ {t : List ℕ} {n w₀ : ℕ} {f : Name} (first : LineWord t n 0 w₀) (told : f ≡ form_of w₀) where
  form_of_line : (forms : List Name) → IsOneOf forms f → (counts rest : List ℕ) (Fs : List Form) → Filled t counts Fs rest → n < length Fs
      → OneOf (map place forms) (place (form_at (get_or Fs n no_form)))
  form_of_line forms one counts rest Fs filled there =
      subst (λ (x : ℕ). OneOf (map place forms) (place (form_of x))) (first.is counts rest Fs filled there)
      (subst (λ (g : Name). OneOf (map place forms) (place g)) told (one_of_keys place forms f one))

  module _ {w₁ r : ℕ} (second : LineWord t n 1 w₁) (is : r ≡ suc (rank (cap_of w₁))) where
    cap_of_line : (counts rest : List ℕ) (Fs : List Form) → Filled t counts Fs rest → n < length Fs → r ≡ suc (rank (cap_of (get_or (row (get_or Fs n no_form)) 1 0)))
    cap_of_line counts rest Fs filled there = is ∙ ap (λ (w : ℕ). suc (rank (cap_of w))) (second.is counts rest Fs filled there)

    pub named_some : IsOneOf namers f → TellsLine t n cap_named r
    named_some one =
        record {
          is = λ counts rest Fs filled there.
              cap_of_line counts rest Fs filled there ∙ names_one (get_or Fs n no_form) (form_of_line namers one counts rest Fs filled there);
        }

    pub made_some : IsOneOf makers f → TellsLine t n cap_made r
    made_some one =
        record {
          is = λ counts rest Fs filled there.
              cap_of_line counts rest Fs filled there ∙ makes_one (get_or Fs n no_form) (form_of_line makers one counts rest Fs filled there);
        }

  pub named_none : IsOneOf nameless f → TellsLine t n cap_named 0
  named_none one = record { is = λ counts rest Fs filled there. names_none (get_or Fs n no_form) (form_of_line nameless one counts rest Fs filled there) }

  pub made_none : IsOneOf makeless f → TellsLine t n cap_made 0
  made_none one = record { is = λ counts rest Fs filled there. makes_none (get_or Fs n no_form) (form_of_line makeless one counts rest Fs filled there) }

-- ---- The capability that is asked for

same_cap : (x : Option Cap) (c : Cap) → option_eq (Equal.eq-value).it x (Some c) ≡ eqb (cap_number x) (suc (rank c))
same_cap None Imm = refl
same_cap None Iso = refl
same_cap None Local = refl
same_cap None Unsafe = refl
same_cap (Some Imm) Imm = refl
same_cap (Some Imm) Iso = refl
same_cap (Some Imm) Local = refl
same_cap (Some Imm) Unsafe = refl
same_cap (Some Iso) Imm = refl
same_cap (Some Iso) Iso = refl
same_cap (Some Iso) Local = refl
same_cap (Some Iso) Unsafe = refl
same_cap (Some Local) Imm = refl
same_cap (Some Local) Iso = refl
same_cap (Some Local) Local = refl
same_cap (Some Local) Unsafe = refl
same_cap (Some Unsafe) Imm = refl
same_cap (Some Unsafe) Iso = refl
same_cap (Some Unsafe) Local = refl
same_cap (Some Unsafe) Unsafe = refl

module _ (x : Option Cap) (c : Cap) {b : Bool} (compared : b ≡ option_eq (Equal.eq-value).it x (Some c)) where
  pub is_cap : b ≡ true → cap_number x ≡ suc (rank c)
  is_cap told = eqb-true (cap_number x) (suc (rank c)) (sym (same_cap x c) ∙ sym compared ∙ told)

  pub is_no_cap : b ≡ false → cap_number x ≡ suc (rank c) → ⊥
  is_no_cap told = eqb-false (cap_number x) (suc (rank c)) (sym (same_cap x c) ∙ sym compared ∙ told)

-- ---- The lines one by one

making_snoc : (k : ℕ) (Fs : List Form) (F : Form) → making k (Fs ++ (F ∷ [])) ≡ making k Fs + cond (eqb (cap_made F) k) 1 0
unfolding making
making_snoc k [] F = add-zero (cond (eqb (cap_made F) k) 1 0) ∙ omega arith
making_snoc k (G ∷ Fs) F = ap (λ (n : ℕ). cond (eqb (cap_made G) k) 1 0 + n) (making_snoc k Fs F) ∙ omega arith

naming_snoc : (k n : ℕ) (Fs : List Form) (F : Form) → naming k n (Fs ++ (F ∷ [])) ≡ naming k n Fs ++ cond (eqb (cap_named F) k) ((n + length Fs) ∷ []) []
unfolding naming
naming_snoc k n [] F = rw (add-zero n) refl
naming_snoc k n (G ∷ Fs) F =
    go (eqb (cap_named G) k)
    (naming_snoc k (suc n) Fs F ∙ ap (λ (i : ℕ). naming k (suc n) Fs ++ cond (eqb (cap_named F) k) (i ∷ []) []) (suc-add n (length Fs) ∙ sym (add-suc n (length Fs))))
  where
    go : (b : Bool) → naming k (suc n) (Fs ++ (F ∷ [])) ≡ naming k (suc n) Fs ++ cond (eqb (cap_named F) k) ((n + suc (length Fs)) ∷ []) []
        → cond b (n ∷ naming k (suc n) (Fs ++ (F ∷ []))) (naming k (suc n) (Fs ++ (F ∷ [])))
        ≡ cond b (n ∷ naming k (suc n) Fs) (naming k (suc n) Fs) ++ cond (eqb (cap_named F) k) ((n + suc (length Fs)) ∷ []) []
    go true next = ap (n ∷◌) next
    go false next = next

-- the first n lines, and the one after them
take_next : (Fs : List Form) (n : ℕ) → n < length Fs → take (n + 1) Fs ≡ take n Fs ++ (get_or Fs n no_form ∷ [])
take_next Fs n there = ap (λ (i : ℕ). take i Fs) (add-one n) ∙ take-suc Fs n no_form there

-- ---- Counted

pub record CountedTo (t : List ℕ) (k n count : ℕ) : Type 0 where
  pub is : (counts rest : List ℕ) (Fs : List Form) → Filled t counts Fs rest → n ≤ length Fs → count ≡ making k (take n Fs)
  pub few : count ≤ n

pub counted_none : (t : List ℕ) (k : ℕ) → CountedTo t k 0 0
unfolding making
counted_none t k = record { is = λ counts rest Fs filled low. refl; few = omega arith }

module _ {t : List ℕ} {k n count made : ℕ} (tells : TellsLine t n cap_made made) (so : CountedTo t k n count) where
  counted_line : (counts rest : List ℕ) (Fs : List Form) → Filled t counts Fs rest → n + 1 ≤ length Fs → count + cond (eqb made k) 1 0 ≡ making k (take (n + 1) Fs)
  counted_line counts rest Fs filled there =
      let below : n < length Fs = omega (arith, there) in
      let line : made ≡ cap_made (get_or Fs n no_form) = tells.is counts rest Fs filled below in
      let before : count ≡ making k (take n Fs) = so.is counts rest Fs filled (omega (arith, there)) in
      rw (take_next Fs n below, making_snoc k (take n Fs) (get_or Fs n no_form), ← line, ← before) refl

  pub counted_one : made ≡ k → CountedTo t k (n + 1) (count + 1)
  counted_one is =
      record { is = λ counts rest Fs filled there. rw (eq-eqb made k is) at (counted_line counts rest Fs filled there); few = omega (arith, so.few) }

  pub counted_other : (made ≡ k → ⊥) → CountedTo t k (n + 1) count
  counted_other other =
      record {
        is = λ counts rest Fs filled there. omega (arith, rw (ne_eqb made k other) at (counted_line counts rest Fs filled there));
        few = omega (arith, so.few);
      }

-- all lines, of which a table has at most 672
pub counted_all : {t : List ℕ} {k n count lines : ℕ} → CountedTo t k n count → LineCount t lines → n ≡ min lines 672 → CountsMaking t k count
counted_all {t} {k} {n} {count} {lines} so seen end =
    record {
      is = λ counts rest Fs filled whole. (
          let length_is : lines ≡ length Fs = seen.is counts rest Fs filled ∙ whole in
          let all : n ≡ length Fs = omega (arith, end, length_is, filled.lines) in
          so.is counts rest Fs filled (omega (arith, all)) ∙ ap (making k) (take_all n Fs (omega (arith, all)))
          );
      few = omega (arith, so.few, end);
    }

-- ---- Named

pub record NamedTo (t : List ℕ) (first n : ℕ) (o o₁ : Output) : Type 0 where
  pub writes : (counts rest : List ℕ) (Fs : List Form) → Filled t counts Fs rest → n ≤ length Fs → Wrote (n * 6) o o₁ (print_many decimal (naming 4 first (take n Fs)))
  pub most : o₁.at ≤ o.at + n * 6
  pub length_same : length o₁.buf.now ≡ length o.buf.now
  pub buffer_same : o₁.buf.ghost_name ≡ o.buf.ghost_name

pub named_start : (t : List ℕ) (first : ℕ) (o : Output) → o.at ≤ length o.buf.now → NamedTo t first 0 o o
unfolding naming print_many
named_start t first o there = record { writes = λ counts rest Fs filled low. nothing 0 there; most = omega arith; length_same = refl; buffer_same = refl }

print_snoc : (ns : List ℕ) (n : ℕ) → print_many decimal ns ++ number_part n ≡ print_many decimal (ns ++ (n ∷ []))
unfolding print_many
print_snoc [] n = ap (space ∷◌) (sym (append-nil (decimal n)))
print_snoc (m ∷ ns) n = ap (space ∷◌) (append_assoc (decimal m) (print_many decimal ns) (number_part n) ∙ ap (decimal m ++◌) (print_snoc ns n))

module _ {t : List ℕ} {first n named : ℕ} {o : Output} (tells : TellsLine t n cap_named named) where
  pub name_put : {o₁ : Output} → named ≡ 4 → Wrote 6 o o₁ (number_part (first + n)) → WritesName t first n o o₁
  name_put is put =
      record {
        writes = λ counts rest Fs filled there. (
            let line : named ≡ cap_named (get_or Fs n no_form) = tells.is counts rest Fs filled there in
            rw (eq-eqb (cap_named (get_or Fs n no_form)) 4 (sym line ∙ is)) put
            );
        most = put.most;
        length_same = put.length_same;
        buffer_same = put.buffer_same;
      }

  pub name_none : (named ≡ 4 → ⊥) → o.at ≤ length o.buf.now → WritesName t first n o o
  name_none other there =
      record {
        writes = λ counts rest Fs filled below. (
            let line : named ≡ cap_named (get_or Fs n no_form) = tells.is counts rest Fs filled below in
            rw (ne_eqb (cap_named (get_or Fs n no_form)) 4 (λ (e : cap_named (get_or Fs n no_form) ≡ 4). other (line ∙ e))) (nothing 6 there)
            );
        most = omega arith;
        length_same = refl;
        buffer_same = refl;
      }

print_next : (b : Bool) (ns : List ℕ) (n : ℕ) → print_many decimal ns ++ cond b (number_part n) [] ≡ print_many decimal (ns ++ cond b (n ∷ []) [])
print_next true ns n = print_snoc ns n
print_next false ns n = append-nil (print_many decimal ns) ∙ ap (print_many decimal) (sym (append-nil ns))

pub named_on : {t : List ℕ} {first n : ℕ} {o o₁ o₂ : Output} → NamedTo t first n o o₁ → WritesName t first n o₁ o₂ → NamedTo t first (n + 1) o o₂
named_on {t} {first} {n} so name =
    record {
      writes = λ counts rest Fs filled there. (
          let below : n < length Fs = omega (arith, there) in
          same_text ((n + 1) * 6)
          (rw (take_next Fs n below, naming_snoc 4 first (take n Fs) (get_or Fs n no_form), length-take-le n Fs (omega (arith, there)))
          (print_next (eqb (cap_named (get_or Fs n no_form)) 4) (naming 4 first (take n Fs)) (first + n)))
          (omega arith) (so.writes counts rest Fs filled (omega (arith, there)) ▹ name.writes counts rest Fs filled below)
          );
      most = omega (arith, so.most, name.most);
      length_same = name.length_same ∙ so.length_same;
      buffer_same = name.buffer_same ∙ so.buffer_same;
    }

-- all lines, of which a table has at most 672
pub named_all : {t : List ℕ} {first n lines : ℕ} {o o₁ : Output} → NamedTo t first n o o₁ → LineCount t lines → n ≡ min lines 672 → WritesNaming t first o o₁
named_all {t} {first} {n} {lines} so seen end =
    record {
      writes = λ counts rest Fs filled whole. (
          let length_is : lines ≡ length Fs = seen.is counts rest Fs filled ∙ whole in
          let all : n ≡ length Fs = omega (arith, end, length_is, filled.lines) in
          same_text 4032 (ap (λ (Gs : List Form). print_many decimal (naming 4 first Gs)) (take_all n Fs (omega (arith, all)))) (omega (arith, end)) (so.writes counts rest Fs filled (omega (arith, all)))
          );
      most = omega (arith, so.most, end);
      length_same = so.length_same;
      buffer_same = so.buffer_same;
    }
