-- Refusal 8 on the table of a program: which line dangles.
use Rattle.std.specs.Prelude.{ℕ, Option, Some, None, ◌≤◌, ◌<◌, ◌≡◌, Bool, false, not, cond, List, ltb, length, get_or}
use Rattle.rules.specs.declared.forms.Form.TheVariants as N
use Rattle.rules.specs.Lists.{any, Every}
use Rattle.rules.specs.Numbers as No
use Rattle.rules.specs.Script.{Sort, method, Form, Program, lines_of, kind_at}
use Rattle.rules.specs.Reading.{Reading, is_sort, dangles, turned_away, accepted, link}
use Rattle.rules.specs.Forms.{form_number}
use Rattle.rules.specs.Tables.{row}
use Rattle.grammar.specs.Decoded.{over_line}
use Rattle.table.specs.ProgramTable.{Filled, no_form, sort_number}
use Rattle.reader.specs.declared.counts.Counts.{Counts}

-- a table that holds a program whose lines exceed no most
pub record Table (t : List ℕ) (P : Program) : Type 0 where
  pub counts : List ℕ
  pub rest : List ℕ
  pub filled : Filled t counts (lines_of P) rest
  pub small : Every (λ F. over_line F ≡ false) (lines_of P)

abbrev pub form_at : Program → ℕ → Form
form_at P n = get_or (lines_of P) n no_form

pub record IsSort (t : List ℕ) (blocks b form : ℕ) (r : Bool) : Type 0 where
  pub is : (P : Program) (o : Sort) → Table t P → blocks ≡ length P.blocks → form ≡ sort_number o → r ≡ is_sort P o b

-- method i of kind n is there, and is no method block
pub record MethodDangles (t : List ℕ) (blocks n i : ℕ) (r : Bool) : Type 0 where
  pub is : (P : Program) → Table t P → blocks ≡ length P.blocks → n < length P.kinds
      → r ≡ cond (ltb i (length (kind_at P n).methods)) (not (is_sort P method (get_or (kind_at P n).methods i 0))) false

pub record KindDangles (t : List ℕ) (blocks n : ℕ) (r : Bool) : Type 0 where
  pub is : (P : Program) → Table t P → blocks ≡ length P.blocks → n < length P.kinds
      → r ≡ any (λ i. not (is_sort P method i)) (kind_at P n).methods

-- line n is a new
pub record NewDangles (t : List ℕ) (kinds n : ℕ) (r : Bool) : Type 0 where
  pub is : (P : Program) (b : ℕ) → Table t P → kinds ≡ length P.kinds → n < length (lines_of P) → get_or (row (form_at P n)) 0 0 ≡ form_number N.New
      → r ≡ dangles P b (form_at P n)

-- b blocks are opened before line n: none before the line after the kinds, which opens the first
pub record Opened (P : Program) (n b : ℕ) : Type 0 where
  pub none : n ≤ length P.kinds → b ≡ 0
  pub some : length P.kinds < n → 1 ≤ b

pub record LineDangles (t : List ℕ) (kinds blocks n : ℕ) (r : Bool) : Type 0 where
  pub is : (P : Program) (b : ℕ) → Table t P → kinds ≡ length P.kinds → blocks ≡ length P.blocks → n < length (lines_of P) → Opened P n b
      → r ≡ dangles P b (form_at P n)

-- refusal 8 at the first line that dangles, if one does
abbrev pub linked : Program → Option ℕ → Reading
linked P (Some n) = turned_away No.dangling n
linked P None = accepted P

pub record FirstDangling (t : List ℕ) (c : Counts) (r : Option ℕ) : Type 0 where
  pub is : (P : Program) → Table t P → c.kinds ≡ length P.kinds → c.blocks ≡ length P.blocks → c.lines ≡ length (lines_of P) → link P 0 0 (lines_of P) ≡ linked P r
