-- Where the lines of a program stand: each block's first line is the one after its opener, its lets follow in order and then its give; kinds come first.
use Rattle.std.proofs.Common.{◌≡◌, ℕ, zero, suc, ◌+◌, ◌*◌, ◌%◌, ◌<◌, ◌≤◌, List, [], ◌∷◌, map, length, get_or, sym, refl, ap, ◌∙◌, suc-le-suc, le_of_suc-le-suc, not-suc-le-zero, add-suc, suc-add, zero-add, add-one, arith}
use Rattle.rules.specs.Script.{Expr, Operand, Kind, Form, kind, opens, line, give, Block, no_block, no_kind, Program, lets_of, result_of, blocks_of, let_lines, block_lines, kind_lines, lines_of, line_of, line_at, block_at, kind_at}
use Rattle.rules.specs.Mosts.{mosts}
use Rattle.rules.specs.Tables.{line_words, row, first_lines}
use Rattle.rules.proofs.ListLaws.{impossible}
use Rattle.table.specs.ProgramTable.{Filled, no_form, sort_number}
use Rattle.rules.proofs.ListLaws.{get_pad}
use Rattle.table.proofs.ProgramTable.{opener_row, line_word_is, first_line_is}

-- what is read from the lines and is not what stands for none is one of them
is_there : {F : Form} (Fs : List Form) (n : ℕ) → get_or Fs n no_form ≡ F → (no_form ≡ F → ⊥) → n < length Fs
is_there [] n e other = absurd (other e)
is_there (G ∷ Fs) zero e other = omega arith
is_there (G ∷ Fs) (suc n) e other = suc-le-suc (is_there Fs n e other)

-- ---- Openers

-- block b of the lines, of which the first has number n: the line after its opener is its first
record Opened (n : ℕ) (Fs : List Form) (b : ℕ) : Type 0 where
  opener : ℕ
  there : opener < length Fs
  opens_it : get_or Fs opener no_form ≡ opens (get_or (blocks_of Fs) b no_block).sort
  first : get_or (first_lines n Fs) b 0 ≡ suc (n + opener)

-- a line before
later : {n b c : ℕ} {F : Form} {Fs : List Form} → get_or (first_lines n (F ∷ Fs)) c 0 ≡ get_or (first_lines (suc n) Fs) b 0
    → get_or (blocks_of (F ∷ Fs)) c no_block ≡ get_or (blocks_of Fs) b no_block → Opened (suc n) Fs b → Opened n (F ∷ Fs) c
later e same o = record {
  opener = suc o.opener;
  there = omega (arith, o.there);
  opens_it = o.opens_it ∙ ap (λ B. opens B.sort) (sym same);
  first = omega (arith, e, o.first);
}

opened : (n : ℕ) (Fs : List Form) (b : ℕ) → b < length (blocks_of Fs) → Opened n Fs b
unfolding first_lines blocks_of
opened n [] b h = absurd (not-suc-le-zero h)
opened n (kind K ∷ Fs) b h = later refl refl (opened (suc n) Fs b h)
opened n (line x ∷ Fs) b h = later refl refl (opened (suc n) Fs b h)
opened n (opens s ∷ Fs) zero h = record { opener = 0; there = omega arith; opens_it = refl; first = omega arith }
opened n (opens s ∷ Fs) (suc b) h = later refl refl (opened (suc n) Fs b (le_of_suc-le-suc h))

-- ---- Blocks

-- block b of the lines, of which the first has number n, is B: from line `at` on its lets, then its give
record Stands (n : ℕ) (Fs : List Form) (b : ℕ) (B : Block) : Type 0 where
  at : ℕ
  first : get_or (first_lines n Fs) b 0 ≡ n + at
  lines : (l : ℕ) → l ≤ length B.lets → get_or Fs (at + l) no_form ≡ line (line_of B.lets B.result l)

-- a line before
past : {n b c : ℕ} {F : Form} {Fs : List Form} {B : Block} → get_or (first_lines n (F ∷ Fs)) c 0 ≡ get_or (first_lines (suc n) Fs) b 0
    → Stands (suc n) Fs b B → Stands n (F ∷ Fs) c B
past e s = record {
  at = suc s.at;
  first = omega (arith, e, s.first);
  lines = λ l h. rw (suc-add s.at l) (s.lines l h);
}

past_lets : {b : ℕ} {Fs : List Form} {B : Block} (es : List Expr) → ((n : ℕ) → Stands n Fs b B) → (n : ℕ) → Stands n (let_lines es Fs) b B
unfolding let_lines first_lines
past_lets [] s n = s n
past_lets (e ∷ es) s n = past refl (past_lets es s (suc n))

past_kinds : {b : ℕ} {Fs : List Form} {B : Block} (Ks : List Kind) → ((n : ℕ) → Stands n Fs b B) → (n : ℕ) → Stands n (kind_lines Ks Fs) b B
unfolding kind_lines first_lines
past_kinds [] s n = s n
past_kinds (K ∷ Ks) s n = past refl (past_kinds Ks s (suc n))

-- the lets and the give of a block
lets_stand : (es : List Expr) (w : Operand) (Fs : List Form) (l : ℕ) → l ≤ length es → get_or (let_lines es (line (give w) ∷ Fs)) l no_form ≡ line (line_of es w l)
unfolding let_lines line_of
lets_stand [] w Fs zero h = refl
lets_stand [] w Fs (suc l) h = absurd (not-suc-le-zero h)
lets_stand (e ∷ es) w Fs zero h = refl
lets_stand (e ∷ es) w Fs (suc l) h = lets_stand es w Fs l (le_of_suc-le-suc h)

blocks_stand : (Bs : List Block) (b : ℕ) → b < length Bs → (n : ℕ) → Stands n (block_lines Bs) b (get_or Bs b no_block)
unfolding block_lines first_lines
blocks_stand [] b h n = absurd (not-suc-le-zero h)
blocks_stand (B ∷ Bs) zero h n = record {
  at = 1;
  first = omega arith;
  lines = λ l k. rw (suc-add 0 l, zero-add l) (lets_stand B.lets B.result (block_lines Bs) l k);
}
blocks_stand (B ∷ Bs) (suc b) h n = past refl (past_lets B.lets (λ m. past refl (blocks_stand Bs b (le_of_suc-le-suc h) (suc m))) (suc n))

block_stands : (P : Program) (b : ℕ) → b < length P.blocks → Stands 0 (lines_of P) b (block_at P b)
unfolding lines_of block_at
block_stands P b h = past_kinds P.kinds (blocks_stand P.blocks b h) 0

-- the lines tell the blocks
lets_of_lines : (es : List Expr) (w : Operand) (Fs : List Form) → lets_of (let_lines es (line (give w) ∷ Fs)) ≡ es
unfolding let_lines lets_of
lets_of_lines [] w Fs = refl
lets_of_lines (e ∷ es) w Fs = ap (e ∷◌) (lets_of_lines es w Fs)

result_of_lines : (es : List Expr) (w : Operand) (Fs : List Form) → result_of (let_lines es (line (give w) ∷ Fs)) ≡ w
unfolding let_lines result_of
result_of_lines [] w Fs = refl
result_of_lines (e ∷ es) w Fs = result_of_lines es w Fs

blocks_past_lets : (es : List Expr) (Fs : List Form) → blocks_of (let_lines es Fs) ≡ blocks_of Fs
unfolding let_lines blocks_of
blocks_past_lets [] Fs = refl
blocks_past_lets (e ∷ es) Fs = blocks_past_lets es Fs

blocks_past_kinds : (Ks : List Kind) (Fs : List Form) → blocks_of (kind_lines Ks Fs) ≡ blocks_of Fs
unfolding kind_lines blocks_of
blocks_past_kinds [] Fs = refl
blocks_past_kinds (K ∷ Ks) Fs = blocks_past_kinds Ks Fs

blocks_of_blocks : (Bs : List Block) → blocks_of (block_lines Bs) ≡ Bs
unfolding block_lines blocks_of
blocks_of_blocks [] = refl
blocks_of_blocks (B ∷ Bs) =
    rw (lets_of_lines B.lets B.result (block_lines Bs), result_of_lines B.lets B.result (block_lines Bs), blocks_past_lets B.lets (line (give B.result) ∷ block_lines Bs), blocks_of_blocks Bs)

pub blocks_of_lines : (P : Program) → blocks_of (lines_of P) ≡ P.blocks
unfolding lines_of
blocks_of_lines P = blocks_past_kinds P.kinds (block_lines P.blocks) ∙ blocks_of_blocks P.blocks

-- ---- Kinds

kinds_stand : (Ks : List Kind) (Fs : List Form) (n : ℕ) → n < length Ks → get_or (kind_lines Ks Fs) n no_form ≡ kind (get_or Ks n no_kind)
unfolding kind_lines
kinds_stand [] Fs n h = absurd (not-suc-le-zero h)
kinds_stand (K ∷ Ks) Fs zero h = refl
kinds_stand (K ∷ Ks) Fs (suc n) h = kinds_stand Ks Fs n (le_of_suc-le-suc h)

pub kind_stands : (P : Program) (n : ℕ) → n < length P.kinds → get_or (lines_of P) n no_form ≡ kind (kind_at P n)
unfolding lines_of kind_at
kind_stands P n h = kinds_stand P.kinds (block_lines P.blocks) n h

-- ---- What the accessors read

module _ {t counts rest : List ℕ} {Fs : List Form} (filled : Filled t counts Fs rest) where
  pub block_form_is : (b : ℕ) → b < length (blocks_of Fs) → get_or t ((64 + get_or t (8 + b) 0 * 8) % 8192) 0 ≡ sort_number (get_or (blocks_of Fs) b no_block).sort
  block_form_is b h =
      let o = opened 0 Fs b h in
      let first : get_or t (8 + b) 0 ≡ suc (0 + o.opener) = first_line_is filled b (omega (arith, filled.blocks)) ∙ o.first in
      let place : (64 + get_or t (8 + b) 0 * 8) % 8192 ≡ 72 + o.opener * 8 + 0 = omega (arith, first, o.there, filled.lines) in
      line_word_is filled o.opener 0 _ o.there (omega arith) place ∙ ap (λ F. get_or (row F) 0 0) o.opens_it
      ∙ ap (λ l. get_or l 0 0) (sym (opener_row (get_or (blocks_of Fs) b no_block).sort))

module _ (P : Program) {t counts rest : List ℕ} (filled : Filled t counts (lines_of P) rest) where
  -- a line of a block is one of the program's lines
  pub line_there : (b l : ℕ) → b < mosts.blocks → b < length P.blocks → l ≤ length (block_at P b).lets → get_or t (8 + b) 0 + l < length (lines_of P)
  unfolding line_at
  line_there b l few h m =
      let s = block_stands P b h in
      let there : s.at + l < length (lines_of P) = is_there (lines_of P) (s.at + l) (s.lines l m) (λ e. impossible cc) in
      let first : get_or t (8 + b) 0 ≡ 0 + s.at = first_line_is filled b few ∙ s.first in
      omega (arith, first, there)

  pub line_part_is : (b l k : ℕ) → b < mosts.blocks → b < length P.blocks → l ≤ length (block_at P b).lets → k < 8
      → get_or t ((72 + (get_or t (8 + b) 0 + l) * 8 + k) % 8192) 0 ≡ get_or (row (line (line_at P b l))) k 0
  unfolding line_at
  line_part_is b l k few h m c =
      let s = block_stands P b h in
      let stands : get_or (lines_of P) (s.at + l) no_form ≡ line (line_at P b l) = s.lines l m in
      let first : get_or t (8 + b) 0 ≡ 0 + s.at = first_line_is filled b few ∙ s.first in
      let there : s.at + l < length (lines_of P) = omega (arith, first, line_there b l few h m) in
      let place : (72 + (get_or t (8 + b) 0 + l) * 8 + k) % 8192 ≡ 72 + (s.at + l) * 8 + k = omega (arith, first, there, filled.lines) in
      line_word_is filled (s.at + l) k _ there c place ∙ ap (λ F. get_or (row F) k 0) stands

-- a word of kind n's line
module _ (P : Program) (n : ℕ) (h : n < length P.kinds) where
  pub kind_there : n < length (lines_of P)
  kind_there = is_there (lines_of P) n (kind_stands P n h) (λ e. impossible cc)

  kind_word : (k : ℕ) → k < 8 → get_or (row (get_or (lines_of P) n no_form)) k 0 ≡ get_or (line_words (kind (kind_at P n))) k 0
  unfolding row
  kind_word k c = ap (λ F. get_or (row F) k 0) (kind_stands P n h) ∙ get_pad 8 0 (line_words (kind (kind_at P n))) k c

  pub kind_fields_is : get_or (row (get_or (lines_of P) n no_form)) 1 0 ≡ (kind_at P n).fields
  unfolding line_words
  kind_fields_is = kind_word 1 (omega arith)

  pub kind_method_is : (i : ℕ) → i < 4 → get_or (row (get_or (lines_of P) n no_form)) (i + 2) 0 ≡ get_or (map suc (kind_at P n).methods) i 0
  unfolding line_words
  kind_method_is i c = kind_word (i + 2) (omega arith) ∙ rw (add-suc i 1, add-one i)
