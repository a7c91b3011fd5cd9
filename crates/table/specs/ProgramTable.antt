-- The program table by its lines, while it is filled and when it is full; and what each accessor says of the abstract program.
use Rattle.std.specs.Prelude.{◌≡◌, ℕ, suc, ◌<◌, ◌≤◌, Bool, true, false, ◌&&◌, List, [], ◌∷◌, ◌++◌, map, length, get_or, take, replicate, ◌==◌, ◌≢◌, slice_index, slice_index_or}
use Rattle.rules.specs.declared.forms.Form.TheVariants as N
use Rattle.rules.specs.Forms.{form_number}
use Rattle.rules.specs.Mosts as Most
use Rattle.rules.specs.Mosts.{mosts}
use Rattle.rules.specs.Lists.{pad, cells}
use Rattle.rules.specs.Script.{Sort, thread, method, Form, opens, blocks_of, Program, lines_of, kind_at, no_block}
use Rattle.rules.specs.Tables.{row, first_lines}

-- a table in which nothing is written: its words are all 0
unfoldable pub fresh_table : List ℕ
fresh_table = replicate Most.words 0

-- counts and the edition, first lines of blocks, lines; `program_words P` has those of P
unfoldable pub line_table : (counts : List ℕ) → List Form → List ℕ
line_table counts Fs = pad Most.words 0 (pad 8 0 counts ++ (pad mosts.blocks 0 (first_lines 0 Fs) ++ cells row Fs))

-- a table that holds these lines; `rest` stands past its 8,192 words
pub record Filled (t counts : List ℕ) (Fs : List Form) (rest : List ℕ) : Type 0 where
  pub words : t ≡ line_table counts Fs ++ rest
  pub lines : length Fs ≤ 672
  pub blocks : length (blocks_of Fs) ≤ mosts.blocks

-- what is asked for past the end is never used
abbrev pub no_form : Form
no_form = opens thread

abbrev pub sort_number : Sort → ℕ
sort_number thread = form_number N.Thread
sort_number method = form_number N.Method

-- line n is written, and opens no block
pub record LineAdded (n : ℕ) (words t t' : List ℕ) : Type 0 where
  pub added : (counts rest : List ℕ) (Fs : List Form) (F : Form) → Filled t counts Fs rest → n ≡ length Fs → n < 672
      → words ≡ row F → first_lines n (F ∷ []) ≡ [] → Filled t' counts (Fs ++ (F ∷ [])) rest

-- line n is written, and opens block b
pub record OpenerAdded (n b form : ℕ) (t t' : List ℕ) : Type 0 where
  pub added : (counts rest : List ℕ) (Fs : List Form) (o : Sort) → Filled t counts Fs rest → n ≡ length Fs → n < 672
      → b ≡ length (blocks_of Fs) → b < mosts.blocks → form ≡ sort_number o → Filled t' counts (Fs ++ (opens o ∷ [])) rest

-- the counts are written, and the edition's word after them
pub record Counted (kinds blocks lines edition : ℕ) (t t' : List ℕ) : Type 0 where
  pub counted : (rest : List ℕ) (Fs : List Form) → Filled t [] Fs rest → Filled t' (kinds ∷ blocks ∷ lines ∷ edition ∷ []) Fs rest

-- the first words of the table are these, or they are not
pub record Same (t words : List ℕ) (r : Bool) : Type 0 where
  pub same : r ≡ true → take Most.words t ≡ words
  pub other : r ≡ false → take Most.words t ≢ words

-- the same as a test
unfoldable pub same_words : List ℕ → List ℕ → Bool
same_words [] [] = true
same_words [] (y ∷ ys) = false
same_words (x ∷ xs) [] = false
same_words (x ∷ xs) (y ∷ ys) = x == y && same_words xs ys

-- by lines of the text
pub record LineCount (t : List ℕ) (r : ℕ) : Type 0 where
  pub is : (counts rest : List ℕ) (Fs : List Form) → Filled t counts Fs rest → r ≡ slice_index counts 2

-- behind the words that are used there are zeros only
pub record UsedWords (t : List ℕ) (r : ℕ) : Type 0 where
  pub is : (counts rest : List ℕ) (Fs : List Form) → Filled t counts Fs rest → slice_index counts 2 ≡ length Fs → pad Most.words 0 (take r t) ≡ take Most.words t

-- `edition_word` of its edition, where the table is a program's
pub record EditionIs (t : List ℕ) (r : ℕ) : Type 0 where
  pub is : (counts rest : List ℕ) (Fs : List Form) → Filled t counts Fs rest → r ≡ slice_index counts 3

pub record LineWord (t : List ℕ) (n k r : ℕ) : Type 0 where
  pub is : (counts rest : List ℕ) (Fs : List Form) → Filled t counts Fs rest → n < length Fs → r ≡ slice_index (row (slice_index_or Fs n no_form)) k

pub record BlockForm (t : List ℕ) (b r : ℕ) : Type 0 where
  pub is : (counts rest : List ℕ) (Fs : List Form) → Filled t counts Fs rest → b < length (blocks_of Fs) → r ≡ sort_number (get_or (blocks_of Fs) b no_block).sort

-- by the program
pub record FirstLine (t : List ℕ) (b r : ℕ) : Type 0 where
  pub is : (counts rest : List ℕ) (Fs : List Form) → Filled t counts Fs rest → r ≡ slice_index (first_lines 0 Fs) b

pub record KindFields (t : List ℕ) (n r : ℕ) : Type 0 where
  pub is : (P : Program) (counts rest : List ℕ) → Filled t counts (lines_of P) rest → n < length P.kinds → r ≡ (kind_at P n).fields

pub record KindMethod (t : List ℕ) (n i r : ℕ) : Type 0 where
  pub is : (P : Program) (counts rest : List ℕ) → Filled t counts (lines_of P) rest → n < length P.kinds
      → r ≡ slice_index (map suc (kind_at P n).methods) i
