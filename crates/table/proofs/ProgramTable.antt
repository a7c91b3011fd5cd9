-- The program table's words: where each part stands, and what a write of a line, of an opener or of the counts makes of the table.
use Rattle.std.proofs.Common.{◌≡◌, ℕ, zero, suc, ◌+◌, ◌*◌, ◌<◌, ◌≤◌, Bool, true, eqb, List, [], ◌∷◌, ◌++◌, length, get_or, take, drop, set, sym, refl, ap, ◌∙◌, append_assoc, append-nil, le_of_suc-le-suc, not-suc-le-zero, add-zero, add_assoc, add-suc, suc-mul, add_comm, suc-add, zero-add, zero-mul, add-one, arith, length-append, length-set, take_at, eq-eqb, eqb-true}
use Rattle.std.proofs.Math.ListN.{length-replicate, get_or-append, get_or-eq_default}
use Rattle.std.proofs.Math.Seq.{set-append_left, sets-eq}
use Rattle.std.proofs.lemmas.Bool.{false≢true}
use Rattle.rules.specs.Mosts as Most
use Rattle.rules.specs.Mosts.{mosts}
use Rattle.rules.specs.Lists.{pad, cells}
use Rattle.rules.specs.Script.{Sort, thread, method, Form, kind, opens, line, blocks_of, Program, lines_of}
use Rattle.rules.specs.Tables.{line_words, row, first_lines, edition_word, used_program_words, program_words}
use Rattle.rules.proofs.ListLaws.{by_bool, and_true, length_snoc, length_pad, pad_front, length_cells, get_past, set_past, get_cell, cells_snoc, get_pad, set_pad, pad_more, pad_snoc}
use Rattle.table.specs.ProgramTable.{fresh_table, line_table, Filled, no_form, sort_number, Same, same_words, LineCount, UsedWords, EditionIs, LineWord, FirstLine}

-- eight words written one after the other
pub eight_set : {A : Type 0} (t : List A) (p : ℕ) (a b c d e f g h : A) → p + 8 ≤ length t
    → set (set (set (set (set (set (set (set t p a) (p + 1) b) (p + 2) c) (p + 3) d) (p + 4) e) (p + 5) f) (p + 6) g) (p + 7) h
    ≡ take p t ++ ((a ∷ b ∷ c ∷ d ∷ e ∷ f ∷ g ∷ h ∷ []) ++ drop (p + 8) t)
eight_set t p a b c d e f g h l =
    rw (add-suc p 6, add-suc p 5, add-suc p 4, add-suc p 3, add-suc p 2, add-suc p 1, add-one p)
    (sets-eq (a ∷ b ∷ c ∷ d ∷ e ∷ f ∷ g ∷ h ∷ []) t p l ∙ append_assoc (take p t) _ _)

-- ---- The parts of the table

pub fresh_length : length fresh_table ≡ Most.words
unfolding fresh_table
fresh_length = length-replicate {A = ℕ} Most.words 0

-- the words before the zeros at the end
unfoldable used_words : List ℕ → List Form → List ℕ
used_words counts Fs = pad 8 0 counts ++ (pad mosts.blocks 0 (first_lines 0 Fs) ++ cells row Fs)

row_length : (F : Form) → length (row F) ≡ 8
unfolding row
row_length F = length_pad 8 0 (line_words F)

pub opener_row : (o : Sort) → sort_number o ∷ 0 ∷ 0 ∷ 0 ∷ 0 ∷ 0 ∷ 0 ∷ 0 ∷ [] ≡ row (opens o)
unfolding row line_words pad
opener_row thread = refl
opener_row method = refl

used_length : (counts : List ℕ) (Fs : List Form) → length (used_words counts Fs) ≡ 72 + length Fs * 8
unfolding used_words
used_length counts Fs = simp (length-append, length_pad, length_cells row 8 row_length) (omega arith)

-- the zeros at the end are made up
table_is : (counts : List ℕ) (Fs : List Form) → line_table counts Fs ≡ pad Most.words 0 (used_words counts Fs)
unfolding line_table used_words
table_is counts Fs = refl

table_words : {t counts rest : List ℕ} {Fs : List Form} → Filled t counts Fs rest → t ≡ pad Most.words 0 (used_words counts Fs) ++ rest
table_words {counts} {rest} {Fs} filled = filled.words ∙ ap (λ l. l ++ rest) (table_is counts Fs)

pub program_words_by_lines : (P : Program) → program_words P ≡ line_table (length P.kinds ∷ length P.blocks ∷ length (lines_of P) ∷ edition_word P.edition ∷ []) (lines_of P)
unfolding program_words used_program_words line_table
program_words_by_lines P = refl

-- made up with zeros again, the words that are used are the table
used_words_are : {t counts rest : List ℕ} {Fs : List Form} (r : ℕ) → Filled t counts Fs rest → r ≡ 72 + length Fs * 8 → pad Most.words 0 (take r t) ≡ take Most.words t
used_words_are {t} {counts} {rest} {Fs} r filled e =
    let us = used_words counts Fs in
    let long : length us ≡ r = used_length counts Fs ∙ sym e in
    let few : length us ≤ Most.words = omega (arith, long, e, filled.lines) in
    let whole : take Most.words t ≡ pad Most.words 0 us = ap (take Most.words) (table_words filled) ∙ take_at (pad Most.words 0 us) rest Most.words (length_pad Most.words 0 us) in
    let front : take r t ≡ us =
    ap (take r) (table_words filled ∙ ap (λ (l : List ℕ). l ++ rest) (pad_front Most.words 0 us few) ∙ append_assoc us _ rest) ∙ take_at us _ r long in
    ap (pad Most.words 0) front ∙ sym whole

-- by the number of lines
module _ {t : List ℕ} {n : ℕ} (counted : LineCount t n) where
  pub too_many_lines : 672 < n → UsedWords t 8192
  too_many_lines h = record { is = λ counts rest Fs filled lines. absurd (omega (arith, counted.is counts rest Fs filled, lines, filled.lines)) }

  pub used_by_lines : UsedWords t (72 + n * 8)
  used_by_lines = record { is = λ counts rest Fs filled lines. used_words_are (72 + n * 8) filled (ap (λ (k : ℕ). 72 + k * 8) (counted.is counts rest Fs filled ∙ lines)) }

-- ---- All words compared

pub same_words_same : (l : List ℕ) → same_words l l ≡ true
unfolding same_words
same_words_same [] = refl
same_words_same (x ∷ l) = rw (eq-eqb x x refl) (same_words_same l)

same_words_true : (l k : List ℕ) → same_words l k ≡ true → l ≡ k
unfolding same_words
same_words_true [] [] h = refl
same_words_true [] (y ∷ k) h = absurd (false≢true h)
same_words_true (x ∷ l) [] h = absurd (false≢true h)
same_words_true (x ∷ l) (y ∷ k) h =
    let both = and_true (eqb x y) (same_words l k) h in
    rw (eqb-true x y both.0, same_words_true l k both.1) refl

-- what a comparison answers is the test
pub same_is : {t words : List ℕ} {r : Bool} → Same t words r → r ≡ same_words (take Most.words t) words
same_is {t} {words} {r} told = by_bool r
    (λ yes. yes ∙ sym (rw (told.same yes) (same_words_same words)))
    (λ no. by_bool (same_words (take Most.words t) words)
    (λ same. absurd (told.other no (same_words_true (take Most.words t) words same)))
    (λ other. no ∙ sym other))

-- ---- The first lines of blocks

first_lines_append : (n : ℕ) (Fs Gs : List Form) → first_lines n (Fs ++ Gs) ≡ first_lines n Fs ++ first_lines (n + length Fs) Gs
unfolding first_lines
first_lines_append n [] Gs = rw (add-zero n)
first_lines_append n (kind K ∷ Fs) Gs = rw (add-suc n (length Fs), ← suc-add n (length Fs)) (first_lines_append (suc n) Fs Gs)
first_lines_append n (opens o ∷ Fs) Gs = rw (add-suc n (length Fs), ← suc-add n (length Fs)) (ap (suc n ∷◌) (first_lines_append (suc n) Fs Gs))
first_lines_append n (line x ∷ Fs) Gs = rw (add-suc n (length Fs), ← suc-add n (length Fs)) (first_lines_append (suc n) Fs Gs)

-- one for each block
first_lines_length : (n : ℕ) (Fs : List Form) → length (first_lines n Fs) ≡ length (blocks_of Fs)
unfolding first_lines blocks_of
first_lines_length n [] = refl
first_lines_length n (kind K ∷ Fs) = first_lines_length (suc n) Fs
first_lines_length n (opens o ∷ Fs) = ap suc (first_lines_length (suc n) Fs)
first_lines_length n (line x ∷ Fs) = first_lines_length (suc n) Fs

-- a line more is a block more where it has a first line
pub blocks_more : (Fs : List Form) (F : Form) → length (blocks_of (Fs ++ (F ∷ []))) ≡ length (blocks_of Fs) + length (first_lines (length Fs) (F ∷ []))
blocks_more Fs F =
    sym (first_lines_length 0 (Fs ++ (F ∷ []))) ∙ ap length (first_lines_append 0 Fs (F ∷ [])) ∙ length-append (first_lines 0 Fs) _
    ∙ rw (first_lines_length 0 Fs, zero-add (length Fs))

-- ---- Reading

module _ {t counts rest : List ℕ} {Fs : List Form} (filled : Filled t counts Fs rest) where
  used_word : (i : ℕ) → i < Most.words → get_or t i 0 ≡ get_or (used_words counts Fs) i 0
  used_word i h =
      ap (λ l. get_or l i 0) (table_words filled)
      ∙ get_or-append (pad Most.words 0 (used_words counts Fs)) rest 0 i (rw (length_pad Most.words 0 (used_words counts Fs)) h)
      ∙ get_pad Most.words 0 (used_words counts Fs) i h

  -- the counts stand first
  pub count_is : (i : ℕ) → i < 8 → get_or t i 0 ≡ get_or counts i 0
  unfolding used_words
  count_is i h =
      used_word i (omega arith)
      ∙ get_or-append (pad 8 0 counts) _ 0 i (rw (length_pad 8 0 counts) h)
      ∙ get_pad 8 0 counts i h

  -- word k of line n
  pub line_word_is : (n k i : ℕ) → n < length Fs → k < 8 → i ≡ 72 + n * 8 + k → get_or t i 0 ≡ get_or (row (get_or Fs n no_form)) k 0
  unfolding used_words
  line_word_is n k i h l e =
      let place : i ≡ 8 + (64 + (n * 8 + k)) = omega arith in
      used_word i (omega (arith, filled.lines)) ∙ ap (λ j. get_or (used_words counts Fs) j 0) place
      ∙ get_past (pad 8 0 counts) _ 8 (64 + (n * 8 + k)) 0 (length_pad 8 0 counts)
      ∙ get_past (pad mosts.blocks 0 (first_lines 0 Fs)) _ 64 (n * 8 + k) 0 (length_pad mosts.blocks 0 (first_lines 0 Fs))
      ∙ get_cell row 8 row_length Fs no_form n k h l

  -- past the last line there are zeros
  pub past_lines : (n i : ℕ) → length Fs ≤ n → n < 672 → i ≡ 72 + n * 8 → get_or t i 0 ≡ 0
  past_lines n i h few e =
      used_word i (omega arith) ∙ get_or-eq_default (used_words counts Fs) 0 (omega (arith, used_length counts Fs))

  pub first_line_is : (b : ℕ) → b < mosts.blocks → get_or t (8 + b) 0 ≡ get_or (first_lines 0 Fs) b 0
  unfolding used_words
  first_line_is b h =
      used_word (8 + b) (omega arith)
      ∙ get_past (pad 8 0 counts) _ 8 b 0 (length_pad 8 0 counts)
      ∙ get_or-append (pad mosts.blocks 0 (first_lines 0 Fs)) (cells row Fs) 0 b (rw (length_pad mosts.blocks 0 (first_lines 0 Fs)) h)
      ∙ get_pad mosts.blocks 0 (first_lines 0 Fs) b h

-- each word, where it stands
module _ (t : List ℕ) where
  pub line_count_read : LineCount t (get_or t 2 0)
  line_count_read = record { is = λ counts rest Fs filled. count_is filled 2 (omega arith) }

  pub edition_read : EditionIs t (get_or t 3 0)
  edition_read = record { is = λ counts rest Fs filled. count_is filled 3 (omega arith) }

  pub line_word_read : (n k : ℕ) → k < 8 → LineWord t n k (get_or t (72 + n * 8 + k) 0)
  line_word_read n k lt = record { is = λ counts rest Fs filled there. line_word_is filled n k _ there lt refl }

  pub first_line_read : (b : ℕ) → b < mosts.blocks → FirstLine t b (get_or t (8 + b) 0)
  first_line_read b h = record { is = λ counts rest Fs filled. first_line_is filled b h }

-- ---- Writing

-- the words with a line more: those before it and its own
line_more : (counts : List ℕ) (Fs : List Form) (F : Form) → first_lines (length Fs) (F ∷ []) ≡ [] → used_words counts Fs ++ row F ≡ used_words counts (Fs ++ (F ∷ []))
unfolding used_words
line_more counts Fs F none =
    let firsts : first_lines 0 (Fs ++ (F ∷ [])) ≡ first_lines 0 Fs =
    first_lines_append 0 Fs (F ∷ []) ∙ rw (zero-add (length Fs), none) (append-nil (first_lines 0 Fs)) in
    rw (firsts, cells_snoc row Fs F) (simp append_assoc)

-- and where it opens a block, the block's first line
opener_more : (counts : List ℕ) (Fs : List Form) (o : Sort) → length (blocks_of Fs) < mosts.blocks
    → set (used_words counts Fs ++ row (opens o)) (8 + length (blocks_of Fs)) (length Fs + 1) ≡ used_words counts (Fs ++ (opens o ∷ []))
unfolding used_words first_lines
opener_more counts Fs o few =
    let one_each = first_lines_length 0 Fs in
    let head = pad 8 0 counts in
    let firsts = pad mosts.blocks 0 (first_lines 0 Fs) in
    let written : set firsts (length (blocks_of Fs)) (length Fs + 1) ≡ pad mosts.blocks 0 (first_lines 0 (Fs ++ (opens o ∷ []))) =
    rw (← one_each, ← pad_snoc mosts.blocks 0 (first_lines 0 Fs) _ (length Fs + 1) refl (omega arith), first_lines_append 0 Fs (opens o ∷ []), zero-add (length Fs), add-one (length Fs)) in
    ap (λ l. set l (8 + length (blocks_of Fs)) (length Fs + 1)) (append_assoc head _ (row (opens o)) ∙ ap (head ++◌) (append_assoc firsts (cells row Fs) (row (opens o))))
    ∙ set_past head _ 8 (length (blocks_of Fs)) (length Fs + 1) (length_pad 8 0 counts)
    ∙ ap (head ++◌) (set-append_left firsts _ (length (blocks_of Fs)) (length Fs + 1) (rw (length_pad mosts.blocks 0 (first_lines 0 Fs)) few))
    ∙ rw (written, cells_snoc row Fs (opens o))

-- a word in use is written
used_set : (us rest : List ℕ) (i v : ℕ) → length us ≤ Most.words → i < length us → set (pad Most.words 0 us ++ rest) i v ≡ pad Most.words 0 (set us i v) ++ rest
used_set us rest i v few h =
    set-append_left (pad Most.words 0 us) rest i v (omega (arith, length_pad Most.words 0 us)) ∙ ap (λ l. l ++ rest) (set_pad Most.words 0 us i v h (omega arith))

counts_more : (Fs : List Form) (kinds blocks lines edition : ℕ)
    → set (set (set (set (used_words [] Fs) 0 kinds) 1 blocks) 2 lines) 3 edition ≡ used_words (kinds ∷ blocks ∷ lines ∷ edition ∷ []) Fs
unfolding used_words pad
counts_more Fs kinds blocks lines edition = refl

module _ {t counts rest : List ℕ} {Fs : List Form} (filled : Filled t counts Fs rest) (n : ℕ) (here : n ≡ length Fs) (room : n < 672) where
  line_written : (F : Form) (words : List ℕ) → words ≡ row F
      → take (72 + n * 8) t ++ (words ++ drop (80 + n * 8) t) ≡ pad Most.words 0 (used_words counts Fs ++ row F) ++ rest
  line_written F words same =
      ap (λ (l : List ℕ). take (72 + n * 8) t ++ (l ++ drop (80 + n * 8) t)) same
      ∙ ap (λ (l : List ℕ). take (72 + n * 8) l ++ (row F ++ drop (80 + n * 8) l)) (table_words filled)
      ∙ pad_more Most.words 0 (used_words counts Fs) (row F) rest (72 + n * 8) (80 + n * 8) (omega (arith, used_length counts Fs)) (omega (arith, row_length F)) (omega arith)

  pub line_added : (F : Form) (words t' : List ℕ) → t' ≡ take (72 + n * 8) t ++ (words ++ drop (80 + n * 8) t) → words ≡ row F → first_lines n (F ∷ []) ≡ []
      → Filled t' counts (Fs ++ (F ∷ [])) rest
  line_added F words t' e same none =
      let no-first : first_lines (length Fs) (F ∷ []) ≡ [] = rw here at none in
      record {
        words = e ∙ line_written F words same ∙ rw (line_more counts Fs F no-first, table_is counts (Fs ++ (F ∷ [])));
        lines = omega (arith, length_snoc Fs F);
        blocks = omega (arith, blocks_more Fs F, ap length no-first, filled.blocks);
      }

  pub opener_added : (o : Sort) (b form : ℕ) (t' : List ℕ)
      → t' ≡ set (take (72 + n * 8) t ++ ((form ∷ 0 ∷ 0 ∷ 0 ∷ 0 ∷ 0 ∷ 0 ∷ 0 ∷ []) ++ drop (80 + n * 8) t)) (8 + b) (n + 1)
      → b ≡ length (blocks_of Fs) → b < mosts.blocks → form ≡ sort_number o → Filled t' counts (Fs ++ (opens o ∷ [])) rest
  unfolding first_lines
  opener_added o b form t' e next few same =
      let used : List ℕ = used_words counts Fs ++ row (opens o) in
      let long : length used ≡ 80 + length Fs * 8 = omega (arith, length-append (used_words counts Fs) (row (opens o)), used_length counts Fs, row_length (opens o)) in
      let written : set used (8 + b) (n + 1) ≡ used_words counts (Fs ++ (opens o ∷ [])) = rw (next, here) (opener_more counts Fs o (omega arith)) in
      record {
        words =
            e ∙ ap (λ l. set l (8 + b) (n + 1)) (line_written (opens o) _ (ap (λ w. w ∷ 0 ∷ 0 ∷ 0 ∷ 0 ∷ 0 ∷ 0 ∷ 0 ∷ []) same ∙ opener_row o)) ∙ used_set used rest (8 + b) (n + 1) (omega arith) (omega arith)
            ∙ rw (written, table_is counts (Fs ++ (opens o ∷ [])));
        lines = omega (arith, length_snoc Fs (opens o));
        blocks = omega (arith, blocks_more Fs (opens o));
      }

pub counts_added : {t rest : List ℕ} {Fs : List Form} → Filled t [] Fs rest → (kinds blocks lines edition : ℕ) (t' : List ℕ)
    → t' ≡ set (set (set (set t 0 kinds) 1 blocks) 2 lines) 3 edition → Filled t' (kinds ∷ blocks ∷ lines ∷ edition ∷ []) Fs rest
counts_added {t} {rest} {Fs} filled kinds blocks lines edition t' e =
    let used : List ℕ = used_words [] Fs in
    let long : length used ≡ 72 + length Fs * 8 = used_length [] Fs in
    let few = filled.lines in
    record {
      words =
          e ∙ ap (λ l. set (set (set (set l 0 kinds) 1 blocks) 2 lines) 3 edition) (table_words filled)
          ∙ ap (λ l. set (set (set l 1 blocks) 2 lines) 3 edition) (used_set used rest 0 kinds (omega arith) (omega arith))
          ∙ ap (λ l. set (set l 2 lines) 3 edition) (used_set (set used 0 kinds) rest 1 blocks (simp length-set (omega arith)) (simp length-set (omega arith)))
          ∙ ap (λ l. set l 3 edition) (used_set (set (set used 0 kinds) 1 blocks) rest 2 lines (simp length-set (omega arith)) (simp length-set (omega arith)))
          ∙ used_set (set (set (set used 0 kinds) 1 blocks) 2 lines) rest 3 edition (simp length-set (omega arith)) (simp length-set (omega arith))
          ∙ rw (counts_more Fs kinds blocks lines edition, table_is (kinds ∷ blocks ∷ lines ∷ edition ∷ []) Fs);
      lines = filled.lines;
      blocks = filled.blocks;
    }

-- ---- A word of a line

-- of record i
set_cell : {A : Type 0} (f : A → List ℕ) (w : ℕ) → ((a : A) → length (f a) ≡ w) → (xs : List A) (d : A) (i j v : ℕ) (x : A)
    → i < length xs → j < w → set (f (get_or xs i d)) j v ≡ f x → set (cells f xs) (i * w + j) v ≡ cells f (set xs i x)
unfolding cells
set_cell f w e [] d i j v x hi hj becomes = absurd (not-suc-le-zero hi)
set_cell f w e (y ∷ xs) d zero j v x hi hj becomes =
    rw (zero-mul w, zero-add j) (set-append_left (f y) (cells f xs) j v (rw (e y) hj) ∙ ap (λ (l : List ℕ). l ++ cells f xs) becomes)
set_cell f w e (y ∷ xs) d (suc i) j v x hi hj becomes =
    rw (suc-mul i w, add_comm (i * w) w, add_assoc w (i * w) j)
    (set_past (f y) (cells f xs) w (i * w + j) v (e y) ∙ ap (f y ++◌) (set_cell f w e xs d i j v x (le_of_suc-le-suc hi) hj becomes))

-- a line in another's place, before which and after which the blocks are the same
first_lines_set : (Fs : List Form) (n m : ℕ) (G : Form) → ((k : ℕ) (Gs : List Form) → first_lines k (G ∷ Gs) ≡ first_lines k (get_or Fs n no_form ∷ Gs))
    → first_lines m (set Fs n G) ≡ first_lines m Fs
unfolding first_lines
first_lines_set [] n m G same = refl
first_lines_set (F ∷ Fs) zero m G same = same m Fs
first_lines_set (kind K ∷ Fs) (suc n) m G same = first_lines_set Fs n (suc m) G same
first_lines_set (opens o ∷ Fs) (suc n) m G same = ap (suc m ∷◌) (first_lines_set Fs n (suc m) G same)
first_lines_set (line x ∷ Fs) (suc n) m G same = first_lines_set Fs n (suc m) G same

module _ {t counts rest : List ℕ} {Fs : List Form} (filled : Filled t counts Fs rest) where
  -- word k of line n written, with which it is G
  pub line_word_set : (n k i v : ℕ) (G : Form) → n < length Fs → k < 8 → i ≡ 72 + n * 8 + k → set (row (get_or Fs n no_form)) k v ≡ row G
      → ((m : ℕ) (Gs : List Form) → first_lines m (G ∷ Gs) ≡ first_lines m (get_or Fs n no_form ∷ Gs)) → Filled (set t i v) counts (set Fs n G) rest
  unfolding used_words
  line_word_set n k i v G there low e becomes same =
      let firsts = first_lines_set Fs n 0 G same in
      let head = pad 8 0 counts in
      let blocks = pad mosts.blocks 0 (first_lines 0 Fs) in
      let place : i ≡ 8 + (64 + (n * 8 + k)) = omega arith in
      let written : set (used_words counts Fs) i v ≡ used_words counts (set Fs n G) =
      ap (λ j. set (head ++ (blocks ++ cells row Fs)) j v) place ∙ set_past head (blocks ++ cells row Fs) 8 (64 + (n * 8 + k)) v (length_pad 8 0 counts)
      ∙ ap (head ++◌) (set_past blocks (cells row Fs) 64 (n * 8 + k) v (length_pad mosts.blocks 0 (first_lines 0 Fs)) ∙ ap (blocks ++◌) (set_cell row 8 row_length Fs no_form n k v G there low becomes))
      ∙ rw firsts in
      record {
        words =
            ap (λ l. set l i v) (table_words filled)
            ∙ used_set (used_words counts Fs) rest i v (omega (arith, used_length counts Fs, filled.lines)) (omega (arith, used_length counts Fs))
            ∙ rw (written, table_is counts (set Fs n G));
        lines = omega (arith, length-set Fs n G, filled.lines);
        blocks = omega (arith, first_lines_length 0 (set Fs n G), ap length firsts, first_lines_length 0 Fs, filled.blocks);
      }
