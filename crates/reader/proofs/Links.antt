-- Refusal 8 by the table's words: a line's number tells which of its words name something; the walk over the lines is the fold of document 01.
use Prim.Native.Nat.{ℕ, zero, suc, ◌+◌, ◌-◌, ◌*◌, ◌≤◌, ◌<◌, suc-le-suc}
use native.Mathlib.Numerals.{add-one}
use native.Mathlib.Decide.{dec_lt}
use native.Mathlib.Omega.{arith}
use mathlib.Core.Path.{◌≡◌, refl, sym, ap, ◌∙◌, subst}
use mathlib.Core.Bool.{Bool, true, false, not, ◌&&◌, ◌||◌, cond, or-false as or_none, or-true}
use mathlib.Core.List.{List, [], ◌∷◌, map}
use lib.Dec.{ltb, eqb, leb-zero, leb-suc-zero, leb-suc-suc, eqb-suc-zero}
use lib.ListN.{length, get_or, drop, drop_of_length-le}
use lib.Seq.{drop-cons}
use borrow.Author.Tests.{lt-ltb, le-ltb, ltb-false, eq-eqb, ne_eqb, eqb-true, eqb-false}
use native.Mathlib.Nat.{zero-add}
use Rattle.std.specs.Bool.{MatchBool}
use Rattle.std.specs.List.{AllWithin, HoldsAt, range_with_len, filter}
use Rattle.std.specs.Option.{MatchOption}
use Rattle.std.proofs.lemmas.List.FromFn.{length-range_with_len, get_or-range_with_len}
use Rattle.std.specs.Prelude.{Option, Some, None}
use Rattle.rules.specs.declared.Cap.{Cap}
use Rattle.rules.specs.Mosts as Most
use Rattle.rules.specs.Numbers as No
use Rattle.rules.specs.Lists.{any, pad, Every}
use Rattle.rules.specs.Script.{Operand, Expr, value, field, swap, call, new, cast, spawn, send, recv, copy, bind, give, Sort, thread, method, Kind, Form, kind, opens, line, Block, no_block, Program, blocks_of, let_lines, block_lines, kind_lines, lines_of, kind_at, block_at}
use Rattle.rules.specs.Reading.{operands_in, over255, same_sort, is_sort, dangles, opened, turned_away, accepted, link}
use Rattle.rules.specs.Tables.{operand_word, line_words, row}
use Rattle.rules.proofs.ListLaws.{by_bool, or_false, every_get, every_at}
use Rattle.table.specs.ProgramTable.{no_form, sort_number, LineWord, KindFields}
use Rattle.table.proofs.ProgramTable.{line_word_is as word_at}
use Rattle.table.proofs.ProgramLines.{blocks_of_lines, kind_stands, kind_there}
use Rattle.grammar.specs.Decoded.{over_line}
use Rattle.reader.specs.declared.counts.Counts.{Counts}
use Rattle.reader.specs.Linking.{Table, form_at, MethodDangles, KindDangles, NewDangles, Opened, LineDangles, FirstDangling}

-- ---- Tests

eqb_sym : (m n : ℕ) → eqb m n ≡ eqb n m
eqb_sym m n = by_bool (eqb n m) (λ t. rw t (eq-eqb m n (sym (eqb-true n m t)))) (λ t. rw t (ne_eqb m n (λ e. eqb-false n m t (sym e))))

-- ---- The lines of a program: first the kinds, then its blocks

abbrev NoKind : Form → Type 0
NoKind (kind K) = ⊥
NoKind (opens o) = Unit {0}
NoKind (line x) = Unit {0}

no_kind_in_lets : (es : List Expr) (Fs : List Form) → Every NoKind Fs → Every NoKind (let_lines es Fs)
unfolding let_lines
no_kind_in_lets [] Fs h = h
no_kind_in_lets (e ∷ es) Fs h = (tt, no_kind_in_lets es Fs h)

no_kind_in_blocks : (Bs : List Block) → Every NoKind (block_lines Bs)
unfolding block_lines
no_kind_in_blocks [] = tt
no_kind_in_blocks (B ∷ Bs) = (tt, no_kind_in_lets B.lets (line (give B.result) ∷ block_lines Bs) (tt, no_kind_in_blocks Bs))

kind_among_kinds : (Ks : List Kind) (Fs : List Form) (n : ℕ) (K : Kind) → Every NoKind Fs → get_or (kind_lines Ks Fs) n no_form ≡ kind K → n < length Ks
unfolding kind_lines
kind_among_kinds [] Fs n K h e = absurd (subst NoKind e (every_get NoKind Fs n no_form tt h))
kind_among_kinds (L ∷ Ks) Fs zero K h e = omega arith
kind_among_kinds (L ∷ Ks) Fs (suc n) K h e = suc-le-suc (kind_among_kinds Ks Fs n K h e)

-- ---- Blocks of a sort

sort_by_number : (o p : Sort) → eqb (sort_number o) (sort_number p) ≡ same_sort o p
unfolding same_sort
sort_by_number thread thread = refl
sort_by_number thread method = refl
sort_by_number method thread = refl
sort_by_number method method = refl

pub no_such_block : (P : Program) (o : Sort) (b : ℕ) → length P.blocks ≤ b → false ≡ is_sort P o b
unfolding is_sort
no_such_block P o b h = rw (le-ltb b (length P.blocks) h)

-- `is` is the number of block b's sort
pub sort_of_block : (P : Program) (o : Sort) (b is asked : ℕ) → b < length P.blocks → asked ≡ sort_number o
    → (b < length (blocks_of (lines_of P)) → is ≡ sort_number (get_or (blocks_of (lines_of P)) b no_block).sort) → eqb is asked ≡ is_sort P o b
unfolding is_sort block_at
sort_of_block P o b is asked h e read =
    let told : is ≡ sort_number (get_or P.blocks b no_block).sort = rw (blocks_of_lines P) at read h in
    rw (lt-ltb b (length P.blocks) h, told, e) (sort_by_number (get_or P.blocks b no_block).sort o)

-- ---- Methods of a kind

-- the words of a list of items: 0 after the last
item_words : (ms : List ℕ) (i : ℕ) → get_or (map suc ms) i 0 ≡ cond (ltb i (length ms)) (suc (get_or ms i 0)) 0
item_words [] i = rw (leb-suc-zero i)
item_words (m ∷ ms) zero = rw (leb-suc-suc 0 (length ms), leb-zero (length ms))
item_words (m ∷ ms) (suc i) = rw (leb-suc-suc (suc i) (length ms)) (item_words ms i)

abbrev pub no_method : Program → ℕ → Bool
no_method P i = not (is_sort P method i)

-- whether item i is there and passes a test
abbrev passes_at : (ℕ → Bool) → List ℕ → ℕ → Bool
passes_at f ms i = cond (ltb i (length ms)) (f (get_or ms i 0)) false

pub no_such_method : (f : ℕ → Bool) (ms : List ℕ) (i word : ℕ) → word ≡ get_or (map suc ms) i 0 → word ≡ 0 → false ≡ passes_at f ms i
no_such_method f ms i word e none =
    by_bool (ltb i (length ms))
    (λ t. absurd (let z : word ≡ suc (get_or ms i 0) = rw t at (e ∙ item_words ms i) in omega arith))
    (λ t. rw t)

pub method_named : (f : ℕ → Bool) (ms : List ℕ) (i word : ℕ) → word ≡ get_or (map suc ms) i 0 → (word ≡ 0 → ⊥) → f (word - 1) ≡ passes_at f ms i
method_named f ms i word e some =
    by_bool (ltb i (length ms))
    (λ t. let z : word - 1 ≡ get_or ms i 0 = let s : word ≡ suc (get_or ms i 0) = rw t at (e ∙ item_words ms i) in omega arith in rw (t, z))
    (λ t. absurd (some (rw t at (e ∙ item_words ms i))))

-- any of a list of at most four is the or of the first four
four_asked : (f : ℕ → Bool) (ms : List ℕ) → length ms ≤ 4 → (passes_at f ms 0 || (passes_at f ms 1 || (passes_at f ms 2 || passes_at f ms 3))) ≡ any f ms
unfolding any
four_asked f [] h = refl
four_asked f (a ∷ []) h = refl
four_asked f (a ∷ b ∷ []) h = refl
four_asked f (a ∷ b ∷ c ∷ []) h = refl
four_asked f (a ∷ b ∷ c ∷ d ∷ []) h = rw (or_none (f d))
four_asked f (a ∷ b ∷ c ∷ d ∷ e ∷ ms) h = absurd (omega arith)

-- one of the first four that passes is one of the list
any_here : (f : ℕ → Bool) (ms : List ℕ) (few : length ms ≤ 4) (i : ℕ) → i < 4 → passes_at f ms i ≡ true → any f ms ≡ true
any_here f ms few zero h e = sym (four_asked f ms few) ∙ rw e
any_here f ms few (suc zero) h e = sym (four_asked f ms few) ∙ rw e (or-true (passes_at f ms 0))
any_here f ms few (suc (suc zero)) h e = sym (four_asked f ms few) ∙ rw (e, or-true (passes_at f ms 1)) (or-true (passes_at f ms 0))
any_here f ms few (suc (suc (suc zero))) h e =
    sym (four_asked f ms few) ∙ rw (e, or-true (passes_at f ms 2), or-true (passes_at f ms 1)) (or-true (passes_at f ms 0))
any_here f ms few (suc (suc (suc (suc i)))) h e = absurd (omega arith)

none_here : (f : ℕ → Bool) (ms : List ℕ) (few : length ms ≤ 4) → ((i : ℕ) → i < 4 → passes_at f ms i ≡ false) → any f ms ≡ false
none_here f ms few h = sym (four_asked f ms few) ∙ rw (h 0 (omega arith), h 1 (omega arith), h 2 (omega arith), h 3 (omega arith))

-- whether one of the numbers below n passes a test
abbrev Asked : (Yes No : ℕ → Type 0) → (n : ℕ) → Bool → Type 0
Asked Yes No n true = (i : ℕ) × (i < n) × Yes i
Asked Yes No n false = (i : ℕ) → i < n → No i

asked_below : (Yes No : ℕ → Type 0) (n : ℕ) (r : Bool)
    → MatchBool r ((k : ℕ) × (k < length (range_with_len 0 n)) × HoldsAt Yes (range_with_len 0 n) k) (AllWithin No (range_with_len 0 n) 0 (length (range_with_len 0 n)))
    → Asked Yes No n r
asked_below Yes No n true (k, within, here) =
    let low : k < n = rw length-range_with_len at within in
    (k, low, subst Yes (get_or-range_with_len 0 n k 0 low ∙ zero-add k) (here 0))
asked_below Yes No n false all = λ i h. subst No (get_or-range_with_len 0 n i 0 h ∙ zero-add i) (all i 0 (omega arith) (rw length-range_with_len h))

-- ---- What a line's number tells

-- 1 for an item that is there
abbrev pub given : ℕ → ℕ
given w = cond (eqb w 0) 0 1

-- how many of the four words after a new's kind hold an operand
abbrev operand_count : List ℕ → ℕ
operand_count ws = given (get_or ws 3 0) + given (get_or ws 4 0) + given (get_or ws 5 0) + given (get_or ws 6 0)

operands_counted : (k : Cap) (i : ℕ) (ws : List Operand) → length ws ≤ 4 → operand_count (row (line (bind (new k i ws)))) ≡ length ws
unfolding row line_words pad
operands_counted k i [] h = refl
operands_counted k i (a ∷ []) h = rw (eqb-suc-zero (operand_word a))
operands_counted k i (a ∷ b ∷ []) h = rw (eqb-suc-zero (operand_word a), eqb-suc-zero (operand_word b))
operands_counted k i (a ∷ b ∷ c ∷ []) h = rw (eqb-suc-zero (operand_word a), eqb-suc-zero (operand_word b), eqb-suc-zero (operand_word c))
operands_counted k i (a ∷ b ∷ c ∷ d ∷ []) h = rw (eqb-suc-zero (operand_word a), eqb-suc-zero (operand_word b), eqb-suc-zero (operand_word c), eqb-suc-zero (operand_word d))
operands_counted k i (a ∷ b ∷ c ∷ d ∷ e ∷ ws) h = absurd (omega arith)

module _ (P : Program) (b : ℕ) where
  -- whether a new dangles, by its words
  abbrev NewTold : Form → Type 0
  NewTold F = over_line F ≡ false → dangles P b F ≡ not (ltb (get_or (row F) 2 0) (length P.kinds) && eqb (operand_count (row F)) (kind_at P (get_or (row F) 2 0)).fields)

  new_told : (k : Cap) (i : ℕ) (ws : List Operand) → NewTold (line (bind (new k i ws)))
  unfolding dangles over_line operands_in row line_words pad
  new_told k i ws small =
      let few : length ws ≤ Most.operands = ltb-false Most.operands (length ws) (or_false (ltb Most.operands (length ws)) (over255 (line (bind (new k i ws)))) small).0 in
      ap (λ m. not (ltb i (length P.kinds) && eqb m (kind_at P i).fields)) (sym (operands_counted k i ws few))

  -- what its number tells of a form: that it is a kind, or whether it dangles
  abbrev Told : ℕ → Form → Type 0
  Told n F =
      cond (eqb n 1) ((K : Kind) × (F ≡ kind K))
      (cond (eqb n 3) (dangles P b F ≡ eqb b 0)
      (cond (eqb n 9) (NewTold F)
      (cond (eqb n 11) (dangles P b F ≡ not (is_sort P thread (get_or (row F) 1 0))) (dangles P b F ≡ false))))

  told : (F : Form) → Told (get_or (row F) 0 0) F
  unfolding row line_words pad dangles
  told (kind K) = (K, refl)
  told (opens thread) = refl
  told (opens method) = refl
  told (line (give w)) = refl
  told (line (bind (value w))) = refl
  told (line (bind (field s f))) = refl
  told (line (bind (swap s f w))) = refl
  told (line (bind (call s i w))) = refl
  told (line (bind (new k i ws))) = new_told k i ws
  told (line (bind (cast k w))) = refl
  told (line (bind (spawn i))) = refl
  told (line (bind (send s w))) = refl
  told (line (bind (recv s))) = refl
  told (line (bind (copy k s))) = refl

  by_number : (F : Form) (n : ℕ) → n ≡ get_or (row F) 0 0 → Told n F
  by_number F n e = subst (λ m. Told m F) (sym e) (told F)

  pub method_line : (F : Form) (n : ℕ) → n ≡ get_or (row F) 0 0 → n ≡ 3 → eqb b 0 ≡ dangles P b F
  method_line F n e is = sym (rw is at (by_number F n e))

  pub spawn_line_lem : (F : Form) (n : ℕ) → n ≡ get_or (row F) 0 0 → n ≡ 11 → not (is_sort P thread (get_or (row F) 1 0)) ≡ dangles P b F
  spawn_line_lem F n e is = sym (rw is at (by_number F n e))

  pub other_line : (F : Form) (n : ℕ) → n ≡ get_or (row F) 0 0 → (n ≡ 1 → ⊥) → (n ≡ 3 → ⊥) → (n ≡ 9 → ⊥) → (n ≡ 11 → ⊥) → false ≡ dangles P b F
  other_line F n e no_kind no-method no-new no-spawn =
      sym (rw (ne_eqb n 1 no_kind, ne_eqb n 3 no-method, ne_eqb n 9 no-new, ne_eqb n 11 no-spawn) at (by_number F n e))

  module _ (F : Form) (small : over_line F ≡ false) (new-there : get_or (row F) 0 0 ≡ 9) (i : ℕ) (kind-is : i ≡ get_or (row F) 2 0) where
    new_line : dangles P b F ≡ not (ltb i (length P.kinds) && eqb (operand_count (row F)) (kind_at P i).fields)
    new_line = rw kind-is (subst (λ n. Told n F) new-there (told F) small)

    pub no_such_kind : length P.kinds ≤ i → true ≡ dangles P b F
    no_such_kind h = sym (rw (le-ltb i (length P.kinds) h) at new_line)

    pub fields_given : (fields w x y z : ℕ) → i < length P.kinds → fields ≡ (kind_at P i).fields
        → w ≡ given (get_or (row F) 3 0) → x ≡ given (get_or (row F) 4 0) → y ≡ given (get_or (row F) 5 0) → z ≡ given (get_or (row F) 6 0)
        → not (eqb fields (w + x + y + z)) ≡ dangles P b F
    fields_given fields w x y z h ef ew ex ey ez =
        rw (ef, ew, ex, ey, ez, eqb_sym (kind_at P i).fields (operand_count (row F)))
        (sym (rw (lt-ltb i (length P.kinds) h) at new_line))

-- ---- A table's lines

module _ {t : List ℕ} {P : Program} (table : Table t P) where
  pub small_line : (n : ℕ) → n < length (lines_of P) → over_line (form_at P n) ≡ false
  small_line n h = every_at (λ F. over_line F ≡ false) (lines_of P) n no_form h table.small

  pub line_word_is : {n k r : ℕ} → LineWord t n k r → n < length (lines_of P) → r ≡ get_or (row (form_at P n)) k 0
  line_word_is word h = word.is table.counts table.rest (lines_of P) table.filled h

  few_methods : (n : ℕ) → n < length P.kinds → length (kind_at P n).methods ≤ Most.methods
  unfolding over_line
  few_methods n h =
      let K = kind_at P n in
      let small : over_line (kind K) ≡ false = rw (kind_stands P n h) at (small_line n (kind_there P n h)) in
      let after = or_false (ltb Most.fields K.fields) (ltb Most.methods (length K.methods) || over255 (kind K)) small in
      ltb-false Most.methods (length K.methods) (or_false (ltb Most.methods (length K.methods)) (over255 (kind K)) after.1).0

  -- the word of a line, by its place
  word_is : (n k : ℕ) → n < length (lines_of P) → k < 8 → get_or t (72 + n * 8 + k) 0 ≡ get_or (row (form_at P n)) k 0
  word_is n k h c = word_at table.filled n k _ h c refl

-- a kind's methods, asked for one after the other
pub kind_asked : (t : List ℕ) (blocks n : ℕ) (r : Bool)
    → MatchBool r ((k : ℕ) × (k < length (range_with_len 0 4)) × HoldsAt (λ i. MethodDangles t blocks n i true) (range_with_len 0 4) k)
    (AllWithin (λ i. MethodDangles t blocks n i false) (range_with_len 0 4) 0 (length (range_with_len 0 4)))
    → KindDangles t blocks n r
kind_asked t blocks n r m = go r (asked_below (λ i. MethodDangles t blocks n i true) (λ i. MethodDangles t blocks n i false) 4 r m)
  where
    go : (r : Bool) → Asked (λ i. MethodDangles t blocks n i true) (λ i. MethodDangles t blocks n i false) 4 r → KindDangles t blocks n r
    go true (i, low, one) = record { is = λ P table e h. sym (any_here (no_method P) (kind_at P n).methods (few_methods table n h) i low (sym (one.is P table e h))) }
    go false none = record { is = λ P table e h. sym (none_here (no_method P) (kind_at P n).methods (few_methods table n h) (λ i low. sym ((none i low).is P table e h))) }

-- the words after a new's kind that hold an operand, counted
one_counted : (w : ℕ → ℕ) (k : ℕ) (ks : List ℕ) → length (filter (λ k. not (eqb (w k) 0)) (k ∷ ks)) ≡ given (w k) + length (filter (λ k. not (eqb (w k) 0)) ks)
one_counted w k ks = by_bool (eqb (w k) 0) (λ t. rw t (omega arith)) (λ t. rw t (omega arith))

abbrev pub counted : (t : List ℕ) (n : ℕ) → ℕ
counted t n = length (filter (λ k. not (eqb (get_or t (72 + n * 8 + k) 0) 0)) (range_with_len 3 4))

four_counted : (w : ℕ → ℕ) → length (filter (λ k. not (eqb (w k) 0)) (range_with_len 3 4)) ≡ given (w 3) + given (w 4) + given (w 5) + given (w 6)
four_counted w =
    one_counted w 3 (4 ∷ 5 ∷ 6 ∷ []) ∙ ap (λ m. given (w 3) + m)
    (one_counted w 4 (5 ∷ 6 ∷ []) ∙ ap (λ m. given (w 4) + m)
    (one_counted w 5 (6 ∷ []) ∙ ap (λ m. given (w 5) + m) (one_counted w 6 []))) ∙ omega arith

module _ {t : List ℕ} {kinds n kind : ℕ} (word : LineWord t n 2 kind) where
  pub kind_missing : kinds ≤ kind → NewDangles t kinds n true
  kind_missing past = record {
    is = λ P b table k h nine.
        no_such_kind P b (form_at P n) (small_line table n h) nine kind (line_word_is table word h) (rw k at past);
  }

  pub operands_told : {fields : ℕ} → kind < kinds → KindFields t kind fields → NewDangles t kinds n (not (eqb fields (counted t n)))
  operands_told {fields} small of = record {
    is = λ P b table k h nine.
        let there : kind < length P.kinds = rw k at small in
        ap (λ m. not (eqb fields m)) (four_counted (λ k. get_or t (72 + n * 8 + k) 0))
        ∙ fields_given P b (form_at P n) (small_line table n h) nine kind (line_word_is table word h) fields _ _ _ _ there
        (of.is P table.counts table.rest table.filled there)
        (ap given (word_is table n 3 h (omega arith))) (ap given (word_is table n 4 h (omega arith)))
        (ap given (word_is table n 5 h (omega arith))) (ap given (word_is table n 6 h (omega arith)));
  }

-- a kind in line n is kind n
pub kind_line : (P : Program) (n form : ℕ) → form ≡ get_or (row (form_at P n)) 0 0 → form ≡ 1 → n < length P.kinds
unfolding lines_of
kind_line P n form e is =
    let (K, here) : (K : Kind) × (form_at P n ≡ kind K) = rw is at (by_number P 0 (form_at P n) form e) in
    kind_among_kinds P.kinds (block_lines P.blocks) n K (no_kind_in_blocks P.blocks) here

pub kind_line_dangles : (P : Program) (b n : ℕ) → n < length P.kinds → any (no_method P) (kind_at P n).methods ≡ dangles P b (form_at P n)
unfolding dangles
kind_line_dangles P b n h = ap (dangles P b) (sym (kind_stands P n h))

-- ---- Blocks opened before a line

-- the line after the kinds opens the first block
line_after_kinds : (Ks : List Kind) (Fs : List Form) → get_or (kind_lines Ks Fs) (length Ks) no_form ≡ get_or Fs 0 no_form
unfolding kind_lines
line_after_kinds [] Fs = refl
line_after_kinds (K ∷ Ks) Fs = line_after_kinds Ks Fs

opens_first : (Bs : List Block) (b : ℕ) → 1 ≤ opened (get_or (block_lines Bs) 0 no_form) b
unfolding block_lines opened
opens_first [] b = omega arith
opens_first (B ∷ Bs) b = omega arith

first_opener : (P : Program) (b : ℕ) → 1 ≤ opened (form_at P (length P.kinds)) b
unfolding lines_of
first_opener P b = rw (line_after_kinds P.kinds (block_lines P.blocks)) (opens_first P.blocks b)

opened_more : (F : Form) (b : ℕ) → b ≤ opened F b
unfolding opened
opened_more (kind K) b = omega arith
opened_more (opens o) b = omega arith
opened_more (line x) b = omega arith

opened_by_kind : (P : Program) (n b : ℕ) → n < length P.kinds → opened (form_at P n) b ≡ b
unfolding opened
opened_by_kind P n b h = ap (λ F. opened F b) (kind_stands P n h)

-- one line more
one_more : (P : Program) (n b : ℕ) → Opened P n b → Opened P (suc n) (opened (form_at P n) b)
one_more P n b o = record {
  none = λ h. opened_by_kind P n b h ∙ o.none (omega arith);
  some = λ h. by_bool (eqb n (length P.kinds))
      (λ t. rw (eqb-true n (length P.kinds) t) (first_opener P b))
      (λ t. let k = eqb-false n (length P.kinds) t in let m = o.some (omega arith) in let q = opened_more (form_at P n) b in omega arith);
}

-- so a method opens the first block where its line is the one after the kinds
pub first_method : (P : Program) (n b form : ℕ) → form ≡ get_or (row (form_at P n)) 0 0 → form ≡ 3 → Opened P n b → eqb n (length P.kinds) ≡ eqb b 0
unfolding row line_words pad
first_method P n b form e is o = by_bool (eqb n (length P.kinds))
    (λ t. let k = eqb-true n (length P.kinds) t in rw (t, o.none (omega arith)))
    (λ t. let k = eqb-false n (length P.kinds) t in rw t (sym (ne_eqb b 0 (λ z. go k z (dec_lt n (length P.kinds))))))
  where
    go : (n ≡ length P.kinds → ⊥) → b ≡ 0 → Dec (n < length P.kinds) → ⊥
    go k z (yes h) = let one : form ≡ 1 = e ∙ ap (λ F. get_or (row F) 0 0) (kind_stands P n h) in omega arith
    go k z (no h) = let m = o.some (omega arith) in omega arith

-- ---- The walk

-- before line n no line dangled
pub record Reached (P : Program) (n : ℕ) : Type 0 where
  blocks : ℕ
  opened_so_far : Opened P n blocks
  links : link P 0 0 (lines_of P) ≡ link P blocks n (drop n (lines_of P))

pub record LinkedTo (t : List ℕ) (c : Counts) (n : ℕ) : Type 0 where
  pub is : (P : Program) → Table t P → c.kinds ≡ length P.kinds → c.blocks ≡ length P.blocks → c.lines ≡ length (lines_of P) → Reached P n

pub at_first_line : (t : List ℕ) (c : Counts) → LinkedTo t c 0
at_first_line t c = record {
  is = λ P table k l m. record { blocks = 0; opened_so_far = record { none = λ h. refl; some = λ h. absurd (omega arith) }; links = refl };
}

one_line : (P : Program) (b n : ℕ) → n < length (lines_of P)
    → link P b n (drop n (lines_of P)) ≡ cond (dangles P b (form_at P n)) (turned_away No.dangling n) (link P (opened (form_at P n) b) (suc n) (drop (suc n) (lines_of P)))
unfolding link
one_line P b n h = ap (link P b n) (drop-cons (lines_of P) n no_form h)

no_line : (P : Program) (b n : ℕ) → length (lines_of P) ≤ n → link P b n (drop n (lines_of P)) ≡ accepted P
unfolding link
no_line P b n h = ap (link P b n) (drop_of_length-le (lines_of P) h)

module _ {t : List ℕ} {c : Counts} {n : ℕ} (so_far : LinkedTo t c n) where
  pub line_found : {r : Bool} → LineDangles t c.kinds c.blocks n r → r ≡ true → n < c.lines → FirstDangling t c (Some n)
  line_found tells e h = record {
    is = λ P table k l m.
        let s = so_far.is P table k l m in
        let there : n < length (lines_of P) = rw m at h in
        s.links ∙ one_line P s.blocks n there ∙ rw (sym (tells.is P s.blocks table k l there s.opened_so_far) ∙ e);
  }

  pub line_passed : {r : Bool} → LineDangles t c.kinds c.blocks n r → r ≡ false → n < c.lines → LinkedTo t c (n + 1)
  line_passed tells e h = record {
    is = λ P table k l m.
        let s = so_far.is P table k l m in
        let there : n < length (lines_of P) = rw m at h in
        record {
          blocks = opened (form_at P n) s.blocks;
          opened_so_far = rw (add-one n) (one_more P n s.blocks s.opened_so_far);
          links = s.links ∙ one_line P s.blocks n there ∙ rw (sym (tells.is P s.blocks table k l there s.opened_so_far) ∙ e, add-one n);
        };
  }

  pub no_line_left : c.lines ≤ n → FirstDangling t c None
  no_line_left h = record {
    is = λ P table k l m.
        let s = so_far.is P table k l m in
        s.links ∙ no_line P s.blocks n (rw m at h);
  }

-- before a line none dangled
pub linked_to : (t : List ℕ) (c : Counts) (n : ℕ) → n ≤ c.lines → ((k : ℕ) → k < n → LineDangles t c.kinds c.blocks k false) → LinkedTo t c n
linked_to t c zero h none = at_first_line t c
linked_to t c (suc n) h none =
    rw (← add-one n) (line_passed (linked_to t c n (omega arith) (λ k l. none k (omega arith))) (none n (omega arith)) refl (omega arith))

-- the first of the numbers below n that passes a test, if one does
abbrev Found : (Yes No : ℕ → Type 0) → (n : ℕ) → Option ℕ → Type 0
Found Yes No n None = (k : ℕ) → k < n → No k
Found Yes No n (Some x) = Yes x × (x < n) × ((k : ℕ) → k < x → No k)

found_below : (Yes No : ℕ → Type 0) (n : ℕ) (r : Option ℕ)
    → MatchOption r (AllWithin No (range_with_len 0 n) 0 (length (range_with_len 0 n)))
    (λ x. Yes x × (i : ℕ) × (i < length (range_with_len 0 n)) × HoldsAt (λ y. y ≡ x) (range_with_len 0 n) i × AllWithin No (range_with_len 0 n) 0 i)
    → Found Yes No n r
found_below Yes No n None all = λ k h. subst No (get_or-range_with_len 0 n k 0 h ∙ zero-add k) (all k 0 (omega arith) (rw length-range_with_len h))
found_below Yes No n (Some x) (passes, i, within, here, before) =
    let low : i < n = rw length-range_with_len at within in
    let same : i ≡ x = omega (arith, get_or-range_with_len 0 n i 0 low, here 0) in
    (passes, omega arith, λ k h. subst No (get_or-range_with_len 0 n k 0 (omega arith) ∙ zero-add k) (before k 0 (omega arith) (omega arith)))

-- the lines asked one after the other, up to the first that dangles
pub first_found : (t : List ℕ) (c : Counts) (r : Option ℕ)
    → MatchOption r (AllWithin (λ n. LineDangles t c.kinds c.blocks n false) (range_with_len 0 c.lines) 0 (length (range_with_len 0 c.lines)))
    (λ x. LineDangles t c.kinds c.blocks x true × (i : ℕ) × (i < length (range_with_len 0 c.lines)) × HoldsAt (λ y. y ≡ x) (range_with_len 0 c.lines) i
    × AllWithin (λ n. LineDangles t c.kinds c.blocks n false) (range_with_len 0 c.lines) 0 i)
    → FirstDangling t c r
first_found t c r m = go r (found_below (λ n. LineDangles t c.kinds c.blocks n true) (λ n. LineDangles t c.kinds c.blocks n false) c.lines r m)
  where
    go : (r : Option ℕ) → Found (λ n. LineDangles t c.kinds c.blocks n true) (λ n. LineDangles t c.kinds c.blocks n false) c.lines r → FirstDangling t c r
    go None none = no_line_left (linked_to t c c.lines (omega arith) none) (omega arith)
    go (Some n) (dangling, below, none) = line_found (linked_to t c n (omega arith) none) dangling refl below
