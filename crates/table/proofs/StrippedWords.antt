-- Stripping changes one word of a line that names a capability, and of an object the first; done one after the other, that makes the words of the stripped
-- program and of the erased state.
use Rattle.std.proofs.Common.{◌≡◌, ℕ, zero, suc, ◌+◌, ◌*◌, ◌<◌, ◌≤◌, true, false, ltb, List, [], ◌∷◌, ◌++◌, map, length, get_or, set, sym, refl, ap, ◌∙◌, subst, ap₂, true≢false, le_of_suc-le-suc, not-suc-le-zero, arith, ltb-false}
use Rattle.std.proofs.Math.ListN.{length-map, get_or-eq_default}
use Rattle.std.proofs.Math.Seq.{set-get_or}
use Rattle.std.proofs.lemmas.Bool.{false≢true}
use Rattle.rules.specs.Mosts.{mosts}
use Rattle.rules.specs.Forms.{form_of}
use Rattle.rules.specs.Lists.{pad}
use Rattle.rules.specs.Script.{Expr, value, field, swap, call, new, cast, spawn, send, recv, copy, bind, give, thread, method, Kind, Form, kind, opens, line, Block, Program, let_lines, block_lines, kind_lines, lines_of}
use Rattle.rules.specs.State.{Object, State, object_at, no_object}
use Rattle.rules.specs.Turn.{put_objects}
use Rattle.rules.specs.Stripped.{strip_expr, strip_block, strip, erase_object, erase}
use Rattle.rules.specs.Tables.{line_words, row, first_lines, edition_word, program_words, object_words}
use Rattle.rules.proofs.ListLaws.{by_bool, below}
use Rattle.table.specs.ProgramTable.{line_table, Filled, no_form}
use Rattle.table.specs.StateTable.{Counted, Becomes, Any}
use Rattle.table.specs.StrippedTables.{names_cap, strip_form, LineStripped, Strips, erased_at}
use Rattle.table.proofs.ProgramTable.{program_words_by_lines, line_word_is, past_lines, line_word_set}
use Rattle.table.proofs.ProgramLines.{blocks_of_lines}
use Rattle.table.proofs.StateTable.{part_set, held_by, object_part, object_put}
use Rattle.table.proofs.StateReads.{object_there}

-- ---- The first n of a list changed, one after the other

unfoldable pub changed : {A : Type 0} → (A → A) → ℕ → List A → List A
changed f zero xs = xs
changed f (suc n) [] = []
changed f (suc n) (x ∷ xs) = f x ∷ changed f n xs

changed_next : {A : Type 0} (f : A → A) (n : ℕ) (xs : List A) (d : A) → set (changed f n xs) n (f (get_or (changed f n xs) n d)) ≡ changed f (suc n) xs
unfolding changed
changed_next f zero [] d = refl
changed_next f zero (x ∷ xs) d = refl
changed_next f (suc n) [] d = refl
changed_next f (suc n) (x ∷ xs) d = ap (f x ∷◌) (changed_next f n xs d)

changed_all : {A : Type 0} (f : A → A) (n : ℕ) (xs : List A) → length xs ≤ n → changed f n xs ≡ map f xs
unfolding changed
changed_all f zero [] h = refl
changed_all f zero (x ∷ xs) h = absurd (not-suc-le-zero h)
changed_all f (suc n) [] h = refl
changed_all f (suc n) (x ∷ xs) h = ap (f x ∷◌) (changed_all f n xs (le_of_suc-le-suc h))

-- ---- A line

-- one that names a capability has its word after that of its form
row_stripped : (F : Form) → names_cap (form_of (get_or (row F) 0 0)) ≡ true → set (row F) 1 3 ≡ row (strip_form F)
unfolding row line_words pad strip_form strip_expr
row_stripped (kind K) h = absurd (false≢true h)
row_stripped (opens thread) h = absurd (false≢true h)
row_stripped (opens method) h = absurd (false≢true h)
row_stripped (line (give w)) h = absurd (false≢true h)
row_stripped (line (bind (value w))) h = absurd (false≢true h)
row_stripped (line (bind (field s f))) h = absurd (false≢true h)
row_stripped (line (bind (swap s f w))) h = absurd (false≢true h)
row_stripped (line (bind (call s i w))) h = absurd (false≢true h)
row_stripped (line (bind (new k n ws))) h = refl
row_stripped (line (bind (cast k w))) h = refl
row_stripped (line (bind (spawn b))) h = absurd (false≢true h)
row_stripped (line (bind (send s w))) h = absurd (false≢true h)
row_stripped (line (bind (recv s))) h = absurd (false≢true h)
row_stripped (line (bind (copy k s))) h = refl

-- any other is as it was
form_kept : (F : Form) → names_cap (form_of (get_or (row F) 0 0)) ≡ false → strip_form F ≡ F
unfolding row line_words pad strip_form strip_expr
form_kept (kind K) h = refl
form_kept (opens o) h = refl
form_kept (line (give w)) h = refl
form_kept (line (bind (value w))) h = refl
form_kept (line (bind (field s f))) h = refl
form_kept (line (bind (swap s f w))) h = refl
form_kept (line (bind (call s i w))) h = refl
form_kept (line (bind (new k n ws))) h = absurd (true≢false h)
form_kept (line (bind (cast k w))) h = absurd (true≢false h)
form_kept (line (bind (spawn b))) h = refl
form_kept (line (bind (send s w))) h = refl
form_kept (line (bind (recv s))) h = refl
form_kept (line (bind (copy k s))) h = absurd (true≢false h)

same_opener : (F : Form) (m : ℕ) (Gs : List Form) → first_lines m (strip_form F ∷ Gs) ≡ first_lines m (F ∷ Gs)
unfolding strip_form first_lines
same_opener (kind K) m Gs = refl
same_opener (opens o) m Gs = refl
same_opener (line (bind e)) m Gs = refl
same_opener (line (give w)) m Gs = refl

module _ {t : List ℕ} (n w : ℕ) (few : n < 672) (is : w ≡ get_or t (72 + n * 8 + 0) 0) where
  -- the form's word of line n, or 0 past the last
  form_word : {counts rest : List ℕ} {Fs : List Form} → Filled t counts Fs rest → n < length Fs → w ≡ get_or (row (get_or Fs n no_form)) 0 0
  form_word filled there = is ∙ line_word_is filled n 0 _ there (omega arith) refl

  no_word : {counts rest : List ℕ} {Fs : List Form} → Filled t counts Fs rest → length Fs ≤ n → w ≡ 0
  no_word filled past = is ∙ past_lines filled n _ past few (omega arith)

  pub line_stripped : (i : ℕ) → i ≡ 73 + n * 8 → names_cap (form_of w) ≡ true → LineStripped n t (set t i 3)
  line_stripped i e names = record {
    strips = λ counts rest Fs filled. by_bool (ltb n (length Fs))
        (λ t.
        let F : Form = get_or Fs n no_form in
        let its : names_cap (form_of (get_or (row F) 0 0)) ≡ true = rw (form_word filled (below t)) at names in
        line_word_set filled n 1 i 3 (strip_form F) (below t) (omega arith) (omega arith) (row_stripped F its) (same_opener F))
        (λ t. let none : names_cap (form_of 0) ≡ true = rw (no_word filled (ltb-false n (length Fs) t)) at names in absurd (false≢true none));
  }

  pub line_kept : names_cap (form_of w) ≡ false → LineStripped n t t
  unfolding strip_form
  line_kept names = record {
    strips = λ counts rest Fs filled.
        let F : Form = get_or Fs n no_form in
        let kept : strip_form F ≡ F = by_bool (ltb n (length Fs))
        (λ t. form_kept F (rw (form_word filled (below t)) at names))
        (λ t. rw (get_or-eq_default Fs no_form (ltb-false n (length Fs) t)) refl) in
        subst (λ (Gs : List Form). Filled t counts Gs rest) (sym (ap (set Fs n) kept ∙ set-get_or Fs n no_form)) filled;
  }

-- ---- All lines

-- the first n of them
pub record StripsFirst (n : ℕ) (t t₁ : List ℕ) : Type 0 where
  pub strips : (counts rest : List ℕ) (Fs : List Form) → Filled t counts Fs rest → Filled t₁ counts (changed strip_form n Fs) rest

pub none_stripped : (t : List ℕ) → StripsFirst 0 t t
unfolding changed
none_stripped t = record { strips = λ counts rest Fs filled. filled }

pub one_line_more : {n : ℕ} {t t₁ t₂ : List ℕ} → StripsFirst n t t₁ → LineStripped n t₁ t₂ → StripsFirst (suc n) t t₂
one_line_more {n} {t₂ = t₂} first next = record {
  strips = λ counts rest Fs filled.
      subst (λ (Gs : List Form). Filled t₂ counts Gs rest) (changed_next strip_form n Fs no_form) (next.strips counts rest (changed strip_form n Fs) (first.strips counts rest Fs filled));
}

lets_stripped : (es : List Expr) (Fs : List Form) → let_lines (map strip_expr es) (map strip_form Fs) ≡ map strip_form (let_lines es Fs)
unfolding let_lines strip_form
lets_stripped [] Fs = refl
lets_stripped (e ∷ es) Fs = ap (line (bind (strip_expr e)) ∷◌) (lets_stripped es Fs)

blocks_stripped : (Bs : List Block) → block_lines (map strip_block Bs) ≡ map strip_form (block_lines Bs)
unfolding block_lines strip_block strip_form
blocks_stripped [] = refl
blocks_stripped (B ∷ Bs) =
    ap (opens B.sort ∷◌) (
    ap (λ (Fs : List Form). let_lines (map strip_expr B.lets) (line (give B.result) ∷ Fs)) (blocks_stripped Bs)
    ∙ lets_stripped B.lets (line (give B.result) ∷ block_lines Bs)
    )

kinds_stripped : (Ks : List Kind) (Fs : List Form) → kind_lines Ks (map strip_form Fs) ≡ map strip_form (kind_lines Ks Fs)
unfolding kind_lines strip_form
kinds_stripped [] Fs = refl
kinds_stripped (K ∷ Ks) Fs = ap (kind K ∷◌) (kinds_stripped Ks Fs)

-- the lines of the stripped script are those of the script, stripped
pub lines_stripped : (P : Program) → lines_of (strip P) ≡ map strip_form (lines_of P)
unfolding lines_of strip
lines_stripped P = ap (kind_lines P.kinds) (blocks_stripped P.blocks) ∙ kinds_stripped P.kinds (block_lines P.blocks)

module _ {t t₁ : List ℕ} (all : StripsFirst 672 t t₁) where
  lines_become : (P : Program) (counts rest : List ℕ) → Filled t counts (lines_of P) rest → Filled t₁ counts (lines_of (strip P)) rest
  lines_become P counts rest filled =
      subst (λ (Fs : List Form). Filled t₁ counts Fs rest) (changed_all strip_form 672 (lines_of P) filled.lines ∙ sym (lines_stripped P)) (all.strips counts rest (lines_of P) filled)

  words_become : (P : Program) (rest : List ℕ) → length (lines_of P) ≤ 672 → length P.blocks ≤ mosts.blocks → t ≡ program_words P ++ rest → t₁ ≡ program_words (strip P) ++ rest
  unfolding strip
  words_become P rest few_lines few_blocks e =
      let counts : List ℕ = length P.kinds ∷ length P.blocks ∷ length (lines_of P) ∷ edition_word P.edition ∷ [] in
      let filled : Filled t counts (lines_of P) rest = record {
        words = e ∙ ap (λ (l : List ℕ). l ++ rest) (program_words_by_lines P);
        lines = few_lines;
        blocks = omega (arith, ap length (blocks_of_lines P));
      } in
      let blocks : length (map strip_block P.blocks) ≡ length P.blocks = length-map P.blocks strip_block in
      let lines : length (lines_of (strip P)) ≡ length (lines_of P) = ap length (lines_stripped P) ∙ length-map (lines_of P) strip_form in
      let same : program_words (strip P) ≡ line_table counts (lines_of (strip P)) =
      program_words_by_lines (strip P)
      ∙ ap₂ (λ (b l : ℕ). line_table (length P.kinds ∷ b ∷ l ∷ edition_word P.edition ∷ []) (lines_of (strip P))) blocks lines in
      (lines_become P counts rest filled).words ∙ ap (λ (l : List ℕ). l ++ rest) (sym same)

  pub all_stripped : Strips t t₁
  all_stripped = record { lines = lines_become; words = words_become }

-- ---- Objects

-- the capability is an object's first word
first_word : (n : ℕ) (o : Object) → set (object_words n o) 0 3 ≡ object_words n (erase_object o)
unfolding object_words erase_object
first_word n o = refl

-- past the last one there is none
none_to_erase : (os : List Object) (n : ℕ) → length os ≤ n → set os n (erase_object (object_at os n)) ≡ os
unfolding object_at erase_object
none_to_erase os n past =
    let none : get_or os n no_object ≡ no_object = get_or-eq_default os no_object past in
    ap (λ (o : Object). set os n (erase_object o)) none ∙ ap (set os n) (sym none) ∙ set-get_or os n no_object

module _ {l rest : List ℕ} {N : ℕ → ℕ} {S : State} (held : Counted l N S rest) (o : ℕ) where
  pub object_erased : (i : ℕ) → o < 256 → i ≡ 8 + o * 8 → o < length S.objects → Counted (set l i 3) N (erased_at o S) rest
  unfolding erased_at
  object_erased i o< e there =
      let old : Object = object_at S.objects o in
      let part = rw (object_there S.objects o there) at (object_part held o o<) in
      held_by ((part_set part 0 i 3 (omega arith) (omega arith)).is ∙ rw (first_word (N o) old)) (object_put held o (erase_object old) o< there)

  pub object_kept : length S.objects ≤ o → Counted l N (erased_at o S) rest
  unfolding erased_at put_objects
  object_kept past = subst (λ (os : List Object). Counted l N (put_objects S os) rest) (sym (none_to_erase S.objects o past)) held

-- ---- All objects

-- the first n of them
pub record ErasesFirst (n : ℕ) (s s₁ : List ℕ) : Type 0 where
  pub erases : {N : ℕ → ℕ} (S : State) (rest : List ℕ) → Counted s N S rest → Counted s₁ N (put_objects S (changed erase_object n S.objects)) rest

pub none_erased : (s : List ℕ) → ErasesFirst 0 s s
unfolding changed put_objects
none_erased s = record { erases = λ S rest held. held }

pub one_object_more : {n : ℕ} {s s₁ s₂ : List ℕ} → ErasesFirst n s s₁ → Becomes s₁ Any (erased_at n) s₂ → ErasesFirst (suc n) s s₂
unfolding erased_at put_objects object_at
one_object_more {n} {s₂ = s₂} first next = record {
  erases = λ {N} S rest held.
      subst (λ (os : List Object). Counted s₂ N (put_objects S os) rest) (changed_next erase_object n S.objects no_object)
      (next.becomes (put_objects S (changed erase_object n S.objects)) rest (first.erases S rest held) tt);
}

pub all_erased : {s s₁ : List ℕ} → ErasesFirst 256 s s₁ → Becomes s (λ S. length S.objects ≤ mosts.objects) erase s₁
unfolding erase put_objects
all_erased {s₁ = s₁} all = record {
  becomes = λ {N} S rest held few.
      subst (λ (os : List Object). Counted s₁ N (put_objects S os) rest) (changed_all erase_object 256 S.objects few) (all.erases S rest held);
}
