-- What a line's words tell of its form: each form's row, its numbers over 255, its highest slot and whether it takes slot 0, computed.
use Rattle.std.proofs.Common.{ℕ, suc, ◌+◌, ◌/◌, ◌≤◌, max, arith, ◌≡◌, refl, sym, ap, ◌∙◌, Bool, false, ◌||◌, List, [], ◌∷◌, ◌++◌, map, ltb, eqb, length, get_or, take, replicate, ltb-false, le-ltb}
use Prim.{Unit}
use Rattle.std.proofs.Math.Nat.{max-zero}
use Rattle.std.proofs.Math.Bool.{or-false, or_assoc}
use Rattle.std.proofs.lemmas.List.{length-map}
use Rattle.rules.specs.Mosts as Most
use Rattle.rules.specs.Lists.{any, pad}
use Rattle.rules.specs.Script.{Operand, value, field, swap, call, new, cast, spawn, send, recv, copy, bind, give, thread, method, Form, kind, opens, line}
use Rattle.rules.specs.Reading.{slot_of, operands_in, targets_in, numbers_in, slots_in, takes_first, over255}
use Rattle.rules.specs.Tables.{operand_item, line_words, row, operand_of, cap_of}
use Rattle.rules.proofs.ListLaws.{by_bool, or_false}
use Rattle.rules.proofs.TableWords.{slot_of_word}
use Rattle.grammar.specs.Items.{past, Listed}
use Rattle.rules.specs.Forms.{form_number}
use Rattle.rules.specs.declared.forms.Form.{Form as FormName}
use Rattle.rules.specs.declared.forms.Form.TheVariants as N
use Rattle.grammar.specs.Decoded.{over_line, line_row, Tells, Opener, OperandLine, PlaceLine}
use Rattle.grammar.specs.declared.forms.Line.{Line}
use Rattle.grammar.specs.declared.parts.Items.{Items}
use Rattle.grammar.proofs.OperandWords.{operand_word_lem, operand_first, cap_rank}

-- ---- Lines of a fixed number of words

-- opens what a form says of itself
unfoldable what_forms_name : Unit {0}
unfolding row line_words pad over_line over255 slots_in targets_in operands_in numbers_in any past
what_forms_name = tt

-- the row of a short line
pub short_row : (r : Line) {form : FormName} {a b c : ℕ}
    → (r.form ≡ form) × (r.a ≡ a) × (r.b ≡ b) × (r.c ≡ c) × (r.d ≡ 0) × (r.e ≡ 0) × (r.f ≡ 0)
    → line_row r ≡ form_number form ∷ a ∷ b ∷ c ∷ 0 ∷ 0 ∷ 0 ∷ 0 ∷ []
short_row r e = rw (e.0, e.1, e.2, e.3, e.4, e.5, e.6)

-- where the whole row is known
tells : {r : Line} (F : Form) → line_row r ≡ row F → r.over ≡ over_line F → r.need ≡ past (slots_in F) → r.own ≡ any takes_first (operands_in F) → Tells r F
tells F w o n t = record { number = ap (λ (l : List ℕ). get_or l 0 0) w; part = ap (λ (l : List ℕ). get_or l 1 0) w; words = λ _. w; over = o; need = n; own = t }

module _ {w s : List ℕ} {at : ℕ} {r : Line} where
  pub thread_tells : Opener N.Thread w s at r → Tells r (opens thread)
  unfolding what_forms_name
  thread_tells R = tells (opens thread) R.words R.over R.need R.own

  pub method_tells : Opener N.Method w s at r → Tells r (opens method)
  unfolding what_forms_name
  method_tells R = tells (opens method) R.words R.over R.need R.own

  pub give_tells : (R : OperandLine N.Give w s at r) → Tells r (line (give R.operand))
  unfolding what_forms_name
  give_tells R = tells (line (give R.operand)) R.words (simp or-false R.over) (simp max-zero R.need) (simp or-false R.own)

  pub value_tells : (R : OperandLine N.Value w s at r) → Tells r (line (bind (value R.operand)))
  unfolding what_forms_name
  value_tells R = tells (line (bind (value R.operand))) R.words (simp or-false R.over) (simp max-zero R.need) (simp or-false R.own)

  pub swap_tells : (R : PlaceLine N.Swap w s at r) → Tells r (line (bind (swap R.target R.number R.operand)))
  unfolding what_forms_name
  swap_tells R = tells (line (bind (swap R.target R.number R.operand))) R.words (simp or-false R.over) (simp max-zero R.need) (simp or-false R.own)

  pub call_tells : (R : PlaceLine N.Call w s at r) → Tells r (line (bind (call R.target R.number R.operand)))
  unfolding what_forms_name
  call_tells R = tells (line (bind (call R.target R.number R.operand))) R.words (simp or-false R.over) (simp max-zero R.need) (simp or-false R.own)

module _ {r : Line} where
  pub field_tells : (s f : ℕ) → line_row r ≡ 6 ∷ s ∷ f ∷ 0 ∷ 0 ∷ 0 ∷ 0 ∷ 0 ∷ [] → r.over ≡ (ltb Most.number s || ltb Most.number f) → r.need ≡ s + 1 → r.own ≡ false
      → Tells r (line (bind (field s f)))
  unfolding what_forms_name
  field_tells s f w o n t = tells (line (bind (field s f))) w (simp or-false o) (simp max-zero n) t

  pub spawn_tells : (b : ℕ) → line_row r ≡ 11 ∷ b ∷ 0 ∷ 0 ∷ 0 ∷ 0 ∷ 0 ∷ 0 ∷ [] → r.over ≡ ltb Most.number b → r.need ≡ 0 → r.own ≡ false → Tells r (line (bind (spawn b)))
  unfolding what_forms_name
  spawn_tells b w o n t = tells (line (bind (spawn b))) w (simp or-false o) n t

  pub recv_tells : (s : ℕ) → line_row r ≡ 13 ∷ s ∷ 0 ∷ 0 ∷ 0 ∷ 0 ∷ 0 ∷ 0 ∷ [] → r.over ≡ ltb Most.number s → r.need ≡ s + 1 → r.own ≡ false → Tells r (line (bind (recv s)))
  unfolding what_forms_name
  recv_tells s w o n t = tells (line (bind (recv s))) w (simp or-false o) (simp max-zero n) t

  pub copy_tells : (k : ℕ) → k ≤ 3 → (s : ℕ) → line_row r ≡ 14 ∷ k ∷ s ∷ 0 ∷ 0 ∷ 0 ∷ 0 ∷ 0 ∷ [] → r.over ≡ ltb Most.number s → r.need ≡ s + 1 → r.own ≡ false
      → Tells r (line (bind (copy (cap_of k) s)))
  unfolding what_forms_name
  copy_tells k h s w o n t = tells (line (bind (copy (cap_of k) s))) (rw (cap_rank k h) w) (simp or-false o) (simp max-zero n) t

  -- with an operand, given by its word
  module _ (x : ℕ) (t : r.own ≡ eqb x 1) where
    pub cast_tells : (k : ℕ) → k ≤ 3 → line_row r ≡ 10 ∷ k ∷ x ∷ 0 ∷ 0 ∷ 0 ∷ 0 ∷ 0 ∷ [] → r.over ≡ ltb Most.number (x / 2) → r.need ≡ x / 2 + 1
        → Tells r (line (bind (cast (cap_of k) (operand_of x))))
    unfolding what_forms_name
    cast_tells k h w o n = tells (line (bind (cast (cap_of k) (operand_of x)))) (rw (cap_rank k h, operand_word_lem x) w)
        (rw (slot_of_word x) (simp or-false o)) (rw (slot_of_word x) (simp max-zero n)) (rw (operand_first x) (simp or-false t))

    pub send_tells : (s : ℕ) → line_row r ≡ 12 ∷ s ∷ x ∷ 0 ∷ 0 ∷ 0 ∷ 0 ∷ 0 ∷ [] → r.over ≡ (ltb Most.number s || ltb Most.number (x / 2)) → r.need ≡ max (s + 1) (x / 2 + 1)
        → Tells r (line (bind (send s (operand_of x))))
    unfolding what_forms_name
    send_tells s w o n = tells (line (bind (send s (operand_of x)))) (rw (operand_word_lem x) w)
        (rw (slot_of_word x) (simp or-false o)) (rw (slot_of_word x) (simp max-zero n)) (rw (operand_first x) (simp or-false t))

-- ---- Lines with a list

-- the words of at most four items, and what is left of the row
four_words_lem : (xs : List ℕ) → length xs ≤ 4
    → (take 5 (xs ++ replicate 8 0) ≡ pad 4 0 xs ++ (0 ∷ [])) × (take 6 (xs ++ replicate 8 0) ≡ pad 4 0 xs ++ (0 ∷ 0 ∷ []))
unfolding pad
four_words_lem [] h = (refl, refl)
four_words_lem (a ∷ []) h = (refl, refl)
four_words_lem (a ∷ b ∷ []) h = (refl, refl)
four_words_lem (a ∷ b ∷ c ∷ []) h = (refl, refl)
four_words_lem (a ∷ b ∷ c ∷ d ∷ []) h = (refl, refl)
four_words_lem (a ∷ b ∷ c ∷ d ∷ e ∷ xs) h = absurd (omega arith)

-- where the list is not over, it has at most four items
listed_few : {x : Items} {items numbers : List ℕ} → Listed x items numbers → x.over ≡ false → length items ≤ 4
listed_few {x} {items} {numbers} L h = ltb-false 4 (length items) (or_false (ltb 4 (length items)) (any (ltb Most.number) numbers) (sym L.over ∙ h)).0

-- more than four fields are over before a number of 256 is
fields_over : (f : ℕ) (a b : Bool) → (ltb Most.fields f || (a || b)) ≡ (ltb Most.fields f || (a || (ltb Most.number f || b)))
fields_over f a b = by_bool (ltb Most.fields f)
    (λ t. rw t)
    (λ t. let h = ltb-false Most.fields f t in rw (t, le-ltb Most.number f (omega arith)))

pub kind_tells : {r : Line} {x : Items} (f : ℕ) (ns : List ℕ) → Listed x (map suc ns) ns
    → line_row r ≡ 1 ∷ f ∷ x.a ∷ x.b ∷ x.c ∷ x.d ∷ 0 ∷ 0 ∷ [] → r.over ≡ (ltb Most.fields f || x.over) → r.need ≡ 0 → r.own ≡ false
    → Tells r (kind (record { fields = f; methods = ns }))
unfolding what_forms_name
kind_tells {r} {x} f ns L w o n t = record {
  number = ap (λ (l : List ℕ). get_or l 0 0) w;
  part = ap (λ (l : List ℕ). get_or l 1 0) w;
  words = λ h. w ∙ ap (λ (l : List ℕ). 1 ∷ f ∷ l) (ap (λ (l : List ℕ). l ++ (0 ∷ 0 ∷ [])) L.words
      ∙ sym (four_words_lem (map suc ns) (listed_few L (or_false (ltb Most.fields f) x.over (sym o ∙ h)).1)).1);
  over = o ∙ rw (L.over, length-map ns suc) (fields_over f (ltb 4 (length ns)) (any (ltb Most.number) ns));
  need = n;
  own = t;
}

pub new_tells : {r : Line} {x : Items} (k : ℕ) → k ≤ 3 → (n : ℕ) (ws : List Operand) → Listed x (map operand_item ws) (map slot_of ws)
    → line_row r ≡ 9 ∷ k ∷ n ∷ x.a ∷ x.b ∷ x.c ∷ x.d ∷ 0 ∷ [] → r.over ≡ (x.over || ltb Most.number n) → r.need ≡ past (map slot_of ws) → r.own ≡ any takes_first ws
    → Tells r (line (bind (new (cap_of k) n ws)))
unfolding what_forms_name
new_tells {r} {x} k h n ws L w o g t = record {
  number = ap (λ (l : List ℕ). get_or l 0 0) w;
  part = ap (λ (l : List ℕ). get_or l 1 0) w ∙ sym (cap_rank k h);
  words = λ e. w ∙ rw (cap_rank k h) (ap (λ (l : List ℕ). 9 ∷ k ∷ n ∷ l) (ap (λ (l : List ℕ). l ++ (0 ∷ [])) L.words
      ∙ sym (four_words_lem (map operand_item ws) (listed_few L (or_false x.over (ltb Most.number n) (sym o ∙ e)).0)).0));
  over = o ∙ rw (L.over, length-map ws operand_item, or-false) (or_assoc (ltb 4 (length ws)) (any (ltb Most.number) (map slot_of ws)) (ltb Most.number n));
  need = g;
  own = t;
}
