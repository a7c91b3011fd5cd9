-- A list of items in four words: one item more is set at its place, or it is past the fourth and only the excess is noted.
use Rattle.std.proofs.Common.{ℕ, suc, ◌+◌, ◌≤◌, ◌<◌, max, arith, ◌≡◌, sym, ap, ◌∙◌, Bool, true, ◌||◌, List, [], ◌∷◌, ◌++◌, map, ltb, length, set, lt-ltb, le-ltb}
use Rattle.std.proofs.lemmas.List.{map-append}
use Rattle.rules.specs.Mosts as Most
use Rattle.rules.specs.Lists.{any}
use Rattle.rules.proofs.ListLaws.{length_snoc, any_snoc, pad_snoc, pad_cut}
use Rattle.grammar.specs.Items.{Listed, Adds, past}
use Rattle.grammar.specs.declared.parts.Items.{Items}

-- ---- One more at the end

past_snoc : (ns : List ℕ) (n : ℕ) → past (ns ++ (n ∷ [])) ≡ max (past ns) (n + 1)
unfolding past
past_snoc [] n = omega arith
past_snoc (m ∷ ns) n = omega (arith, past_snoc ns n)

-- ---- One item more

abbrev four_words : Items → List ℕ
four_words l = l.a ∷ l.b ∷ l.c ∷ l.d ∷ []

-- one of the first four is set at its place; `big` says that its number exceeds 255
pub adds_item : {l r : Items} {item number : ℕ} {big : Bool} (k : ℕ) → k < 4 → l.n ≡ k → r.n ≡ suc k → four_words r ≡ set (four_words l) k item
    → big ≡ ltb Most.number number → r.over ≡ (l.over || big) → Adds l item number r
adds_item {l} {r} {item} {number} k few n≡ n'≡ words≡ big≡ over≡ = record { adds = one_more }
  where
    one_more : (items numbers : List ℕ) → Listed l items numbers → Listed r (items ++ (item ∷ [])) (numbers ++ (number ∷ []))
    one_more items numbers L =
        let count = L.count in
        let same = L.same in
        record {
          count = omega (arith, length_snoc items item);
          words = words≡ ∙ ap (λ (ws : List ℕ). set ws k item) L.words ∙ sym (pad_snoc 4 0 items k item (omega arith) few);
          over = over≡ ∙ rw (big≡, L.over, length_snoc items item, le-ltb 4 (length items) (omega arith), le-ltb 4 (length items + 1) (omega arith), any_snoc (ltb Most.number) numbers number);
          same = omega (arith, length_snoc items item, length_snoc numbers number);
        }

-- past the fourth only the excess is noted
pub adds_excess : {l r : Items} {item number : ℕ} → 4 ≤ l.n → r.n ≡ l.n → four_words r ≡ four_words l → r.over ≡ true → Adds l item number r
adds_excess {l} {r} {item} {number} full n≡ words≡ over≡ = record { adds = one_more }
  where
    one_more : (items numbers : List ℕ) → Listed l items numbers → Listed r (items ++ (item ∷ [])) (numbers ++ (number ∷ []))
    one_more items numbers L =
        let count = L.count in
        let same = L.same in
        record {
          count = omega (arith, length_snoc items item);
          words = words≡ ∙ L.words ∙ sym (pad_cut 4 0 items (item ∷ []) (omega arith));
          over = over≡ ∙ rw (lt-ltb 4 (length (items ++ (item ∷ []))) (omega (arith, length_snoc items item)));
          same = omega (arith, length_snoc items item, length_snoc numbers number);
        }

-- ---- One part more, of which the words, the slots and whether one takes slot 0 are kept

-- r keeps the words of `next`
pub listed_more : {A : Type 0} (item number : A → ℕ) {l next r : Items} {x y : ℕ} (ws : List A) (a : A) → Listed l (map item ws) (map number ws)
    → Adds l x y next → x ≡ item a → y ≡ number a → r.n ≡ next.n → four_words r ≡ four_words next → r.over ≡ next.over
    → Listed r (map item (ws ++ (a ∷ []))) (map number (ws ++ (a ∷ [])))
listed_more item number {x = x} {y} ws a L next x≡ y≡ n≡ words≡ over≡ =
    let N = next.adds (map item ws) (map number ws) L in
    let items≡ : map item ws ++ (x ∷ []) ≡ map item (ws ++ (a ∷ [])) = rw (map-append item ws (a ∷ []), x≡) in
    let numbers≡ : map number ws ++ (y ∷ []) ≡ map number (ws ++ (a ∷ [])) = rw (map-append number ws (a ∷ []), y≡) in
    rw (← items≡, ← numbers≡) (record { count = n≡ ∙ N.count; words = words≡ ∙ N.words; over = over≡ ∙ N.over; same = N.same })

pub past_more : {A : Type 0} (number : A → ℕ) {m y : ℕ} (ws : List A) (a : A) → m ≡ past (map number ws) → y ≡ number a
    → max m (y + 1) ≡ past (map number (ws ++ (a ∷ [])))
past_more number ws a m≡ y≡ = rw (map-append number ws (a ∷ []), past_snoc (map number ws) (number a), m≡, y≡)

pub any_more : {A : Type 0} (test : A → Bool) {b t : Bool} (ws : List A) (a : A) → b ≡ any test ws → t ≡ test a → (b || t) ≡ any test (ws ++ (a ∷ []))
any_more test ws a b≡ t≡ = rw (any_snoc test ws a, b≡, t≡)
