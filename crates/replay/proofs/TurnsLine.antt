-- The turns line: its numbers stored one after the other, and what the whole of it comes to.
use Prim.Native.Nat.{ℕ, ◌+◌, ◌%◌, ◌≤◌, ◌<◌}
use native.Mathlib.Numerals.{add-one}
use native.Mathlib.Omega.{arith}
use mathlib.Core.Path.{◌≡◌, refl, sym, ap, ◌∙◌}
use mathlib.Core.Bool.{Bool, true, false, ◌||◌, cond}
use mathlib.Core.List.{List, [], ◌∷◌, ◌++◌, map}
use lib.Dec.{ltb}
use lib.ListN.{length, take, drop, get_or, set, length-append, length-drop, drop_of_length-le}
use lib.Seq.{drop-cons, take-suc-set}
use borrow.Author.Tests.{ltb-false}
use Rattle.rules.specs.Mosts as Most
use Rattle.rules.specs.Numbers as No
use Rattle.std.specs.Prelude.{◌≢◌}
use Rattle.rules.specs.Lists.{any}
use Rattle.rules.specs.Text.{bytes, space}
use Rattle.rules.specs.Templates.{Taken, took, unfit, digit_at, decimal, number, many, print_many, Part as TPart, character, many_numbers, Holds, fit, whole, print}
use Rattle.rules.specs.Input.{turns_t, fault, turns, turns_by, turns_of}
use Rattle.rules.proofs.ListLaws.{or_false, any_snoc}
use Rattle.rules.proofs.Printing.{says_of, number_front, fit_prints}
use Rattle.grammar.specs.Words.{begins}
use Rattle.grammar.proofs.Many.{ReadTo, read_none, read_inside, read_more, read_fails, read_all, number_shortens}
use Rattle.grammar.proofs.Told.{Fails, word, past, no_word, done, some_numbers, past_numbers, no_numbers}
use Rattle.grammar.specs.declared.parts.Part.{Part}
use Rattle.replay.specs.declared.turns_line.Numbers.{Numbers}
use Rattle.replay.specs.Told.{Stored}

-- ---- A number takes a byte at least

some_digit : (x l : List ℕ) → 1 ≤ length l → 1 ≤ length (x ++ l)
some_digit x l h = omega (arith, length-append x l)

decimal_some : (n : ℕ) → 1 ≤ length (decimal n)
unfolding decimal
decimal_some n =
    some_digit (digit_at 10000 n) _ (some_digit (digit_at 1000 n) _ (some_digit (digit_at 100 n) _ (some_digit (digit_at 10 n) _ (omega arith))))

number_further : (s : List ℕ) (at w e : ℕ) → number (drop at s) ≡ took w (drop e s) → at < e
number_further s at w e h =
    let text = (says_of (number_front (drop at s)) h).text in
    omega (arith, ap length text, length-append (decimal w) (drop e s), decimal_some w, length-drop at s, length-drop e s)

-- ---- The numbers, as far as they are read and stored

-- two bytes were read for each number
pub record StoredTo (s : List ℕ) (at : ℕ) (l : Numbers) (list : List ℕ) : Type 0 where
  pub numbers : List ℕ
  pub read : ReadTo number s at numbers l.end
  pub over : l.over ≡ any (ltb Most.number) numbers
  pub stored : l.over ≡ false → take l.count list ≡ numbers
  pub room : l.count + l.count ≤ l.end
  pub few : l.count ≤ 32768
  pub limit : l.end ≤ 65600

pub none_stored : {s list : List ℕ} {at : ℕ} {l : Numbers} → l.count ≡ 0 → l.over ≡ false → l.end ≡ at → at ≤ 65600 → StoredTo s at l list
unfolding any
none_stored {s} {list} {at} {l} count over end low = record {
  numbers = [];
  read = read_none end;
  over = over;
  stored = λ _. rw count;
  room = omega arith;
  few = omega arith;
  limit = omega arith;
}

-- b is the byte at the place
module _ {s list : List ℕ} {at b : ℕ} {l : Numbers} (S : StoredTo s at l list) (here : b ≡ get_or s l.end 0) where
  -- a space stands where the list goes on, so the list has room for the next number
  pub inside : b ≡ space → l.end < length s
  inside t = read_inside S.read here t

  pub room_left : b ≡ space → length s ≤ 65536 → l.count < 32768
  room_left t h = omega (arith, S.room, inside t)

  -- one number more: w is what was read, a the byte that is stored
  pub number_stored : b ≡ space → {w : Part} {a : ℕ} {m : Numbers} → number (drop (l.end + 1) s) ≡ took w.word (drop w.end s) → length s ≤ 65536 → w.end ≤ l.end + 1 + 3
      → l.count < length list → a ≡ w.word % 256 → m.count ≡ l.count + 1 → m.over ≡ (l.over || ltb Most.number w.word) → m.end ≡ w.end
      → StoredTo s at m (set list l.count a)
  number_stored t {w} {a} {m} fits short near inl ea count over end = record {
    numbers = S.numbers ++ (w.word ∷ []);
    read = rw end (read_more S.read here w.word number_shortens t fits);
    over = rw (over, S.over) (sym (any_snoc (ltb Most.number) S.numbers w.word));
    stored = λ f.
        let o = or_false l.over (ltb Most.number w.word) (sym over ∙ f) in
        let small = ltb-false Most.number w.word o.1 in
        let byte : a ≡ w.word = omega arith in
        rw (count, add-one, byte) (take-suc-set list l.count w.word inl ∙ ap (λ (k : List ℕ). k ++ (w.word ∷ [])) (S.stored o.0));
    room = omega (arith, S.room, number_further s (l.end + 1) w.word w.end fits);
    few = omega (arith, room_left t short);
    limit = omega (arith, inside t);
  }

  -- no number stands there
  pub none_fits : b ≡ space → number (drop (l.end + 1) s) ≡ unfit → many number (length (drop at s)) (drop at s) ≡ unfit
  none_fits t fails = read_fails S.read here number_shortens 0 t fails

  -- where no space stands, all of them are read
  pub all_stored : b ≢ space → Stored s at l list
  all_stored t = record { numbers = S.numbers; fits = read_all S.read here t; over = S.over; stored = S.stored }

-- ---- The line

-- whatever its parts are, they take eight bytes
eight_or_more : (l : List ℕ) → 8 ≤ length (bytes "(turns" ++ (l ++ bytes ")\n"))
eight_or_more l = omega (arith, length-append l (bytes ")\n"))

turns_long : (p : Holds turns_t) → 8 ≤ length (print turns_t p)
unfolding print
turns_long p = eight_or_more (print_many decimal p.0)

-- so no shorter text is one
pub turns_short : (s : List ℕ) (at : ℕ) → length s < 8 → turns_of (drop at s) ≡ fault No.malformed
unfolding turns_of
turns_short s at h = go (fit turns_t (drop at s)) refl
  where
    go : (x : Taken (Holds turns_t)) → fit turns_t (drop at s) ≡ x → turns_by (whole x) ≡ fault No.malformed
    go (took p l) e = absurd (omega (arith, ap length (fit_prints turns_t (drop at s) p l e), length-append (print turns_t p) l, turns_long p, length-drop at s))
    go unfit e = refl

module _ (s : List ℕ) (at : ℕ) where
  abbrev rest_t : List TPart
  rest_t = many_numbers ∷ (map character (bytes ")\n") ++ [])

  not_the_line : Fails turns_t s at → turns_of (drop at s) ≡ fault No.malformed
  unfolding turns_of
  not_the_line F = rw F.fails

  pub not_opened : {b : Bool} → b ≡ begins (bytes "(turns") (drop at s) → b ≡ false → turns_of (drop at s) ≡ fault No.malformed
  not_opened here none = not_the_line (no_word (bytes "(turns") rest_t (sym here ∙ none))

  module _ {b : Bool} (here : b ≡ begins (bytes "(turns") (drop at s)) (opened : b ≡ true) where
    begun : (begins (bytes "(turns") (drop at s) ≡ true) × (at + 6 ≡ at + 6)
    begun = (sym here ∙ opened, refl)

    pub none_numbered : many number (length (drop (at + 6) s)) (drop (at + 6) s) ≡ unfit → turns_of (drop at s) ≡ fault No.malformed
    none_numbered fails = not_the_line (past (bytes "(turns") begun (no_numbers fails))

    module _ {list : List ℕ} {r : Numbers} (N : Stored s (at + 6) r list) {e : Bool} (there : e ≡ begins (bytes ")\n") (drop r.end s)) where
      pub not_closed : e ≡ false → turns_of (drop at s) ≡ fault No.malformed
      not_closed none = not_the_line (past (bytes "(turns") begun (past_numbers N.fits (no_word (bytes ")\n") [] (sym there ∙ none))))

      module _ (closed : e ≡ true) where
        turns_fit : fit turns_t (drop at s) ≡ took (N.numbers, tt) (drop (r.end + 2) s)
        turns_fit = (word (bytes "(turns") begun (some_numbers N.fits (word (bytes ")\n") {e = r.end + 2} (sym there ∙ closed, refl) done))).fits

        pub goes_on : r.end + 2 < length s → turns_of (drop at s) ≡ fault No.malformed
        unfolding turns_of
        goes_on h = rw (turns_fit, drop-cons s (r.end + 2) 0 h) refl

        module _ (end : length s ≤ r.end + 2) where
          the_line : turns_of (drop at s) ≡ cond r.over (fault No.over_count) (turns N.numbers)
          unfolding turns_of
          the_line = rw (turns_fit, drop_of_length-le s {i = r.end + 2} end, N.over) refl

          pub too_high : r.over ≡ true → turns_of (drop at s) ≡ fault No.over_count
          too_high t = rw t at the_line

          pub all_told : r.over ≡ false → turns_of (drop at s) ≡ turns (take r.count list)
          all_told t = rw t at the_line ∙ ap turns (sym (N.stored t))
