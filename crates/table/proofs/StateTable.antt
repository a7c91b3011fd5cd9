-- The state table's words: where each record stands, and what a record written in its place makes of the state.
use Rattle.std.proofs.Common.{◌≡◌, ℕ, zero, suc, ◌+◌, ◌-◌, ◌*◌, ◌<◌, ◌≤◌, List, [], ◌∷◌, ◌++◌, length, get_or, take, drop, set, replicate, sym, refl, ap, ◌∙◌, append_assoc, append-nil, le_of_suc-le-suc, not-suc-le-zero, add-zero, add_assoc, suc-mul, add_comm, zero-add, zero-mul, arith, length-append, length-drop, length-set, drop_of_length-le, length-take-le}
use Rattle.std.proofs.Math.ListN.{get_or-append, get_or-eq_default}
use Rattle.std.proofs.Math.Seq.{take-append-le, take-append-add, drop-append-le, drop-append-add, set-append_left, set_at}
use Rattle.rules.specs.Mosts as Most
use Rattle.rules.specs.Lists.{pad, cells}
use Rattle.rules.specs.State.{Object, Frame, Sender, ready, Thread, no_thread, Channel, empty_channel, State, thread_at, channel_at}
use Rattle.rules.specs.Turn.{put_thread, put_objects, put_channel, started}
use Rattle.rules.specs.Tables.{unmade, no_frame, object_words, object_cells, frame_words, sender_word, outermost_first, thread_words, channel_words, used_state_words, counted_words}
use Rattle.rules.specs.declared.Value.TheVariants.{Chan}
use Rattle.rules.proofs.ListLaws.{length_snoc, length_pad, pad_front, length_records, get_past, set_past, get_pad, set_pad, set_pad_same, pad_snoc, pad_made_up}
use Rattle.rules.proofs.TableWords.{object_words_length, objects_length, frame_words_length, thread_words_length, channel_words_length, counted_words_length, used_state_words_length, length_outermost}
use Rattle.table.specs.StateTable.{Counted, frame_at, on_frame, edit_frame, HasFrame, Innermost, inner_less}
use Rattle.table.proofs.StateEdits.{length_edited, outermost_edited}

-- ---- A part of a list, replaced

unfoldable pub splice : List ℕ → ℕ → List ℕ → List ℕ
splice l at ys = take at l ++ (ys ++ drop (at + length ys) l)

length_splice : (l ys : List ℕ) (at : ℕ) → at + length ys ≤ length l → length (splice l at ys) ≡ length l
unfolding splice
length_splice l ys at h =
    length-append (take at l) (ys ++ drop (at + length ys) l)
    ∙ omega (arith, length-take-le at l (omega arith), length-append ys (drop (at + length ys) l), length-drop (at + length ys) l)

-- a part past the first list, a part of the first list
splice_past : (p q : List ℕ) (b at : ℕ) (ys : List ℕ) → length p ≡ b → splice (p ++ q) (b + at) ys ≡ p ++ splice q at ys
unfolding splice
splice_past p q b at ys e =
    rw (← e, take-append-add p q at, add_assoc (length p) at (length ys), drop-append-add p q (at + length ys)) (append_assoc p (take at q) _)

splice_before : (p q : List ℕ) (at : ℕ) (ys : List ℕ) → at + length ys ≤ length p → splice (p ++ q) at ys ≡ splice p at ys ++ q
unfolding splice
splice_before p q at ys h =
    rw (take-append-le at p q (omega arith), drop-append-le (at + length ys) p q h) (simp append_assoc)

splice_between : (p q r : List ℕ) (b at : ℕ) (ys : List ℕ) → length p ≡ b → at + length ys ≤ length q
    → splice (p ++ (q ++ r)) (b + at) ys ≡ p ++ (splice q at ys ++ r)
splice_between p q r b at ys e h = splice_past p (q ++ r) b at ys e ∙ ap (p ++◌) (splice_before q r at ys h)

splice_all : (l ys : List ℕ) → length ys ≡ length l → splice l 0 ys ≡ ys
unfolding splice
splice_all l ys e = rw (zero-add (length ys), drop_of_length-le l {i = length ys} (omega arith)) (append-nil ys)

-- a part of the part
splice_inside : (l zs : List ℕ) (b at : ℕ) (ys : List ℕ) → b + length zs ≤ length l → at + length ys ≤ length zs
    → splice (splice l b zs) (b + at) ys ≡ splice l b (splice zs at ys)
unfolding splice
splice_inside l zs b at ys h k =
    splice_between (take b l) zs (drop (b + length zs) l) b at ys (length-take-le b l (omega arith)) k
    ∙ ap (λ n. take b l ++ (splice zs at ys ++ drop (b + n) l)) (sym (length_splice zs ys at k))

-- a word written inside it; a read inside it
set_splice : (l ys : List ℕ) (at j w : ℕ) → at + length ys < suc (length l) → j < length ys → set (splice l at ys) (at + j) w ≡ splice l at (set ys j w)
unfolding splice
set_splice l ys at j w h k =
    set_past (take at l) (ys ++ drop (at + length ys) l) at j w (length-take-le at l (omega arith))
    ∙ ap (take at l ++◌) (set-append_left ys (drop (at + length ys) l) j w k)
    ∙ ap (λ n. take at l ++ (set ys j w ++ drop (at + n) l)) (sym (length-set ys j w))

get_splice : (l ys : List ℕ) (at j : ℕ) → at + length ys < suc (length l) → j < length ys → get_or (splice l at ys) (at + j) 0 ≡ get_or ys j 0
unfolding splice
get_splice l ys at j h k =
    get_past (take at l) (ys ++ drop (at + length ys) l) at j 0 (length-take-le at l (omega arith)) ∙ get_or-append ys (drop (at + length ys) l) 0 j k

-- the n words ws stand at `at` in m, and what is around them is as in l
pub record Part (l : List ℕ) (at n : ℕ) (ws m : List ℕ) : Type 0 where
  pub is : m ≡ splice l at ws
  pub long : length ws ≡ n
  pub fits : at + n ≤ length l

-- word j of them, at place i: read and written
module _ {l ws m : List ℕ} {at n : ℕ} (p : Part l at n ws m) where
  pub part_get : (j i : ℕ) → i ≡ at + j → j < n → get_or m i 0 ≡ get_or ws j 0
  part_get j i e h = rw (e, p.is) (get_splice l ws at j (omega (arith, p.long, p.fits)) (omega (arith, p.long)))

  pub part_set : (j i w : ℕ) → i ≡ at + j → j < n → Part l at n (set ws j w) (set m i w)
  part_set j i w e h = record {
    is = rw (e, p.is) (set_splice l ws at j w (omega (arith, p.long, p.fits)) (omega (arith, p.long)));
    long = length-set ws j w ∙ p.long;
    fits = p.fits;
  }

-- ---- Records among others

module _ {A : Type 0} (f : A → List ℕ) (w : ℕ) (wide : (a : A) → length (f a) ≡ w) where
  splice_cells : (xs : List A) (i : ℕ) (x : A) → i < length xs → splice (cells f xs) (i * w) (f x) ≡ cells f (set xs i x)
  unfolding cells
  splice_cells [] i x h = absurd (not-suc-le-zero h)
  splice_cells (y ∷ xs) zero x h =
      rw (zero-mul w) (splice_before (f y) (cells f xs) 0 (f x) (omega (arith, wide x, wide y)) ∙ ap (λ l. l ++ cells f xs) (splice_all (f y) (f x) (wide x ∙ sym (wide y))))
  splice_cells (y ∷ xs) (suc i) x h =
      rw (suc-mul i w, add_comm (i * w) w)
      (splice_past (f y) (cells f xs) w (i * w) (f x) (wide y) ∙ ap (f y ++◌) (splice_cells xs i x (le_of_suc-le-suc h)))

  module _ (n : ℕ) (d : A) (xs : List A) (i : ℕ) (h : i < n) where
    splice_record : (x : A) → splice (cells f (pad n d xs)) (i * w) (f x) ≡ cells f (set (pad n d xs) i x)
    splice_record x = splice_cells (pad n d xs) i x (rw (length_pad n d xs) h)

    record_is : splice (cells f (pad n d xs)) (i * w) (f (get_or xs i d)) ≡ cells f (pad n d xs)
    record_is = splice_record (get_or xs i d) ∙ ap (cells f) (set_pad_same n d xs i h)

    record_put : (x : A) → i < length xs → splice (cells f (pad n d xs)) (i * w) (f x) ≡ cells f (pad n d (set xs i x))
    record_put x k = splice_record x ∙ ap (cells f) (set_pad n d xs i x k h)

    record_more : (x : A) → length xs ≡ i → splice (cells f (pad n d xs)) (i * w) (f x) ≡ cells f (pad n d (xs ++ (x ∷ [])))
    record_more x e = splice_record x ∙ ap (cells f) (sym (pad_snoc n d xs i x e h))

-- ---- Objects with their counts

-- counts that are the same from number n on
same_cells : (N M : ℕ → ℕ) (n : ℕ) (os : List Object) → ((j : ℕ) → n ≤ j → N j ≡ M j) → object_cells N n os ≡ object_cells M n os
unfolding object_cells
same_cells N M n [] same = refl
same_cells N M n (o ∷ os) same = rw (same n (omega arith), same_cells N M (suc n) os λ j past. same j (omega arith))

-- an object replaced, and its count; the counts of the others are the same
splice_objects : (N M : ℕ → ℕ) (n : ℕ) (os : List Object) (i : ℕ) (x : Object) → ((j : ℕ) → (j ≡ n + i → ⊥) → N j ≡ M j) → i < length os
    → splice (object_cells N n os) (i * 8) (object_words (M (n + i)) x) ≡ object_cells M n (set os i x)
unfolding object_cells
splice_objects N M n [] i x same h = absurd (not-suc-le-zero h)
splice_objects N M n (o ∷ os) zero x same h =
    let first = M (n + 0) in
    splice_before (object_words (N n) o) (object_cells N (suc n) os) 0 (object_words first x) (omega (arith, object_words_length first x, object_words_length (N n) o))
    ∙ ap (λ l. l ++ object_cells N (suc n) os) (splice_all (object_words (N n) o) (object_words first x) (object_words_length first x ∙ sym (object_words_length (N n) o)))
    ∙ rw (add-zero n) (ap (object_words (M n) x ++◌) (same_cells N M (suc n) os λ j past. same j (omega arith)))
splice_objects N M n (o ∷ os) (suc i) x same h =
    let place : suc i * 8 ≡ 8 + i * 8 = omega arith in
    let number : n + suc i ≡ suc n + i = omega arith in
    rw (place, number) (
    splice_past (object_words (N n) o) (object_cells N (suc n) os) 8 (i * 8) (object_words (M (suc n + i)) x) (object_words_length (N n) o)
    ∙ ap (object_words (N n) o ++◌) (splice_objects N M (suc n) os i x (λ j other. same j (λ e. other (omega arith))) (le_of_suc-le-suc h))
    ∙ ap (λ k. object_words k o ++ object_cells M (suc n) (set os i x)) (same n (omega arith)))

module _ (N M : ℕ → ℕ) (os : List Object) (o : ℕ) (same : (j : ℕ) → (j ≡ o → ⊥) → N j ≡ M j) (h : o < 256) where
  splice_object : (x : Object) → splice (object_cells N 0 (pad 256 unmade os)) (o * 8) (object_words (M o) x) ≡ object_cells M 0 (set (pad 256 unmade os) o x)
  splice_object x = rw (zero-add o) at (splice_objects N M 0 (pad 256 unmade os) o x (λ j other. same j (λ e. other (e ∙ sym (zero-add o)))) (rw (length_pad 256 unmade os) h))

  object_is : splice (object_cells N 0 (pad 256 unmade os)) (o * 8) (object_words (M o) (get_or os o unmade)) ≡ object_cells M 0 (pad 256 unmade os)
  object_is = splice_object (get_or os o unmade) ∙ ap (object_cells M 0) (set_pad_same 256 unmade os o h)

  object_set : (x : Object) → o < length os → splice (object_cells N 0 (pad 256 unmade os)) (o * 8) (object_words (M o) x) ≡ object_cells M 0 (pad 256 unmade (set os o x))
  object_set x k = splice_object x ∙ ap (object_cells M 0) (set_pad 256 unmade os o x k h)

  object_more : (x : Object) → length os ≡ o → splice (object_cells N 0 (pad 256 unmade os)) (o * 8) (object_words (M o) x) ≡ object_cells M 0 (pad 256 unmade (os ++ (x ∷ [])))
  object_more x e = splice_object x ∙ ap (object_cells M 0) (sym (pad_snoc 256 unmade os o x e h))

-- ---- The words in use

splice_pad : (n : ℕ) (us rest : List ℕ) (at : ℕ) (ys : List ℕ) → length us ≤ n → at + length ys ≤ length us
    → splice (pad n 0 us ++ rest) at ys ≡ pad n 0 (splice us at ys) ++ rest
splice_pad n us rest at ys few h =
    let same = length_splice us ys at h in
    let zeros : ℕ → List ℕ = λ k. take (n - k) (replicate n 0) in
    splice_before (pad n 0 us) rest at ys (omega (arith, length_pad n 0 us))
    ∙ ap (λ l. l ++ rest) (
    ap (λ l. splice l at ys) (pad_front n 0 us few) ∙ splice_before us (zeros (length us)) at ys h
    ∙ ap (λ k. splice us at ys ++ zeros k) (sym same) ∙ sym (pad_front n 0 (splice us at ys) (omega arith))
    )

-- the counts, and the records made up to their number
unfoldable table_of : ℕ → ℕ → (ℕ → ℕ) → List Object → List Thread → List Channel → List ℕ
table_of a b N os ts cs = pad 8 0 (a ∷ b ∷ []) ++ (object_cells N 0 (pad 256 unmade os) ++ (cells thread_words (pad 16 no_thread ts) ++ cells channel_words (pad 16 empty_channel cs)))

used_words_lem : (N : ℕ → ℕ) (S : State) → used_state_words N S ≡ table_of (length S.objects) (length S.threads) N S.objects S.threads S.channels
unfolding used_state_words table_of
used_words_lem N S = refl

module _ (a b : ℕ) (N : ℕ → ℕ) (os : List Object) (ts : List Thread) (cs : List Channel) where
  first_count : get_or (table_of a b N os ts cs) 0 0 ≡ a
  unfolding table_of pad
  first_count = refl

  second_count : get_or (table_of a b N os ts cs) 1 0 ≡ b
  unfolding table_of pad
  second_count = refl

  set_first_count : (n : ℕ) → set (table_of a b N os ts cs) 0 n ≡ table_of n b N os ts cs
  unfolding table_of pad
  set_first_count n = refl

  set_second_count : (n : ℕ) → set (table_of a b N os ts cs) 1 n ≡ table_of a n N os ts cs
  unfolding table_of pad
  set_second_count n = refl

  objects_to : (o k : ℕ) (x : Object) (M : ℕ → ℕ) (os₁ : List Object) → o < 256
      → splice (object_cells N 0 (pad 256 unmade os)) (o * 8) (object_words k x) ≡ object_cells M 0 (pad 256 unmade os₁)
      → splice (table_of a b N os ts cs) (8 + o * 8) (object_words k x) ≡ table_of a b M os₁ ts cs
  unfolding table_of
  objects_to o k x M os₁ h e =
      let counts = pad 8 0 (a ∷ b ∷ []) in
      let others = cells thread_words (pad 16 no_thread ts) ++ cells channel_words (pad 16 empty_channel cs) in
      splice_between counts (object_cells N 0 (pad 256 unmade os)) others 8 (o * 8) (object_words k x) (length_pad 8 0 (a ∷ b ∷ []))
      (omega (arith, object_words_length k x, objects_length N 0 256 unmade os))
      ∙ ap (λ (l : List ℕ). counts ++ (l ++ others)) e

  -- past the counts and the objects
  past_objects : (i : ℕ) (ys : List ℕ) → splice (table_of a b N os ts cs) (2056 + i) ys
      ≡ pad 8 0 (a ∷ b ∷ []) ++ (object_cells N 0 (pad 256 unmade os) ++ splice (cells thread_words (pad 16 no_thread ts) ++ cells channel_words (pad 16 empty_channel cs)) i ys)
  unfolding table_of
  past_objects i ys =
      let counts = pad 8 0 (a ∷ b ∷ []) in
      let objects = object_cells N 0 (pad 256 unmade os) in
      let others = cells thread_words (pad 16 no_thread ts) ++ cells channel_words (pad 16 empty_channel cs) in
      let place : 2056 + i ≡ 8 + (2048 + i) = omega arith in
      ap (λ k. splice (counts ++ (objects ++ others)) k ys) place ∙ splice_past counts (objects ++ others) 8 (2048 + i) ys (length_pad 8 0 (a ∷ b ∷ []))
      ∙ ap (counts ++◌) (splice_past objects others 2048 i ys (objects_length N 0 256 unmade os))

  threads_to : (t : ℕ) (x : Thread) (ts₁ : List Thread) → t < 16
      → splice (cells thread_words (pad 16 no_thread ts)) (t * 306) (thread_words x) ≡ cells thread_words (pad 16 no_thread ts₁)
      → splice (table_of a b N os ts cs) (2056 + t * 306) (thread_words x) ≡ table_of a b N os ts₁ cs
  unfolding table_of
  threads_to t x ts₁ h e =
      let threads = cells thread_words (pad 16 no_thread ts) in
      let channels = cells channel_words (pad 16 empty_channel cs) in
      past_objects (t * 306) (thread_words x)
      ∙ ap (λ (l : List ℕ). pad 8 0 (a ∷ b ∷ []) ++ (object_cells N 0 (pad 256 unmade os) ++ l)) (
      splice_before threads channels (t * 306) (thread_words x) (omega (arith, thread_words_length x, length_records thread_words 306 thread_words_length 16 no_thread ts))
      ∙ ap (λ (l : List ℕ). l ++ channels) e
      )

  channels_to : (c : ℕ) (x : Channel) (cs₁ : List Channel)
      → splice (cells channel_words (pad 16 empty_channel cs)) (c * 2) (channel_words x) ≡ cells channel_words (pad 16 empty_channel cs₁)
      → splice (table_of a b N os ts cs) (6952 + c * 2) (channel_words x) ≡ table_of a b N os ts cs₁
  unfolding table_of
  channels_to c x cs₁ e =
      let threads = cells thread_words (pad 16 no_thread ts) in
      let place : 6952 + c * 2 ≡ 2056 + (4896 + c * 2) = omega arith in
      ap (λ i. splice (table_of a b N os ts cs) i (channel_words x)) place ∙ past_objects (4896 + c * 2) (channel_words x)
      ∙ ap (λ (l : List ℕ). pad 8 0 (a ∷ b ∷ []) ++ (object_cells N 0 (pad 256 unmade os) ++ l)) (
      splice_past threads (cells channel_words (pad 16 empty_channel cs)) 4896 (c * 2) (channel_words x) (length_records thread_words 306 thread_words_length 16 no_thread ts)
      ∙ ap (threads ++◌) e
      )

  -- a channel that holds nothing is made up
  channel_made_up : (n : ℕ) → n < 16 → length cs ≡ n → table_of a b N os ts cs ≡ table_of a b N os ts (cs ++ (empty_channel ∷ []))
  unfolding table_of
  channel_made_up n h e = rw (pad_made_up 16 empty_channel cs n e h)

-- they stand before the zeros at the end
record Used (l us rest : List ℕ) : Type 0 where
  words : l ≡ pad Most.words 0 us ++ rest
  long : length us ≡ 6984

used : {l rest : List ℕ} {N : ℕ → ℕ} {S : State} → Counted l N S rest → Used l (table_of (length S.objects) (length S.threads) N S.objects S.threads S.channels) rest
unfolding counted_words
used {rest} {N} {S} held =
    record { words = held.words ∙ ap (λ us. pad Most.words 0 us ++ rest) (used_words_lem N S); long = ap length (sym (used_words_lem N S)) ∙ used_state_words_length N S }

now_held : {l us rest : List ℕ} (N : ℕ → ℕ) (S : State) → us ≡ table_of (length S.objects) (length S.threads) N S.objects S.threads S.channels → Used l us rest → Counted l N S rest
unfolding counted_words
now_held {rest} N S e u = record { words = u.words ∙ ap (λ us. pad Most.words 0 us ++ rest) (e ∙ sym (used_words_lem N S)) }

module _ {l us rest : List ℕ} (u : Used l us rest) where
  used_get : (i : ℕ) → i < 6984 → get_or l i 0 ≡ get_or us i 0
  used_get i h =
      ap (λ l. get_or l i 0) u.words ∙ get_or-append (pad Most.words 0 us) rest 0 i (omega (arith, length_pad Most.words 0 us)) ∙ get_pad Most.words 0 us i (omega arith)

  used_set : (i w : ℕ) → i < 6984 → Used (set l i w) (set us i w) rest
  used_set i w h =
      let long = u.long in
      record {
        words =
            ap (λ l. set l i w) u.words ∙ set-append_left (pad Most.words 0 us) rest i w (omega (arith, length_pad Most.words 0 us))
            ∙ ap (λ l. l ++ rest) (set_pad Most.words 0 us i w (omega arith) (omega arith));
        long = length-set us i w ∙ long;
      }

  used_splice : (at : ℕ) (ys : List ℕ) → at + length ys ≤ 6984 → Used (splice l at ys) (splice us at ys) rest
  used_splice at ys h =
      let long = u.long in
      record {
        words = ap (λ l. splice l at ys) u.words ∙ splice_pad Most.words us rest at ys (omega arith) (omega arith);
        long = length_splice us ys at (omega arith) ∙ long;
      }

  -- a part that is there already
  used_same : (at : ℕ) (ys : List ℕ) → at + length ys ≤ 6984 → splice us at ys ≡ us → l ≡ splice l at ys
  used_same at ys h e = u.words ∙ ap (λ us. pad Most.words 0 us ++ rest) (sym e) ∙ sym (used_splice at ys h).words

-- ---- The frames of a thread

module _ (fs : List Frame) (d : Sender) (k : ℕ) where
  frames_to : (f : Frame) (gs : List Frame) → splice (cells frame_words (pad 16 no_frame (outermost_first fs))) (k * 19) (frame_words f) ≡ cells frame_words (pad 16 no_frame gs)
      → splice (thread_words (record { frames = fs; sender = d })) (2 + k * 19) (frame_words f) ≡ length fs ∷ sender_word d ∷ cells frame_words (pad 16 no_frame gs)
  unfolding thread_words
  frames_to f gs e =
      splice_past (length fs ∷ sender_word d ∷ []) (cells frame_words (pad 16 no_frame (outermost_first fs))) 2 (k * 19) (frame_words f) refl
      ∙ ap (λ (l : List ℕ). length fs ∷ sender_word d ∷ l) e

-- the innermost frame is the last of the outermost first
inner_less_count : (fs : List Frame) (k : ℕ) → length fs ≡ suc k → k ≡ length (inner_less fs)
unfolding inner_less
inner_less_count [] k e = absurd (omega arith)
inner_less_count (f ∷ fs) k e = omega arith

inner_less_frames : (fs : List Frame) (k : ℕ) → k < 16 → length fs ≡ suc k
    → splice (cells frame_words (pad 16 no_frame (outermost_first fs))) (k * 19) (frame_words no_frame) ≡ cells frame_words (pad 16 no_frame (outermost_first (inner_less fs)))
unfolding inner_less outermost_first
inner_less_frames [] k h e = absurd (omega arith)
inner_less_frames (f ∷ fs) k h e =
    let callers : List Frame = outermost_first fs in
    let last : length callers ≡ k = omega (arith, length_outermost fs) in
    record_put frame_words 19 frame_words_length 16 no_frame (callers ++ (f ∷ [])) k h no_frame (omega (arith, length_snoc callers f))
    ∙ ap (λ xs. cells frame_words (pad 16 no_frame xs)) (set_at callers f [] no_frame k last) ∙ ap (cells frame_words) (pad_made_up 16 no_frame callers k last h)

-- ---- The records, in their places (whether they are there or not)

-- the same list holds the same state
pub held_by : {l l₁ rest : List ℕ} {N : ℕ → ℕ} {S : State} → l₁ ≡ l → Counted l N S rest → Counted l₁ N S rest
held_by e held = record { words = e ∙ held.words }

module _ {l rest : List ℕ} {N : ℕ → ℕ} {S : State} (held : Counted l N S rest) where
  pub held_length : 8192 < suc (length l)
  held_length = omega (arith, ap length held.words ∙ length-append (counted_words N S) rest, counted_words_length N S)

  pub objects_at_lem : get_or l 0 0 ≡ length S.objects
  objects_at_lem = used_get (used held) 0 (omega arith) ∙ first_count (length S.objects) (length S.threads) N S.objects S.threads S.channels

  pub threads_at : get_or l 1 0 ≡ length S.threads
  threads_at = used_get (used held) 1 (omega arith) ∙ second_count (length S.objects) (length S.threads) N S.objects S.threads S.channels

  object_at_lem : (o : ℕ) → o < 256 → l ≡ splice l (8 + o * 8) (object_words (N o) (get_or S.objects o unmade))
  object_at_lem o h =
      let x : Object = get_or S.objects o unmade in
      used_same (used held) (8 + o * 8) (object_words (N o) x) (omega (arith, object_words_length (N o) x))
      (objects_to _ _ N S.objects S.threads S.channels o (N o) x N S.objects h (object_is N N S.objects o (λ j other. refl) h))

  thread_at_lem : (t : ℕ) → t < 16 → l ≡ splice l (2056 + t * 306) (thread_words (thread_at S t))
  unfolding thread_at
  thread_at_lem t h =
      let x : Thread = get_or S.threads t no_thread in
      used_same (used held) (2056 + t * 306) (thread_words x) (omega (arith, thread_words_length x))
      (threads_to _ _ N S.objects S.threads S.channels t x S.threads h (record_is thread_words 306 thread_words_length 16 no_thread S.threads t h))

  thread_part : (t : ℕ) → t < 16 → Part l (2056 + t * 306) 306 (thread_words (thread_at S t)) l
  thread_part t h = record { is = thread_at_lem t h; long = thread_words_length (thread_at S t); fits = omega (arith, held_length) }

  -- words of a thread replaced
  thread_splice : (t at : ℕ) (ys : List ℕ) → t < 16 → at + length ys ≤ 306
      → splice l (2056 + t * 306 + at) ys ≡ splice l (2056 + t * 306) (splice (thread_words (thread_at S t)) at ys)
  thread_splice t at ys h k =
      let long = thread_words_length (thread_at S t) in
      ap (λ l. splice l (2056 + t * 306 + at) ys) (thread_at_lem t h)
      ∙ splice_inside l (thread_words (thread_at S t)) (2056 + t * 306) at ys (omega (arith, held_length)) (omega arith)

  pub frames_at : (t : ℕ) → t < 16 → get_or l (2056 + t * 306) 0 ≡ length (thread_at S t).frames
  unfolding thread_words
  frames_at t h = part_get (thread_part t h) 0 (2056 + t * 306) (omega arith) (omega arith)

  pub sender_at : (t : ℕ) → t < 16 → get_or l (2057 + t * 306) 0 ≡ sender_word (thread_at S t).sender
  unfolding thread_words
  sender_at t h = part_get (thread_part t h) 1 (2057 + t * 306) (omega arith) (omega arith)

  frame_splice : (t k : ℕ) (f : Frame) → t < 16 → k < 16
      → splice l (2058 + t * 306 + k * 19) (frame_words f) ≡ splice l (2056 + t * 306) (splice (thread_words (thread_at S t)) (2 + k * 19) (frame_words f))
  frame_splice t k f h m =
      let place : 2058 + t * 306 + k * 19 ≡ 2056 + t * 306 + (2 + k * 19) = omega arith in
      ap (λ i. splice l i (frame_words f)) place ∙ thread_splice t (2 + k * 19) (frame_words f) h (omega (arith, frame_words_length f))

  frame_spliced : (t k : ℕ) → t < 16 → k < 16 → l ≡ splice l (2058 + t * 306 + k * 19) (frame_words (frame_at S t k))
  unfolding frame_at thread_words
  frame_spliced t k h m =
      let fs = (thread_at S t).frames in
      thread_at_lem t h
      ∙ ap (splice l (2056 + t * 306)) (sym (frames_to fs (thread_at S t).sender k (frame_at S t k) (outermost_first fs) (record_is frame_words 19 frame_words_length 16 no_frame (outermost_first fs) k m)))
      ∙ sym (frame_splice t k (frame_at S t k) h m)

  channel_at_lem : (c : ℕ) → c < 16 → l ≡ splice l (6952 + c * 2) (channel_words (channel_at S c))
  unfolding channel_at
  channel_at_lem c h =
      let x : Channel = get_or S.channels c empty_channel in
      used_same (used held) (6952 + c * 2) (channel_words x) (omega (arith, channel_words_length x))
      (channels_to _ _ N S.objects S.threads S.channels c x S.channels (record_is channel_words 2 channel_words_length 16 empty_channel S.channels c h))

  -- and as parts of the table
  pub object_part : (o : ℕ) → o < 256 → Part l (8 + o * 8) 8 (object_words (N o) (get_or S.objects o unmade)) l
  object_part o h = record { is = object_at_lem o h; long = object_words_length (N o) (get_or S.objects o unmade); fits = omega (arith, held_length) }

  pub frame_part : (t k : ℕ) → t < 16 → k < 16 → Part l (2058 + t * 306 + k * 19) 19 (frame_words (frame_at S t k)) l
  frame_part t k h m = record { is = frame_spliced t k h m; long = frame_words_length (frame_at S t k); fits = omega (arith, held_length) }

  pub channel_part : (c : ℕ) → c < 16 → Part l (6952 + c * 2) 2 (channel_words (channel_at S c)) l
  channel_part c h = record { is = channel_at_lem c h; long = channel_words_length (channel_at S c); fits = omega (arith, held_length) }

  -- ---- Records written

  pub object_put : (o : ℕ) (x : Object) → o < 256 → o < length S.objects → Counted (splice l (8 + o * 8) (object_words (N o) x)) N (put_objects S (set S.objects o x)) rest
  unfolding put_objects
  object_put o x h k =
      now_held N (put_objects S (set S.objects o x))
      (objects_to _ _ N S.objects S.threads S.channels o (N o) x N (set S.objects o x) h (object_set N N S.objects o (λ j other. refl) h x k)
      ∙ ap (λ n. table_of n (length S.threads) N (set S.objects o x) S.threads S.channels) (sym (length-set S.objects o x)))
      (used_splice (used held) (8 + o * 8) (object_words (N o) x) (omega (arith, object_words_length (N o) x)))

  pub object_made : (o : ℕ) (x : Object) → o < 256 → o ≡ length S.objects → Counted (set (splice l (8 + o * 8) (object_words (N o) x)) 0 (suc o)) N (put_objects S (S.objects ++ (x ∷ []))) rest
  unfolding put_objects
  object_made o x h e =
      let more : List Object = S.objects ++ (x ∷ []) in
      let count : suc o ≡ length more = omega (arith, length_snoc S.objects x) in
      now_held N (put_objects S more)
      (ap (λ us. set us 0 (suc o)) (objects_to _ _ N S.objects S.threads S.channels o (N o) x N more h (object_more N N S.objects o (λ j other. refl) h x (sym e)))
      ∙ set_first_count _ _ N more S.threads S.channels (suc o)
      ∙ ap (λ n. table_of n (length S.threads) N more S.threads S.channels) count)
      (used_set (used_splice (used held) (8 + o * 8) (object_words (N o) x) (omega (arith, object_words_length (N o) x))) 0 (suc o) (omega arith))

  -- the count of object o becomes another
  pub count_put : (M : ℕ → ℕ) (o : ℕ) → o < 256 → ((j : ℕ) → (j ≡ o → ⊥) → N j ≡ M j) → Counted (splice l (8 + o * 8) (object_words (M o) (get_or S.objects o unmade))) M S rest
  count_put M o h same =
      let x : Object = get_or S.objects o unmade in
      now_held M S (objects_to _ _ N S.objects S.threads S.channels o (M o) x M S.objects h (object_is N M S.objects o same h))
      (used_splice (used held) (8 + o * 8) (object_words (M o) x) (omega (arith, object_words_length (M o) x)))

  -- the same counts
  pub recounted : (M : ℕ → ℕ) → ((n : ℕ) → N n ≡ M n) → Counted l M S rest
  unfolding counted_words used_state_words
  recounted M same = record {
    words = held.words ∙ ap (λ (os : List ℕ). pad Most.words 0 (pad 8 0 (length S.objects ∷ length S.threads ∷ [])
        ++ (os ++ (cells thread_words (pad 16 no_thread S.threads) ++ cells channel_words (pad 16 empty_channel S.channels)))) ++ rest)
        (same_cells N M 0 (pad 256 unmade S.objects) λ j past. same j);
  }

  thread_put : (t : ℕ) (fs : List Frame) (d : Sender) → t < 16 → t < length S.threads
      → Counted (splice l (2056 + t * 306) (thread_words (record { frames = fs; sender = d }))) N (put_thread S t fs d) rest
  unfolding put_thread
  thread_put t fs d h k =
      let x : Thread = record { frames = fs; sender = d } in
      now_held N (put_thread S t fs d)
      (threads_to _ _ N S.objects S.threads S.channels t x (set S.threads t x) h (record_put thread_words 306 thread_words_length 16 no_thread S.threads t h x k)
      ∙ ap (λ n. table_of (length S.objects) n N S.objects (set S.threads t x) S.channels) (sym (length-set S.threads t x)))
      (used_splice (used held) (2056 + t * 306) (thread_words x) (omega (arith, thread_words_length x)))

  pub frame_put : (t k : ℕ) (f : Frame) → t < 16 → k < 16 → HasFrame t k S → Counted (splice l (2058 + t * 306 + k * 19) (frame_words f)) N (edit_frame S t k (λ _. f) (thread_at S t).sender) rest
  unfolding edit_frame thread_words
  frame_put t k f h m has =
      let fs = (thread_at S t).frames in
      let d = (thread_at S t).sender in
      let gs : List Frame = on_frame k (λ _. f) fs in
      let edited = record_put frame_words 19 frame_words_length 16 no_frame (outermost_first fs) k m f (omega (arith, has.frame, length_outermost fs)) in
      held_by (
      frame_splice t k f h m
      ∙ ap (splice l (2056 + t * 306)) (
      frames_to fs d k f (set (outermost_first fs) k f) edited
      ∙ ap (λ xs. length fs ∷ sender_word d ∷ cells frame_words (pad 16 no_frame xs)) (sym (outermost_edited k (λ _. f) fs has.frame))
      ∙ ap (λ n. n ∷ sender_word d ∷ cells frame_words (pad 16 no_frame (outermost_first gs))) (sym (length_edited k (λ _. f) fs))
      )
      ) (thread_put t gs d h has.thread)

  pub sender_put : (t : ℕ) (d : Sender) → t < 16 → t < length S.threads → Counted (set l (2057 + t * 306) (sender_word d)) N (put_thread S t (thread_at S t).frames d) rest
  unfolding thread_words
  sender_put t d h k =
      held_by (part_set (thread_part t h) 1 (2057 + t * 306) (sender_word d) (omega arith) (omega arith)).is (thread_put t (thread_at S t).frames d h k)

  -- a frame and the number of frames written
  frames_put : (t k n : ℕ) (f : Frame) (gs : List Frame) → t < 16 → k < 16 → t < length S.threads → n ≡ length gs
      → splice (cells frame_words (pad 16 no_frame (outermost_first (thread_at S t).frames))) (k * 19) (frame_words f) ≡ cells frame_words (pad 16 no_frame (outermost_first gs))
      → Counted (set (splice l (2058 + t * 306 + k * 19) (frame_words f)) (2056 + t * 306) n) N (put_thread S t gs (thread_at S t).sender) rest
  unfolding thread_words
  frames_put t k n f gs h m there e edited =
      let fs = (thread_at S t).frames in
      let d = (thread_at S t).sender in
      let ys : List ℕ = length fs ∷ sender_word d ∷ cells frame_words (pad 16 no_frame (outermost_first gs)) in
      let framed : Part l (2056 + t * 306) 306 ys (splice l (2058 + t * 306 + k * 19) (frame_words f)) = record {
        is = frame_splice t k f h m ∙ ap (splice l (2056 + t * 306)) (frames_to fs d k f (outermost_first gs) edited);
        long = thread_words_length (record { frames = gs; sender = d });
        fits = omega (arith, held_length);
      } in
      held_by (
      (part_set framed 0 (2056 + t * 306) n (omega arith) (omega arith)).is
      ∙ ap (λ n. splice l (2056 + t * 306) (n ∷ sender_word d ∷ cells frame_words (pad 16 no_frame (outermost_first gs)))) e
      ) (thread_put t gs d h there)

  pub frame_pushed : (t k : ℕ) (f : Frame) → t < 16 → k < 15 → Innermost t k S
      → Counted (set (splice l (2058 + t * 306 + suc k * 19) (frame_words f)) (2056 + t * 306) (k + 2)) N (put_thread S t (f ∷ (thread_at S t).frames) (thread_at S t).sender) rest
  unfolding outermost_first
  frame_pushed t k f h m inner =
      let fs = (thread_at S t).frames in
      let count = inner.frames in
      frames_put t (suc k) (k + 2) f (f ∷ fs) h (omega arith) inner.thread (omega arith)
      (record_more frame_words 19 frame_words_length 16 no_frame (outermost_first fs) (suc k) (omega arith) f (length_outermost fs ∙ count))

  pub frame_dropped : (t k : ℕ) → t < 16 → k < 16 → Innermost t k S
      → Counted (set (splice l (2058 + t * 306 + k * 19) (frame_words no_frame)) (2056 + t * 306) k) N (put_thread S t (inner_less (thread_at S t).frames) (thread_at S t).sender) rest
  frame_dropped t k h m inner =
      frames_put t k k no_frame (inner_less (thread_at S t).frames) h m inner.thread (inner_less_count (thread_at S t).frames k inner.frames)
      (inner_less_frames (thread_at S t).frames k m inner.frames)

  pub channel_put : (c : ℕ) (x : Channel) → c < 16 → c < length S.channels → Counted (splice l (6952 + c * 2) (channel_words x)) N (put_channel S c x) rest
  unfolding put_channel
  channel_put c x h k =
      now_held N (put_channel S c x)
      (channels_to _ _ N S.objects S.threads S.channels c x (set S.channels c x) (record_put channel_words 2 channel_words_length 16 empty_channel S.channels c h x k))
      (used_splice (used held) (6952 + c * 2) (channel_words x) (omega (arith, channel_words_length x)))

  pub thread_started : (n b : ℕ) → n < 16 → n ≡ length S.threads → length S.channels ≡ length S.threads
      → (let new : Thread = record { frames = record { block = b; line = 0; slots = Chan n ∷ [] } ∷ []; sender = ready } in
      Counted (set (splice l (2056 + n * 306) (thread_words new)) 1 (suc n)) N (started S b) rest)
  unfolding started
  thread_started n b h e c =
      let new : Thread = record { frames = record { block = b; line = 0; slots = Chan n ∷ [] } ∷ []; sender = ready } in
      let more : List Thread = S.threads ++ (new ∷ []) in
      let count : suc n ≡ length more = omega (arith, length_snoc S.threads new) in
      now_held N (started S b)
      (ap (λ us. set us 1 (suc n)) (threads_to _ _ N S.objects S.threads S.channels n new more h (record_more thread_words 306 thread_words_length 16 no_thread S.threads n h new (sym e)))
      ∙ set_second_count _ _ N S.objects more S.channels (suc n)
      ∙ ap (λ m. table_of (length S.objects) m N S.objects more S.channels) count
      ∙ channel_made_up (length S.objects) (length more) N S.objects more S.channels n h (c ∙ sym e)
      ∙ ap (λ (m : ℕ). let x : Thread = record { frames = record { block = b; line = 0; slots = Chan m ∷ [] } ∷ []; sender = ready } in
      table_of (length S.objects) (length (S.threads ++ (x ∷ []))) N S.objects (S.threads ++ (x ∷ [])) (S.channels ++ (empty_channel ∷ []))) e)
      (used_set (used_splice (used held) (2056 + n * 306) (thread_words new) (omega (arith, thread_words_length new))) 1 (suc n) (omega arith))

  -- the words of a thread that is not there
  pub no_thread_at : (n : ℕ) → n < 16 → n ≡ length S.threads → l ≡ splice l (2056 + n * 306) (thread_words no_thread)
  unfolding thread_at
  no_thread_at n h e =
      thread_at_lem n h ∙ ap (λ x. splice l (2056 + n * 306) (thread_words x)) (get_or-eq_default S.threads no_thread (omega arith))
