-- The words of a state that fits tell it: each part is of its own length, and each record tells its value.
use Prim.Native.Nat.{ℕ, zero, suc, ◌-◌, ◌≤◌}
use native.Mathlib.Omega.{arith}
use native.Mathlib.Numerals.{add-one}
use mathlib.Core.Path.{◌≡◌, refl, sym, ap, ap₂, ◌∙◌}
use mathlib.Core.List.{List, [], ◌∷◌, ◌++◌, map, reverse, reverse-reverse, head-eq_of_cons-eq}
use lib.ListN.{length, get_or, take, drop, replicate}
use lib.Seq.{take_at, drop_at, take-append_seam, drop-append_seam}
use Rattle.rules.specs.declared.Value.{Value}
use Rattle.rules.specs.declared.Value.TheVariants.{Absent, Obj, Chan}
use Rattle.rules.specs.declared.Mosts.{Mosts}
use Rattle.rules.specs.Mosts as Most
use Rattle.rules.specs.Lists.{Every, pad, cells}
use Rattle.rules.specs.Script.{Program}
use Rattle.rules.specs.State.{Object, Frame, Thread, no_thread, Channel, empty_channel, State}
use Rattle.rules.specs.Fits.{InRange, IsObject, ObjectFits, FrameFits, ThreadFits, ChannelFits, Fits}
use Rattle.rules.specs.Tables.{cap_of, word, unmade, no_frame, object_words, object_cells, frame_words, outermost_first, thread_words, channel_words, used_state_words, counted_words, state_words}
use Rattle.rules.specs.Holders.{holders}
use Rattle.rules.proofs.ListLaws.{every_map, pad_front, length_records}
use Rattle.rules.proofs.Keeps.{object_in_range, each_frame}
use Rattle.rules.proofs.TableWords.{object_words_length, objects_length, frame_words_length, thread_words_length, channel_words_length, used_state_words_length, every_outermost, cap_of_rank, sender_tells, outermost_reverse, length_outermost}

append_cut : {A : Type 0} (xs ys us vs : List A) → length xs ≡ length ys → xs ++ us ≡ ys ++ vs → (xs ≡ ys) × (us ≡ vs)
append_cut xs ys us vs l e = (
  sym (take_at xs us (length ys) l) ∙ ap (take (length ys)) e ∙ take-append_seam ys vs,
  sym (drop_at xs us (length ys) l) ∙ ap (drop (length ys)) e ∙ drop-append_seam ys vs,
)

-- lists of one length that are not cut are told apart
pad_tells : {A : Type 0} (n : ℕ) (d : A) (xs ys : List A) → length xs ≡ length ys → length xs ≤ n → pad n d xs ≡ pad n d ys → xs ≡ ys
pad_tells n d xs ys l h e = (append_cut xs ys _ _ l (sym (pad_front n d xs h) ∙ e ∙ pad_front n d ys (omega arith))).0

word_at : (i : ℕ) {ws vs : List ℕ} → ws ≡ vs → get_or ws i 0 ≡ get_or vs i 0
word_at i e = ap (λ l. get_or l i 0) e

-- records of one width, each of which tells its value among those that fit
module _ {A : Type 0} (f : A → List ℕ) (w : ℕ) (wide : (a : A) → length (f a) ≡ w) (R R' : A → Type 0) (tells : (x y : A) → R x → R' y → f x ≡ f y → x ≡ y) where
  cells_tell : (xs ys zs us : List A) → length xs ≡ length ys → Every R xs → Every R' ys → cells f (xs ++ zs) ≡ cells f (ys ++ us) → xs ≡ ys
  unfolding cells
  cells_tell [] [] zs us l h k e = refl
  cells_tell [] (y ∷ ys) zs us l h k e = absurd (omega arith)
  cells_tell (x ∷ xs) [] zs us l h k e = absurd (omega arith)
  cells_tell (x ∷ xs) (y ∷ ys) zs us l h k e =
      let c = append_cut (f x) (f y) (cells f (xs ++ zs)) (cells f (ys ++ us)) (wide x ∙ sym (wide y)) e in
      ap₂ ◌∷◌ (tells x y h.0 k.0 c.0) (cells_tell xs ys zs us (omega arith) h.1 k.1 c.1)

  records_tell : (n : ℕ) (d : A) (xs ys : List A) → length xs ≤ n → length xs ≡ length ys → Every R xs → Every R' ys
      → cells f (pad n d xs) ≡ cells f (pad n d ys) → xs ≡ ys
  records_tell n d xs ys m l h k e =
      cells_tell xs ys _ _ l h k (ap (cells f) (sym (pad_front n d xs m)) ∙ e ∙ ap (cells f) (pad_front n d ys (omega arith)))

  -- and what comes after them
  region_tells : (n : ℕ) (d : A) (xs ys : List A) (us vs : List ℕ) → length xs ≤ n → length xs ≡ length ys → Every R xs → Every R' ys
      → cells f (pad n d xs) ++ us ≡ cells f (pad n d ys) ++ vs → (xs ≡ ys) × (us ≡ vs)
  region_tells n d xs ys us vs m l h k e =
      let c = append_cut _ _ us vs (length_records f w wide n d xs ∙ sym (length_records f w wide n d ys)) e in
      (records_tell n d xs ys m l h k c.0, c.1)

-- fields are objects, whose words are not 0: so many words are not 0
nonzero : List ℕ → ℕ
nonzero [] = 0
nonzero (zero ∷ ws) = nonzero ws
nonzero (suc w ∷ ws) = suc (nonzero ws)

fields_counted : (o n : ℕ) (vs : List Value) → Every (IsObject o) vs → length vs ≤ n → nonzero (map word (pad n Absent vs)) ≡ length vs
unfolding nonzero
fields_counted o n vs h l = rw (pad_front n Absent vs l) (of_objects (n - length vs) vs h)
  where
    of_none : (k i : ℕ) → nonzero (map word (take k (replicate i Absent))) ≡ 0
    of_none zero i = refl
    of_none (suc k) zero = refl
    of_none (suc k) (suc i) = of_none k i

    of_objects : (k : ℕ) (us : List Value) → Every (IsObject o) us → nonzero (map word (us ++ take k (replicate n Absent))) ≡ length us
    of_objects k [] e = of_none k n
    of_objects k (Absent ∷ us) e = absurd e.0
    of_objects k (Obj i ∷ us) e = rw (add-one i) (ap suc (of_objects k us e.1))
    of_objects k (Chan c ∷ us) e = absurd e.0

outermost_tells : (fs fs' : List Frame) → outermost_first fs ≡ outermost_first fs' → fs ≡ fs'
outermost_tells fs fs' e = sym (reverse-reverse fs) ∙ ap reverse (sym (outermost_reverse fs) ∙ e ∙ outermost_reverse fs') ∙ reverse-reverse fs'

-- what two states hold: o and o' objects, c and c' channels
module _ (P P' : Program) (o c o' c' : ℕ) (few : o ≤ (Most.mosts).objects) (few' : o' ≤ (Most.mosts).objects) where
  value_tells : (v v' : Value) → InRange o c v → InRange o' c' v' → word v ≡ word v' → v ≡ v'
  value_tells Absent Absent h h' e = refl
  value_tells Absent (Obj j) h h' e = absurd (omega arith)
  value_tells Absent (Chan j) h h' e = absurd (omega arith)
  value_tells (Obj i) Absent h h' e = absurd (omega arith)
  value_tells (Obj i) (Obj j) h h' e = ap Obj (omega arith)
  value_tells (Obj i) (Chan j) h h' e = absurd (omega arith)
  value_tells (Chan i) Absent h h' e = absurd (omega arith)
  value_tells (Chan i) (Obj j) h h' e = absurd (omega arith)
  value_tells (Chan i) (Chan j) h h' e = ap Chan (omega arith)

  values_tell : (n : ℕ) (vs vs' : List Value) → length vs ≤ n → length vs ≡ length vs' → Every (InRange o c) vs → Every (InRange o' c') vs'
      → map word (pad n Absent vs) ≡ map word (pad n Absent vs') → vs ≡ vs'
  unfolding cells
  values_tell n vs vs' k l h h' e =
      records_tell (λ v. word v ∷ []) 1 (λ v. refl) (InRange o c) (InRange o' c') (λ v v' r r' q. value_tells v v' r r' (head-eq_of_cons-eq q)) n Absent vs vs' k l h h'
      (singles (pad n Absent vs) ∙ e ∙ sym (singles (pad n Absent vs')))
    where
      singles : (us : List Value) → cells (λ v. word v ∷ []) us ≡ map word us
      singles [] = refl
      singles (u ∷ us) = ap (λ (ws : List ℕ). word u ∷ ws) (singles us)

  object_tells : (held held' : ℕ) (x x' : Object) → ObjectFits P o c x → ObjectFits P' o' c' x' → object_words held x ≡ object_words held' x' → x ≡ x'
  unfolding object_words
  object_tells held held' x x' h h' e = λ i. record { cap = caps i; kind = word_at 1 e i; creator = word_at 2 e i; fields = fields i }
    where
      caps : x.cap ≡ x'.cap
      caps = sym (cap_of_rank x.cap) ∙ ap cap_of (word_at 0 e) ∙ cap_of_rank x'.cap

      count : length x.fields ≡ length x'.fields
      count = sym (fields_counted o _ x.fields h.fields h.few) ∙ ap (λ l. nonzero (drop 4 l)) e ∙ fields_counted o' _ x'.fields h'.fields h'.few

      fields : x.fields ≡ x'.fields
      fields =
          values_tell _ x.fields x'.fields h.few count (every_map (object_in_range o c) x.fields h.fields)
          (every_map (object_in_range o' c') x'.fields h'.fields) (ap (drop 4) e)

  -- whatever the counts of holders are
  objects_tell : (r r' : ℕ → ℕ) (n : ℕ) (xs ys zs us : List Object) → length xs ≡ length ys → Every (ObjectFits P o c) xs → Every (ObjectFits P' o' c') ys
      → object_cells r n (xs ++ zs) ≡ object_cells r' n (ys ++ us) → xs ≡ ys
  unfolding object_cells
  objects_tell r r' n [] [] zs us l h k e = refl
  objects_tell r r' n [] (y ∷ ys) zs us l h k e = absurd (omega arith)
  objects_tell r r' n (x ∷ xs) [] zs us l h k e = absurd (omega arith)
  objects_tell r r' n (x ∷ xs) (y ∷ ys) zs us l h k e =
      let cut =
      append_cut (object_words (r n) x) (object_words (r' n) y) (object_cells r (suc n) (xs ++ zs)) (object_cells r' (suc n) (ys ++ us))
      (object_words_length (r n) x ∙ sym (object_words_length (r' n) y)) e in
      ap₂ ◌∷◌ (object_tells (r n) (r' n) x y h.0 k.0 cut.0) (objects_tell r r' (suc n) xs ys zs us (omega arith) h.1 k.1 cut.1)

  -- and what comes after them
  object_region_tells : (r r' : ℕ → ℕ) (n : ℕ) (xs ys : List Object) (us vs : List ℕ) → length xs ≤ n → length xs ≡ length ys
      → Every (ObjectFits P o c) xs → Every (ObjectFits P' o' c') ys
      → object_cells r 0 (pad n unmade xs) ++ us ≡ object_cells r' 0 (pad n unmade ys) ++ vs → (xs ≡ ys) × (us ≡ vs)
  object_region_tells r r' n xs ys us vs few l h k e =
      let cut = append_cut _ _ us vs (objects_length r 0 n unmade xs ∙ sym (objects_length r' 0 n unmade ys)) e in (
        objects_tell r r' 0 xs ys _ _ l h k (ap (object_cells r 0) (sym (pad_front n unmade xs few)) ∙ cut.0 ∙ ap (object_cells r' 0) (pad_front n unmade ys (omega arith))),
        cut.1,
      )

  frame_tells : (f f' : Frame) → FrameFits P o c f → FrameFits P' o' c' f' → frame_words f ≡ frame_words f' → f ≡ f'
  unfolding frame_words
  frame_tells f f' h h' e = λ i. record { block = word_at 0 e i; line = word_at 1 e i; slots = slots i }
    where
      slots : f.slots ≡ f'.slots
      slots = values_tell _ f.slots f'.slots h.few (word_at 2 e) h.slots h'.slots (ap (drop 3) e)

  thread_tells : (n n' : ℕ) (t t' : Thread) → ThreadFits P n o c t → ThreadFits P' n' o' c' t' → thread_words t ≡ thread_words t' → t ≡ t'
  unfolding thread_words
  thread_tells n n' t t' h h' e = λ i. record { frames = outermost_tells t.frames t'.frames frames i; sender = sender_tells t.sender t'.sender (word_at 1 e) i }
    where
      frames : outermost_first t.frames ≡ outermost_first t'.frames
      frames =
          records_tell frame_words _ frame_words_length (FrameFits P o c) (FrameFits P' o' c') frame_tells _ no_frame (outermost_first t.frames) (outermost_first t'.frames)
          (rw (length_outermost t.frames) h.few) (length_outermost t.frames ∙ word_at 0 e ∙ sym (length_outermost t'.frames))
          (every_outermost (FrameFits P o c) t.frames (each_frame P o c t.frames h.frames))
          (every_outermost (FrameFits P' o' c') t'.frames (each_frame P' o' c' t'.frames h'.frames)) (ap (drop 2) e)

  channel_tells : (n n' : ℕ) (x x' : Channel) → ChannelFits n o c x → ChannelFits n' o' c' x' → channel_words x ≡ channel_words x' → x ≡ x'
  unfolding channel_words
  channel_tells n n' x x' h h' e = λ i. record { message = value_tells x.message x'.message h.message h'.message (word_at 0 e) i; number = word_at 1 e i }

counts_tell : (a b a' b' : ℕ) (us vs : List ℕ) → pad 8 0 (a ∷ b ∷ []) ++ us ≡ pad 8 0 (a' ∷ b' ∷ []) ++ vs → (a ≡ a') × (b ≡ b') × (us ≡ vs)
unfolding pad
counts_tell a b a' b' us vs e = (word_at 0 e, word_at 1 e, ap (drop 8) e)

-- so equal tables are equal states
module _ {m : Mosts} {P P' : Program} {n n' : ℕ} {S S' : State} (fits : Fits m P n S) (fits' : Fits m P' n' S') where
  used_words_tell : m.objects ≤ (Most.mosts).objects → m.threads ≤ (Most.mosts).threads → used_state_words (holders S) S ≡ used_state_words (holders S') S' → S ≡ S'
  unfolding used_state_words
  used_words_tell os ts e =
      let few : length S.objects ≤ (Most.mosts).objects = omega (arith, fits.few_objects) in
      let few' : length S'.objects ≤ (Most.mosts).objects = omega (arith, fits'.few_objects) in
      let counts = counts_tell _ _ _ _ _ _ e in
      let objects =
      object_region_tells P P' _ _ _ _ few few' (holders S) (holders S') _ S.objects S'.objects _ _
      few counts.0 fits.objects fits'.objects counts.2 in
      let threads =
      region_tells thread_words _ thread_words_length _ _ (thread_tells P P' _ _ _ _ few few' n n') _ no_thread S.threads S'.threads _ _
      (omega (arith, fits.few_threads)) counts.1 fits.threads fits'.threads objects.1 in
      let channels : S.channels ≡ S'.channels =
      records_tell channel_words _ channel_words_length _ _ (channel_tells P P' _ _ _ _ few few' n n') _ empty_channel S.channels S'.channels
      (omega (arith, fits.channel_each, fits.few_threads)) (omega (arith, fits.channel_each, fits'.channel_each, counts.1)) fits.channels fits'.channels threads.1 in
      λ i. record { objects = objects.0 i; threads = threads.0 i; channels = channels i }

  pub state_words_tell : m.objects ≤ (Most.mosts).objects → m.threads ≤ (Most.mosts).threads → state_words S ≡ state_words S' → S ≡ S'
  unfolding counted_words
  state_words_tell os ts e =
      used_words_tell os ts
      (pad_tells Most.words 0 (used_state_words (holders S) S) (used_state_words (holders S') S')
      (used_state_words_length (holders S) S ∙ sym (used_state_words_length (holders S') S')) (omega (arith, used_state_words_length (holders S) S)) e)
