-- The texts of parts, of lines and of rows: what the calls of a function write one after the other is what the line says.
use Rattle.std.proofs.Common.{ℕ, zero, suc, ◌+◌, ◌≤◌, ◌<◌, add-zero, add-suc, suc-add, add-one, arith, ◌≡◌, refl, sym, ap, ◌∙◌, List, [], ◌∷◌, ◌++◌, map, append_assoc, append-nil, ltb, length, get_or, take, drop, take-suc, take_all, length-take-le, ltb-false}
use Prim.Native.String as S
use Rattle.std.proofs.Math.ListN.{get_or-eq_default}
use Rattle.rules.specs.declared.Value.{Value}
use Rattle.rules.specs.declared.Value.TheVariants.{Absent, Obj, Chan}
use Rattle.rules.specs.Lists.{Every}
use Rattle.rules.specs.Text.{bytes, space}
use Rattle.rules.specs.Templates.{decimal, cap_word, print_many}
use Rattle.rules.specs.State.{Object, Frame, Sender, ready, waiting, Thread, Channel, empty_channel, slot_at}
use Rattle.rules.specs.Tables.{sender_word}
use Rattle.rules.specs.Fits.{IsObject}
use Rattle.rules.specs.Run.{finished, stuck, open_end, refused, ended, halted}
use Rattle.rules.specs.Listing.{bracket, a_line, end_word, answer_line, value_text, object_line, message_text, channel_line, sender_text, thread_parts, thread_line, numbered}
use Rattle.rules.proofs.ListLaws.{by_bool, below, every_at}
use Rattle.buffer.specs.Writing.{number_part}
use Rattle.listing.specs.StateWriting.{field_part, value_parts, object_parts, frame_parts}

-- ---- Values

module _ (v : Value) where
  pub is_absent_lem : v ≡ Absent → bytes " absent" ≡ space ∷ value_text v
  unfolding value_text
  is_absent_lem e = rw e refl

  pub is_object : (n : ℕ) → v ≡ Obj n → bytes " (obj" ++ (number_part n ++ bytes ")") ≡ space ∷ value_text v
  unfolding value_text bracket print_many
  is_object n e = rw (e, append-nil (decimal n)) refl

  pub is_channel_lem : (c : ℕ) → v ≡ Chan c → bytes " (chan" ++ (number_part c ++ bytes ")") ≡ space ∷ value_text v
  unfolding value_text bracket print_many
  is_channel_lem c e = rw (e, append-nil (decimal c)) refl

-- what is not absent is printed as a value
pub some_field : (v : Value) → (v ≡ Absent → ⊥) → space ∷ value_text v ≡ field_part v
unfolding field_part
some_field Absent some = absurd (some refl)
some_field (Obj n) some = refl
some_field (Chan c) some = refl

pub some_message : (v : Value) → (v ≡ Absent → ⊥) → space ∷ value_text v ≡ space ∷ message_text v
unfolding message_text
some_message Absent some = absurd (some refl)
some_message (Obj n) some = refl
some_message (Chan c) some = refl

-- ---- Lines

-- parts, each after a space, and then the rest
parts : List (List ℕ) → List ℕ → List ℕ
parts [] rest = rest
parts (p ∷ ps) rest = space ∷ (p ++ parts ps rest)

many_then : (ps : List (List ℕ)) (rest : List ℕ) → print_many (λ p. p) ps ++ rest ≡ parts ps rest
unfolding print_many parts
many_then [] rest = refl
many_then (p ∷ ps) rest = ap (space ∷◌) (append_assoc p (print_many (λ q. q) ps) rest ∙ ap (p ++◌) (many_then ps rest))

line_is : (w : S.String) (ps : List (List ℕ)) → bytes "(" ++ (bytes w ++ parts ps (bytes ")\n")) ≡ a_line w ps
unfolding a_line bracket
line_is w ps =
    let many : List ℕ = print_many (λ p. p) ps in
    sym (ap (bytes "(" ++◌) (append_assoc (bytes w) (many ++ bytes ")") (bytes "\n") ∙ ap (bytes w ++◌) (append_assoc many (bytes ")") (bytes "\n") ∙ many_then ps (bytes ")\n"))))

pub object_line_lem : (n : ℕ) (o : Object) → bytes "(object" ++ (number_part n ++ (object_parts o ++ bytes ")\n")) ≡ object_line n o
unfolding object_line object_parts parts
object_line_lem n o =
    let traits : List (List ℕ) = cap_word o.cap ∷ decimal o.kind ∷ decimal o.creator ∷ map value_text o.fields in
    rw (many_then traits (bytes ")\n")) (line_is "object" (decimal n ∷ traits))

pub channel_line_lem : (c : ℕ) (x : Channel) → bytes "(channel" ++ (number_part c ++ ((space ∷ message_text x.message) ++ bytes ")\n")) ≡ channel_line c x
unfolding channel_line parts
channel_line_lem c x = line_is "channel" (decimal c ∷ message_text x.message ∷ [])

pub finished_line : (t : ℕ) (x : Thread) → length x.frames ≡ 0 → bytes "(thread" ++ (number_part t ++ bytes " finished)\n") ≡ thread_line t x
unfolding thread_line thread_parts parts
finished_line t x none = go x.frames none
  where
    go : (fs : List Frame) → length fs ≡ 0 → bytes "(thread" ++ (number_part t ++ bytes " finished)\n") ≡ a_line "thread" (decimal t ∷ thread_parts x.sender fs)
    go [] e = line_is "thread" (decimal t ∷ bytes "finished" ∷ [])
    go (f ∷ fs) e = absurd (omega (arith, e))

pub running_line : (t : ℕ) (x : Thread) {f : Frame} {fs : List Frame} → x.frames ≡ f ∷ fs
    → bytes "(thread" ++ (number_part t ++ ((space ∷ sender_text x.sender) ++ (frame_parts f ++ bytes ")\n"))) ≡ thread_line t x
unfolding thread_line thread_parts frame_parts parts
running_line t x {f} e =
    let inner : List (List ℕ) = decimal f.block ∷ decimal f.line ∷ map value_text f.slots in
    rw (e, many_then inner (bytes ")\n")) (line_is "thread" (decimal t ∷ sender_text x.sender ∷ inner))

pub ready_is : (d : Sender) → sender_word d ≡ 0 → bytes " ready" ≡ space ∷ sender_text d
unfolding sender_text
ready_is ready e = refl
ready_is (waiting i) e = absurd (omega (arith, e))

pub waiting_is : (d : Sender) → (sender_word d ≡ 0 → ⊥) → bytes " waiting" ≡ space ∷ sender_text d
unfolding sender_text
waiting_is ready e = absurd (e refl)
waiting_is (waiting i) e = refl

-- ---- Answers

pub refused_line : (k n : ℕ) → bytes "(refused" ++ (number_part k ++ (number_part n ++ bytes ")\n")) ≡ answer_line (refused k n)
unfolding answer_line parts
refused_line k n = line_is "refused" (decimal k ∷ decimal n ∷ [])

pub stopped_line : (k t b l m : ℕ)
    → bytes "(stopped" ++ (number_part k ++ (number_part t ++ (number_part b ++ (number_part l ++ (number_part m ++ bytes ")\n"))))) ≡ answer_line (halted k t b l m)
unfolding answer_line parts
stopped_line k t b l m = line_is "stopped" (decimal k ∷ decimal t ∷ decimal b ∷ decimal l ∷ decimal m ∷ [])

module _ (m : ℕ) where
  pub finished_end : bytes "(end" ++ (bytes " finished" ++ (number_part m ++ bytes ")\n")) ≡ answer_line (ended finished m)
  unfolding answer_line end_word parts
  finished_end = line_is "end" (bytes "finished" ∷ decimal m ∷ [])

  pub stuck_end : bytes "(end" ++ (bytes " stuck" ++ (number_part m ++ bytes ")\n")) ≡ answer_line (ended stuck m)
  unfolding answer_line end_word parts
  stuck_end = line_is "end" (bytes "stuck" ∷ decimal m ∷ [])

  pub open_end_lem : bytes "(end" ++ (bytes " open" ++ (number_part m ++ bytes ")\n")) ≡ answer_line (ended open_end m)
  unfolding answer_line end_word parts
  open_end_lem = line_is "end" (bytes "open" ∷ decimal m ∷ [])

-- ---- Rows of values

parts_snoc : (vs : List Value) (v : Value) → value_parts vs ++ (space ∷ value_text v) ≡ value_parts (vs ++ (v ∷ []))
unfolding value_parts print_many
parts_snoc [] v = ap (space ∷◌) (sym (append-nil (value_text v)))
parts_snoc (u ∷ vs) v = ap (space ∷◌) (append_assoc (value_text u) (print_many (λ p. p) (map value_text vs)) (space ∷ value_text v) ∙ ap (value_text u ++◌) (parts_snoc vs v))

pub no_parts : [] ≡ value_parts []
unfolding value_parts print_many
no_parts = refl

-- one slot more
pub slot_next : (vs : List Value) (i : ℕ) → i < length vs → value_parts (take i vs) ++ (space ∷ value_text (slot_at vs i)) ≡ value_parts (take (i + 1) vs)
unfolding slot_at
slot_next vs i there = rw (add-one i, take-suc vs i Absent there) (parts_snoc (take i vs) (get_or vs i Absent))

field_is_printed : (o : ℕ) (v : Value) → IsObject o v → field_part v ≡ space ∷ value_text v
unfolding field_part
field_is_printed o Absent is = absurd is
field_is_printed o (Obj n) is = refl
field_is_printed o (Chan c) is = absurd is

-- one field more; past the last one nothing is printed
pub field_next : (o : ℕ) (vs : List Value) (j : ℕ) → Every (IsObject o) vs → value_parts (take j vs) ++ field_part (slot_at vs j) ≡ value_parts (take (j + 1) vs)
unfolding slot_at field_part
field_next o vs j objects =
    by_bool (ltb j (length vs))
    (λ t. rw (field_is_printed o (get_or vs j Absent) (every_at (IsObject o) vs j Absent (below t) objects)) (slot_next vs j (below t)))
    (λ t. past (ltb-false j (length vs) t))
  where
    past : length vs ≤ j → value_parts (take j vs) ++ field_part (get_or vs j Absent) ≡ value_parts (take (j + 1) vs)
    past h = rw (get_or-eq_default vs Absent h, append-nil (value_parts (take j vs)), take_all j vs h, take_all (j + 1) vs (omega arith)) refl

-- ---- Rows of lines

module _ {A : Type 0} (f : ℕ → A → List ℕ) where
  pub no_lines : (n : ℕ) → [] ≡ numbered f n []
  unfolding numbered
  no_lines n = refl

  numbered_snoc : (n : ℕ) (xs : List A) (x : A) → numbered f n xs ++ f (n + length xs) x ≡ numbered f n (xs ++ (x ∷ []))
  unfolding numbered
  numbered_snoc n [] x = rw (add-zero n) (sym (append-nil (f n x)))
  numbered_snoc n (y ∷ xs) x =
      append_assoc (f n y) (numbered f (suc n) xs) (f (n + length (y ∷ xs)) x)
      ∙ ap (f n y ++◌) (ap (λ i. numbered f (suc n) xs ++ f i x) (add-suc n (length xs) ∙ sym (suc-add n (length xs))) ∙ numbered_snoc (suc n) xs x)

  -- one line more, of the number m
  pub line_next : (n : ℕ) (xs : List A) (i m : ℕ) (d : A) → n + i ≡ m → i < length xs → numbered f n (take i xs) ++ f m (get_or xs i d) ≡ numbered f n (take (suc i) xs)
  line_next n xs i m d e there =
      ap (λ k. numbered f n (take i xs) ++ f k (get_or xs i d)) (sym e ∙ ap (λ k. n + k) (sym (length-take-le i xs (omega arith))))
      ∙ numbered_snoc n (take i xs) (get_or xs i d) ∙ ap (numbered f n) (sym (take-suc xs i d there))

-- the first of a row is not printed
pub none_past_first : {A : Type 0} (xs : List A) → drop 1 (take 1 xs) ≡ []
none_past_first [] = refl
none_past_first (x ∷ xs) = refl

pub channel_next : (xs : List Channel) (c : ℕ) → 1 ≤ c → c < length xs
    → numbered channel_line 1 (drop 1 (take c xs)) ++ channel_line c (get_or xs c empty_channel) ≡ numbered channel_line 1 (drop 1 (take (c + 1) xs))
channel_next [] c some there = absurd (omega (arith, there))
channel_next (x ∷ xs) zero some there = absurd (omega (arith, some))
channel_next (x ∷ xs) (suc c) some there = rw (add-one (suc c)) (line_next channel_line 1 xs c (suc c) empty_channel (omega arith) (omega (arith, there)))
