-- Each word of both tables fits in 16 bits, and nothing of a valid program is cut off: each number is within its most.
use Prim.Native.Nat.{ℕ, suc, ◌+◌, ◌*◌, ◌≤◌, ◌<◌}
use native.Mathlib.Omega.{arith}
use mathlib.Core.Path.{◌≡◌}
use mathlib.Core.List.{List, [], ◌∷◌, ◌++◌, map}
use lib.ListN.{length, length-append}
use Rattle.rules.specs.declared.Cap.{Cap}
use Rattle.rules.specs.declared.Cap.TheVariants.{Imm, Iso, Local, Unsafe}
use Rattle.rules.specs.declared.Value.{Value}
use Rattle.rules.specs.declared.Value.TheVariants.{Absent, Obj, Chan}
use Rattle.rules.specs.Mosts as Most
use Rattle.rules.specs.Lists.{Every, pad, cells}
use Rattle.rules.specs.Script.{Operand, reads, takes, Expr, value, field, swap, call, new, cast, spawn, send, recv, copy, bind, Sort, thread, method, Kind, Form, kind, opens, line, Block, Edition, edition1, edition2, Program, rank, let_lines, block_lines, kind_lines, lines_of}
use Rattle.rules.specs.State.{Object, Frame, Sender, ready, waiting, Thread, no_thread, Channel, empty_channel, State}
use Rattle.rules.specs.Valid.{OperandOk, ExprOk, LetsOk, BlockOk, KindOk, Valid}
use Rattle.rules.specs.Fits.{InRange, ObjectFits, FrameFits, SenderFits, ThreadFits, ChannelFits, Fits}
use Rattle.rules.specs.Tables.{operand_word, operand_item, line_words, edition_word, row, first_lines, used_program_words, program_words, word, unmade, no_frame, object_words, object_cells, frame_words, sender_word, outermost_first, thread_words, channel_words, used_state_words, counted_words, state_words}
use Rattle.rules.specs.Holders.{holders}
use Rattle.rules.proofs.ListLaws.{every_map, every_append, every_image, every_pad, length_pad, length_cells}
use Rattle.rules.proofs.Accepted.{line_count_lem, table_lines}
use Rattle.rules.proofs.Keeps.{object_in_range, each_frame}
use Rattle.rules.proofs.HolderLaws.{holders_few}
use Rattle.rules.proofs.TableWords.{every_outermost}

used_program_words_length : (P : Program) → length (used_program_words P) ≡ 72 + length (lines_of P) * 8
unfolding used_program_words row
used_program_words_length P = simp (length-append, length_pad, length_cells row 8 (λ F. length_pad 8 0 (line_words F))) (omega arith)

-- nothing of a valid program is cut off
pub program_uncut : (P : Program) → Valid Most.mosts P → length (used_program_words P) ≤ Most.words
program_uncut P valid = omega (arith, used_program_words_length P, table_lines P valid)

every_cells : {A : Type 0} (Q : ℕ → Type 0) (f : A → List ℕ) (xs : List A) → Every (λ x. Every Q (f x)) xs → Every Q (cells f xs)
unfolding cells
every_cells Q f [] e = tt
every_cells Q f (x ∷ xs) e = every_append Q (f x) (cells f xs) e.0 (every_cells Q f xs e.1)

-- ---- each word fits in 16 bits

abbrev pub In16Bits : ℕ → Type 0
In16Bits w = w < 65536

record AllIn16Bits (ws : List ℕ) : Type 0 where
  each : Every In16Bits ws

-- the parts of a table: words as they are, words made up by 0, records made up by d, one part after the other
words_small : (ws : List ℕ) → Every In16Bits ws → AllIn16Bits ws
words_small ws h = record { each = h }

padded_small : (k : ℕ) (ws : List ℕ) → Every In16Bits ws → AllIn16Bits (pad k 0 ws)
padded_small k ws h = record { each = every_pad In16Bits k 0 ws (omega arith) h }

records_small : {A : Type 0} (f : A → List ℕ) (k : ℕ) (d : A) (xs : List A) → AllIn16Bits (f d) → Every (λ x. AllIn16Bits (f x)) xs → AllIn16Bits (cells f (pad k d xs))
records_small f k d xs h e =
    record { each = every_cells In16Bits f (pad k d xs) (every_map (λ x a. a.each) (pad k d xs) (every_pad (λ x. AllIn16Bits (f x)) k d xs h e)) }

infixr 5 ◌then◌
◌then◌ : {ws vs : List ℕ} → AllIn16Bits ws → AllIn16Bits vs → AllIn16Bits (ws ++ vs)
◌then◌ {ws} {vs} a b = record { each = every_append In16Bits ws vs a.each b.each }

rank_small : (k : Cap) → In16Bits (rank k)
rank_small Imm = omega arith
rank_small Iso = omega arith
rank_small Local = omega arith
rank_small Unsafe = omega arith

-- an object's words, however many places hold it
record ObjectSmall (x : Object) : Type 0 where
  with_count : (held : ℕ) → In16Bits held → AllIn16Bits (object_words held x)

objects_small : (c : ℕ → ℕ) → ((i : ℕ) → In16Bits (c i)) → (n : ℕ) (xs : List Object) → Every ObjectSmall xs → AllIn16Bits (object_cells c n xs)
unfolding object_cells
objects_small c few n [] h = words_small [] tt
objects_small c few n (x ∷ xs) h = h.0.with_count (c n) (few n) then objects_small c few (suc n) xs h.1

unmade_small : ObjectSmall unmade
unfolding object_words pad
unmade_small = record { with_count = λ held few. omega arith }

no_frame_small : AllIn16Bits (frame_words no_frame)
unfolding frame_words pad
no_frame_small = omega arith

-- what a state holds: o objects, c channels, n moves
module _ (P : Program) (valid : Valid Most.mosts P) (n o c : ℕ) (moves : n ≤ Most.turns) (few_objects : o ≤ (Most.mosts).objects) (few-channels : c ≤ (Most.mosts).threads) where
  value_small : (v : Value) → InRange o c v → In16Bits (word v)
  value_small Absent h = omega arith
  value_small (Obj i) h = omega arith
  value_small (Chan i) h = omega arith

  values_small : (k : ℕ) (vs : List Value) → Every (InRange o c) vs → AllIn16Bits (map word (pad k Absent vs))
  values_small k vs h =
      words_small _ (every_image In16Bits word (pad k Absent vs) (every_pad (λ v. In16Bits (word v)) k Absent vs (omega arith) (every_map value_small vs h)))

  object_small : (x : Object) → ObjectFits P o c x → ObjectSmall x
  unfolding object_words
  object_small x h =
      record {
        with_count = λ held few.
            words_small (rank x.cap ∷ x.kind ∷ x.creator ∷ held ∷ []) (omega (arith, rank_small x.cap, h.kind, valid.few_kinds, h.creator))
            then values_small _ x.fields (every_map (object_in_range o c) x.fields h.fields);
      }

  frame_small : (f : Frame) → FrameFits P o c f → AllIn16Bits (frame_words f)
  unfolding frame_words
  frame_small f h =
      words_small (f.block ∷ f.line ∷ length f.slots ∷ []) (omega (arith, h.block, valid.few_blocks, h.count, h.few))
      then values_small _ f.slots h.slots

  sender_small : (d : Sender) → SenderFits n d → In16Bits (sender_word d)
  sender_small ready h = omega arith
  sender_small (waiting i) h = omega arith

  thread_small : (t : Thread) → ThreadFits P n o c t → AllIn16Bits (thread_words t)
  unfolding thread_words
  thread_small t h =
      words_small (length t.frames ∷ sender_word t.sender ∷ []) (omega (arith, h.few, sender_small t.sender h.sender))
      then records_small frame_words _ no_frame (outermost_first t.frames) no_frame_small
      (every_outermost (λ f. AllIn16Bits (frame_words f)) t.frames (every_map frame_small t.frames (each_frame P o c t.frames h.frames)))

  channel_small : (x : Channel) → ChannelFits n o c x → AllIn16Bits (channel_words x)
  unfolding channel_words
  channel_small x h = words_small _ (omega (arith, value_small x.message h.message, h.number))

  no_thread_small : AllIn16Bits (thread_words no_thread)
  no_thread_small = thread_small no_thread (record { few = omega arith; frames = tt; sender = tt })

  empty_channel_small : AllIn16Bits (channel_words empty_channel)
  empty_channel_small = channel_small empty_channel (record { message = tt; number = omega arith })

pub state_words_small : {P : Program} {n : ℕ} {S : State} → Fits Most.mosts P n S → n ≤ Most.turns → Valid Most.mosts P → Every In16Bits (state_words S)
unfolding counted_words used_state_words
state_words_small {P} {n} {S} fits moves valid = (padded_small Most.words (used_state_words (holders S) S) used.each).each
  where
    used : AllIn16Bits (used_state_words (holders S) S)
    used =
        let o = fits.few_objects in
        let c = fits.few_threads in
        padded_small _ (length S.objects ∷ length S.threads ∷ []) (omega arith)
        then objects_small (holders S) (holders_few P n S fits) 0 (pad (Most.mosts).objects unmade S.objects)
        (every_pad ObjectSmall _ unmade S.objects unmade_small (every_map (object_small P valid n _ _ moves o c) S.objects fits.objects))
        then records_small thread_words _ no_thread S.threads (no_thread_small P valid n _ _ moves o c) (every_map (thread_small P valid n _ _ moves o c) S.threads fits.threads)
        then records_small channel_words _ empty_channel S.channels (empty_channel_small P valid n _ _ moves o c) (every_map (channel_small P valid n _ _ moves o c) S.channels fits.channels)

module _ {P : Program} (valid : Valid Most.mosts P) where
  -- of a block in which k slots are filled
  operand_small : (o : Sort) (k : ℕ) → k ≤ Most.slots → (w : Operand) → OperandOk o k w → operand_word w < 2 * Most.slots
  operand_small o k l (reads s) h = omega arith
  operand_small o k l (takes s) h = omega (arith, h.0)

  let_small : (o : Sort) (k : ℕ) → k ≤ Most.slots → (e : Expr) → ExprOk P o k e → AllIn16Bits (line_words (line (bind e)))
  unfolding line_words
  let_small o k l (value w) h = omega (arith, operand_small o k l w h)
  let_small o k l (field s f) h = omega (arith, h.0, h.1)
  let_small o k l (swap s f w) h = omega (arith, h.0, h.1, operand_small o k l w h.2)
  let_small o k l (call s i w) h = omega (arith, h.0, h.1, operand_small o k l w h.2)
  let_small o k l (new c i ws) h =
      let items = every_image In16Bits operand_item ws (every_map (λ w a. omega (arith, operand_small o k l w a)) ws h.1) in
      record { each = (omega arith, (rank_small c, (omega (arith, h.0.there, valid.few_kinds), items))) }
  let_small o k l (cast c w) h = omega (arith, rank_small c, operand_small o k l w h)
  let_small o k l (spawn b) h = omega (arith, h.there, valid.few_blocks)
  let_small o k l (send s w) h = omega (arith, h.0, operand_small o k l w h.1)
  let_small o k l (recv s) h = omega arith
  let_small o k l (copy c s) h = omega (arith, rank_small c, h.0)

  abbrev Rows : List Form → Type 0
  Rows = Every (λ F. AllIn16Bits (line_words F))

  lets_small : (o : Sort) (k : ℕ) (es : List Expr) (Fs : List Form) → k + length es ≤ Most.slots → LetsOk P o k es → Rows Fs → Rows (let_lines es Fs)
  unfolding let_lines
  lets_small o k [] Fs l h r = r
  lets_small o k (e ∷ es) Fs l h r = (let_small o k (omega arith) e h.0, lets_small o (suc k) es Fs (omega arith) h.1 r)

  opener_small : (o : Sort) → AllIn16Bits (line_words (opens o))
  unfolding line_words
  opener_small thread = omega arith
  opener_small method = omega arith

  blocks_small : (Bs : List Block) → Every (BlockOk P) Bs → Rows (block_lines Bs)
  unfolding block_lines line_words
  blocks_small [] h = tt
  blocks_small (B ∷ Bs) h =
      let give-small = operand_small B.sort _ h.0.few B.result h.0.result in
      (opener_small B.sort, lets_small B.sort _ B.lets _ h.0.few h.0.lets (omega (arith, give-small), blocks_small Bs h.1))

  kind_small : (K : Kind) → KindOk P K → AllIn16Bits (line_words (kind K))
  unfolding line_words
  kind_small K h =
      record { each = (omega arith, (omega (arith, h.few_fields), every_image In16Bits suc K.methods (every_map (λ b k. omega (arith, k.there, valid.few_blocks)) K.methods h.methods))) }

  kinds_small : (Ks : List Kind) (Fs : List Form) → Every (KindOk P) Ks → Rows Fs → Rows (kind_lines Ks Fs)
  unfolding kind_lines
  kinds_small [] Fs h r = r
  kinds_small (K ∷ Ks) Fs h r = (kind_small K h.0, kinds_small Ks Fs h.1 r)

  -- each first line is a line's number
  first_lines_small : (i : ℕ) (Fs : List Form) → In16Bits (i + length Fs) → Every In16Bits (first_lines i Fs)
  unfolding first_lines
  first_lines_small i [] h = tt
  first_lines_small i (kind K ∷ Fs) h = first_lines_small (suc i) Fs (omega arith)
  first_lines_small i (opens o ∷ Fs) h = (omega arith, first_lines_small (suc i) Fs (omega arith))
  first_lines_small i (line x ∷ Fs) h = first_lines_small (suc i) Fs (omega arith)

  edition_small : (e : Edition) → edition_word e ≤ 2
  edition_small edition1 = omega arith
  edition_small edition2 = omega arith

  pub program_words_small : Every In16Bits (program_words P)
  unfolding program_words used_program_words lines_of row
  program_words_small = (padded_small Most.words (used_program_words P) used.each).each
    where
      few : In16Bits (length (lines_of P))
      few = omega (arith, line_count_lem P, valid.few_kinds, valid.few_blocks, valid.few_lets)

      rows : Every (λ F. Every In16Bits (row F)) (lines_of P)
      rows = every_map (λ F h. (padded_small _ (line_words F) h.each).each) (lines_of P) (kinds_small P.kinds _ valid.kinds (blocks_small P.blocks valid.blocks))

      used : AllIn16Bits (used_program_words P)
      used =
          padded_small _ (length P.kinds ∷ length P.blocks ∷ length (lines_of P) ∷ edition_word P.edition ∷ []) (omega (arith, valid.few_kinds, valid.few_blocks, few, edition_small P.edition))
          then padded_small _ (first_lines 0 (lines_of P)) (first_lines_small 0 (lines_of P) (omega (arith, few)))
          then words_small (cells row (lines_of P)) (every_cells In16Bits row (lines_of P) rows)
