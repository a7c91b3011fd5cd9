-- The state of a run fits its program after every turn: each way to move keeps every count within its most and every number in its range.
use Prim.Native.Nat.{ℕ, zero, suc, ◌+◌, ◌≤◌, ◌<◌}
use native.Mathlib.Omega.{arith}
use native.Mathlib.Nat.{add-zero, add-suc, suc-add, le_refl}
use native.Mathlib.Numerals.{add-one}
use mathlib.Core.Path.{◌≡◌, refl, sym, ap, ◌∙◌, subst}
use mathlib.Core.List.{List, [], ◌∷◌, ◌++◌, map}
use lib.ListN.{length, get_or, set, length-set, length-map, length-append}
use Rattle.rules.specs.declared.Cap.{Cap}
use Rattle.rules.specs.declared.Value.{Value}
use Rattle.rules.specs.declared.Value.TheVariants.{Absent, Obj, Chan}
use Rattle.rules.specs.declared.Mosts.{Mosts}
use Rattle.rules.specs.Mosts as Most
use Rattle.rules.specs.Lists.{Every}
use Rattle.rules.specs.Script.{Operand, reads, takes, Expr, Line, bind, give, Sort, thread, method, Program, no_kind, no_block, kind_at, block_at, line_of, line_at}
use Rattle.rules.specs.Reading.{first_slots, slot_of}
use Rattle.rules.specs.State.{Object, no_object, Frame, Sender, ready, waiting, Thread, no_thread, Channel, empty_channel, State, object_at, thread_at, channel_at, slot_at, start}
use Rattle.rules.specs.Turn.{Res, ok, wait, stop, Here, objects_of, object, put_thread, put_objects, put_channel, filled, with_slots, gives, set_field, started, renamed, copy_of, turn}
use Rattle.rules.specs.Run.{Run, Stop, none, stopped, fresh, after, advance, run_from, run}
use Rattle.rules.specs.Valid.{OperandOk, IsBlock, IsKind, ExprOk, LetsOk, BlockOk, KindOk, Valid}
use Rattle.rules.specs.Fits.{InRange, IsObject, ObjectFits, FrameFits, CallerFits, FramesFit, SenderFits, ThreadFits, ChannelFits, Fits}
use Rattle.rules.specs.Reach.{count, times}
use Rattle.rules.proofs.ListLaws.{impossible, every_map, every_get, every_at, every_set, every_append, every_image, every_snoc, length_snoc}
use Rattle.rules.proofs.Moves.{Gave, GaveAll, no_more, one_more, values_count, slots_count, FieldRead, FieldSwapped, MethodCalled, ObjectMade, MessagePut, MessageTaken, met_here, GraphCopied, swapped_objects, called_frame, made_object, copied_state, next_number, put_message, emptied, Step, by_value, by_field, by_swap, by_call, by_new, by_cast, by_spawn, by_put, by_sent, by_recv, by_copy, by_return, by_finish, here_at, moved}
use Rattle.rules.proofs.Counts.{object_self, every_time, place_there}
use Rattle.rules.proofs.Walks.{walked_values, walked_fields, walked_range, met_walked}

-- ---- The lines of a valid program

line_below : (es : List Expr) (w : Operand) (l : ℕ) (e : Expr) → line_of es w l ≡ bind e → l < length es
unfolding line_of
line_below [] w l e at_line = impossible cc
line_below (x ∷ es) w zero e at_line = omega arith
line_below (x ∷ es) w (suc l) e at_line = omega (arith, line_below es w l e at_line)

line_let : (P : Program) (o : Sort) (n : ℕ) (es : List Expr) (w : Operand) (l : ℕ) (e : Expr) → line_of es w l ≡ bind e → LetsOk P o n es → ExprOk P o (n + l) e
unfolding line_of
line_let P o n [] w l e at_line lets = impossible cc
line_let P o n (x ∷ es) w zero e at_line lets = let same : x ≡ e = cc in rw (add-zero n, ← same) lets.0
line_let P o n (x ∷ es) w (suc l) e at_line lets = rw (add-suc n l, ← suc-add n l) (line_let P o (suc n) es w l e at_line lets.1)

line_give : (es : List Expr) (w : Operand) (l : ℕ) (u : Operand) → line_of es w l ≡ give u → l ≤ length es → (l ≡ length es) × (w ≡ u)
unfolding line_of
line_give [] w l u at_line line = (omega arith, cc)
line_give (x ∷ es) w zero u at_line line = impossible cc
line_give (x ∷ es) w (suc l) u at_line line = let rest = line_give es w l u at_line (omega arith) in (omega (arith, rest.0), rest.1)

-- the line of a let is below the give's
pub let_below : (P : Program) (b l : ℕ) (e : Expr) → line_at P b l ≡ bind e → l < length (block_at P b).lets
unfolding line_at
let_below P b l e at_line = line_below (block_at P b).lets (block_at P b).result l e at_line

module _ (m : Mosts) (P : Program) (valid : Valid m P) where
  pub block_ok : (b : ℕ) → b < length P.blocks → BlockOk P (block_at P b)
  unfolding block_at
  block_ok b there = every_at (BlockOk P) P.blocks b no_block there valid.blocks

  pub kind_ok : (k : ℕ) → k < length P.kinds → KindOk P (kind_at P k)
  unfolding kind_at
  kind_ok k there = every_at (KindOk P) P.kinds k no_kind there valid.kinds

  -- what line l of block b says of the slots filled before it
  pub let_ok : (b l : ℕ) (e : Expr) → b < length P.blocks → line_at P b l ≡ bind e → ExprOk P (block_at P b).sort (first_slots (block_at P b).sort + l) e
  unfolding line_at
  let_ok b l e there at_line = line_let P _ _ (block_at P b).lets (block_at P b).result l e at_line (block_ok b there).lets

  pub give_ok : (b l : ℕ) (w : Operand) → b < length P.blocks → l ≤ length (block_at P b).lets → line_at P b l ≡ give w
      → OperandOk (block_at P b).sort (first_slots (block_at P b).sort + l) w
  unfolding line_at
  give_ok b l w there line at_line =
      let last = line_give (block_at P b).lets (block_at P b).result l w at_line line in
      rw (last.0, ← last.1) (block_ok b there).result

  pub method_ok : (k i : ℕ) → k < length P.kinds → i < length (kind_at P k).methods → IsBlock P method (get_or (kind_at P k).methods i 0)
  method_ok k i there has_method = every_at (IsBlock P method) (kind_at P k).methods i 0 has_method (kind_ok k there).methods

-- ---- More objects, threads and moves

range_more : {o o' c c' : ℕ} → o ≤ o' → c ≤ c' → (v : Value) → InRange o c v → InRange o' c' v
range_more ho hc Absent h = tt
range_more ho hc (Obj n) h = omega arith
range_more ho hc (Chan k) h = omega arith

pub is_object_more : {o o' : ℕ} → o ≤ o' → (v : Value) → IsObject o v → IsObject o' v
is_object_more ho Absent h = h
is_object_more ho (Obj n) h = omega arith
is_object_more ho (Chan k) h = h

sender_more : {n n' : ℕ} → n ≤ n' → (d : Sender) → SenderFits n d → SenderFits n' d
sender_more hn ready h = tt
sender_more hn (waiting i) h = omega arith

module _ (P : Program) {o o' c c' : ℕ} (ho : o ≤ o') (hc : c ≤ c') where
  object_more : (x : Object) → ObjectFits P o c x → ObjectFits P o' c' x
  object_more x h =
      record { kind = h.kind; creator = omega (arith, h.creator); count = h.count; few = h.few; fields = every_map (is_object_more ho) x.fields h.fields }

  frame_more : (f : Frame) → FrameFits P o c f → FrameFits P o' c' f
  frame_more f h = record { block = h.block; line = h.line; count = h.count; few = h.few; slots = every_map (range_more ho hc) f.slots h.slots }

  caller_more : (f : Frame) → CallerFits P o c f → CallerFits P o' c' f
  caller_more f h = record { frame = frame_more f h.frame; at_let = h.at_let }

  frames_more : (fs : List Frame) → FramesFit P o c fs → FramesFit P o' c' fs
  frames_more [] h = tt
  frames_more (f ∷ fs) h = (frame_more f h.0, every_map caller_more fs h.1)

  module _ {n n' : ℕ} (hn : n ≤ n') where
    thread_more : (t : Thread) → ThreadFits P n o c t → ThreadFits P n' o' c' t
    thread_more t h = record { few = h.few; frames = frames_more t.frames h.frames; sender = sender_more hn t.sender h.sender }

    channel_more : (x : Channel) → ChannelFits n o c x → ChannelFits n' o' c' x
    channel_more x h = record { message = range_more ho hc x.message h.message; number = omega (arith, h.number) }

fits_more : (m : Mosts) (P : Program) (S : State) {n n' : ℕ} → n ≤ n' → Fits m P n S → Fits m P n' S
fits_more m P S hn h =
    record {
      few_objects = h.few_objects;
      few_threads = h.few_threads;
      channel_each = h.channel_each;
      objects = h.objects;
      threads = every_map (thread_more P (omega arith) (omega arith) hn) S.threads h.threads;
      channels = every_map (channel_more P (omega arith) (omega arith) hn) S.channels h.channels;
    }

-- ---- States put together

-- a state of o objects and c threads
state_fits : (m : Mosts) (P : Program) (n : ℕ) (S : State) (o c : ℕ) → length S.objects ≡ o → length S.threads ≡ c → length S.channels ≡ c
    → o ≤ m.objects → c ≤ m.threads
    → Every (ObjectFits P o c) S.objects → Every (ThreadFits P n o c) S.threads → Every (ChannelFits n o c) S.channels → Fits m P n S
state_fits m P n S o c eo et ec few_objects few_threads objects threads channels =
    record {
      few_objects = omega arith;
      few_threads = omega arith;
      channel_each = ec ∙ sym et;
      objects = rw (eo, et) objects;
      threads = rw (eo, et) threads;
      channels = rw (eo, et) channels;
    }

module _ (m : Mosts) (P : Program) (n : ℕ) (S : State) (fits : Fits m P n S) where
  put_thread_fits : (t : ℕ) (fs : List Frame) (d : Sender) → length fs ≤ Most.frames → FramesFit P (length S.objects) (length S.threads) fs → SenderFits n d
      → Fits m P n (put_thread S t fs d)
  unfolding put_thread
  put_thread_fits t fs d few frames sender =
      state_fits m P n _ (length S.objects) (length S.threads) refl (length-set S.threads t _) fits.channel_each fits.few_objects fits.few_threads
      fits.objects (every_set _ S.threads t _ (record { few = few; frames = frames; sender = sender }) fits.threads) fits.channels

  put_channel_fits : (c : ℕ) (ch : Channel) → ChannelFits n (length S.objects) (length S.threads) ch → Fits m P n (put_channel S c ch)
  unfolding put_channel
  put_channel_fits c ch h =
      state_fits m P n _ (length S.objects) (length S.threads) refl refl (length-set S.channels c ch ∙ fits.channel_each) fits.few_objects fits.few_threads
      fits.objects fits.threads (every_set _ S.channels c ch h fits.channels)

  put_object_fits : (i : ℕ) (x : Object) → ObjectFits P (length S.objects) (length S.threads) x → Fits m P n (put_objects S (set S.objects i x))
  unfolding put_objects
  put_object_fits i x h =
      state_fits m P n _ (length S.objects) (length S.threads) (length-set S.objects i x) refl fits.channel_each fits.few_objects fits.few_threads
      (every_set _ S.objects i x h fits.objects) fits.threads fits.channels

  new_objects_fit : (xs : List Object) → Every (ObjectFits P (length S.objects + length xs) (length S.threads)) xs → length S.objects + length xs ≤ m.objects
      → Fits m P n (put_objects S (S.objects ++ xs))
  unfolding put_objects
  new_objects_fit xs h room =
      let ho : length S.objects ≤ length S.objects + length xs = omega arith in
      let hc = le_refl (length S.threads) in
      state_fits m P n _ (length S.objects + length xs) (length S.threads) (length-append S.objects xs) refl fits.channel_each room fits.few_threads
      (every_append _ S.objects xs (every_map (object_more P ho hc) S.objects fits.objects) h)
      (every_map (thread_more P ho hc (le_refl n)) S.threads fits.threads)
      (every_map (channel_more P ho hc (le_refl n)) S.channels fits.channels)

  started_fits : (b : ℕ) → FrameFits P (length S.objects) (length S.threads + 1) (record { block = b; line = 0; slots = Chan (length S.threads) ∷ [] })
      → length S.threads < m.threads → Fits m P n (started S b)
  unfolding started
  started_fits b h room =
      let ho = le_refl (length S.objects) in
      let hc : length S.threads ≤ length S.threads + 1 = omega arith in
      state_fits m P n _ (length S.objects) (length S.threads + 1) refl (length_snoc S.threads _) (length_snoc S.channels _ ∙ ap (◌+ 1) fits.channel_each)
      fits.few_objects (omega arith)
      (every_map (object_more P ho hc) S.objects fits.objects)
      (every_snoc _ S.threads _ (record { few = omega arith; frames = (h, tt); sender = tt }) (every_map (thread_more P ho hc (le_refl n)) S.threads fits.threads))
      (every_snoc _ S.channels _ (record { message = tt; number = omega arith }) (every_map (channel_more P ho hc (le_refl n)) S.channels fits.channels))

-- ---- Frames: the block has no more lets than slots are left

module _ (m : Mosts) (P : Program) (valid : Valid m P) {o c : ℕ} where
  frame_fits : (f : Frame) → f.block < length P.blocks → f.line ≤ length (block_at P f.block).lets
      → length f.slots ≡ first_slots (block_at P f.block).sort + f.line → Every (InRange o c) f.slots → FrameFits P o c f
  frame_fits f block line count slots =
      record { block = block; line = line; count = count; few = omega (arith, (block_ok m P valid f.block block).few); slots = slots }

  first_line_fits : (k : Sort) (b : ℕ) → IsBlock P k b → (vs : List Value) → length vs ≡ first_slots k → Every (InRange o c) vs
      → FrameFits P o c (record { block = b; line = 0; slots = vs })
  first_line_fits k b is_Block vs count slots = frame_fits _ is_Block.there (omega arith) (rw is_Block.sort (omega arith)) slots

  filled_fits : (f : Frame) (vs : List Value) (v : Value) → CallerFits P o c f → length vs ≡ length f.slots → Every (InRange o c) vs → InRange o c v
      → FrameFits P o c (filled f vs v)
  unfolding filled
  filled_fits f vs v h count slots value =
      frame_fits _ h.frame.block (omega (arith, h.at_let)) (omega (arith, length_snoc vs v, h.frame.count)) (every_snoc _ vs v value slots)

left_fits : (P : Program) (o c : ℕ) (f : Frame) (vs : List Value) → FrameFits P o c f → length vs ≡ length f.slots → Every (InRange o c) vs → FrameFits P o c (with_slots f vs)
unfolding with_slots
left_fits P o c f vs h count slots = record { block = h.block; line = h.line; count = count ∙ h.count; few = omega (arith, h.few); slots = slots }

-- ---- Operands give what the slots hold

module _ (o c : ℕ) where
  pub slot_range : (vs : List Value) (s : ℕ) → Every (InRange o c) vs → InRange o c (slot_at vs s)
  unfolding slot_at
  slot_range vs s slots = every_get (InRange o c) vs s Absent tt slots

  value_range : {os : List Object} {vs left : List Value} {w : Operand} {v : Value} → Gave os vs w v left → Every (InRange o c) vs → InRange o c v
  value_range {vs = vs} {w = w} gave slots = subst (InRange o c) gave.value (slot_range vs (slot_of w) slots)

  pub left_range : {os : List Object} {vs left : List Value} {v : Value} (w : Operand) → Gave os vs w v left → Every (InRange o c) vs → Every (InRange o c) left
  left_range (reads s) gave slots = rw gave.slots slots
  left_range {vs = vs} (takes s) gave slots = rw gave.slots (every_set (InRange o c) vs s Absent tt slots)

  pub all_values_range : {os : List Object} {vs us left : List Value} {ws : List Operand} → GaveAll os vs ws us left → Every (InRange o c) vs → Every (InRange o c) us
  all_values_range no_more slots = tt
  all_values_range (one_more {w = w} gave rest) slots = (value_range gave slots, all_values_range rest (left_range w gave slots))

  pub all_left_range : {os : List Object} {vs us left : List Value} {ws : List Operand} → GaveAll os vs ws us left → Every (InRange o c) vs → Every (InRange o c) left
  all_left_range no_more slots = slots
  all_left_range (one_more {w = w} gave rest) slots = all_left_range rest (left_range w gave slots)

  are_objects : (ns : List ℕ) → Every (InRange o c) (map Obj ns) → Every (IsObject o) (map Obj ns)
  are_objects [] h = tt
  are_objects (n ∷ ns) h = (h.0, are_objects ns h.1)

  pub object_in_range : (v : Value) → IsObject o v → InRange o c v
  object_in_range Absent h = absurd h
  object_in_range (Obj n) h = h
  object_in_range (Chan k) h = absurd h

-- where each object among the values has a place in the list, the copies are objects of those and as many more
renamed_fit : (o b : ℕ) (met : List ℕ) (vs : List Value) → Every (IsObject o) vs → ((x : ℕ) → 1 ≤ count x vs → 1 ≤ times x met)
    → Every (IsObject (b + length met)) (map (renamed b met) vs)
unfolding count renamed
renamed_fit o b met [] h all-met = tt
renamed_fit o b met (Absent ∷ vs) h all-met = absurd h.0
renamed_fit o b met (Obj n ∷ vs) h all-met =
    (omega (arith, place_there n met (all-met n (omega (arith, object_self n)))), renamed_fit o b met vs h.1 (λ x k. all-met x (omega arith)))
renamed_fit o b met (Chan c ∷ vs) h all-met = absurd h.0

pub each_frame : (P : Program) (o c : ℕ) (fs : List Frame) → FramesFit P o c fs → Every (FrameFits P o c) fs
each_frame P o c [] h = tt
each_frame P o c (f ∷ fs) h = (h.0, every_map (λ g k. k.frame) fs h.1)

-- ---- The parts of a state that fits; past the end of a list stands what fits any program

module _ {m : Mosts} {P : Program} {n : ℕ} {S : State} (fits : Fits m P n S) where
  pub object_fits : (i : ℕ) → i < length S.objects → ObjectFits P (length S.objects) (length S.threads) (object_at S.objects i)
  unfolding object_at
  object_fits i there = every_at _ S.objects i no_object there fits.objects

  pub fields_in_range : (i : ℕ) → i < length S.objects → Every (InRange (length S.objects) (length S.threads)) (object_at S.objects i).fields
  fields_in_range i there = every_map (object_in_range _ _) (object_at S.objects i).fields (object_fits i there).fields

  pub thread_fits : (t : ℕ) → ThreadFits P n (length S.objects) (length S.threads) (thread_at S t)
  unfolding thread_at
  thread_fits t =
      every_get (ThreadFits P n (length S.objects) (length S.threads)) S.threads t no_thread (record { few = omega arith; frames = tt; sender = tt }) fits.threads

  pub channel_fits : (c : ℕ) → ChannelFits n (length S.objects) (length S.threads) (channel_at S c)
  unfolding channel_at
  channel_fits c =
      every_get (ChannelFits n (length S.objects) (length S.threads)) S.channels c empty_channel (record { message = tt; number = omega arith }) fits.channels

-- ---- Where a turn stands

pub record HereFits (m : Mosts) (P : Program) (n : ℕ) (H : Here) : Type 0 where
  pub state : Fits m P n H.state
  pub self : H.self < length H.state.threads
  pub few : length H.callers < Most.frames
  pub frame : FrameFits P (length H.state.objects) (length H.state.threads) H.frame
  pub callers : Every (CallerFits P (length H.state.objects) (length H.state.threads)) H.callers

thread_there : (l : List Thread) (t : ℕ) (f : Frame) (fs : List Frame) → (get_or l t no_thread).frames ≡ f ∷ fs → t < length l
thread_there [] t f fs frames = impossible cc
thread_there (x ∷ l) zero f fs frames = omega arith
thread_there (x ∷ l) (suc t) f fs frames = omega (arith, thread_there l t f fs frames)

pub here_fits : (m : Mosts) (P : Program) (n : ℕ) (S : State) (t : ℕ) (f : Frame) (fs : List Frame) → Fits m P n S → (thread_at S t).frames ≡ f ∷ fs
    → HereFits m P n (here_at S t f fs)
unfolding thread_at
here_fits m P n S t f fs fits frames =
    let its = thread_fits fits t in
    let few : length (f ∷ fs) ≤ Most.frames = rw frames at its.few in
    let both : FramesFit P (length S.objects) (length S.threads) (f ∷ fs) = rw frames at its.frames in
    record { state = fits; self = thread_there S.threads t f fs frames; few = few; frame = both.0; callers = both.1 }

module _ (m : Mosts) (P : Program) (n : ℕ) (H : Here) (here : HereFits m P n H) where
  -- in range of the state before the turn
  abbrev ValueIn : Value → Type 0
  ValueIn v = InRange (length H.state.objects) (length H.state.threads) v

  abbrev ValuesIn : List Value → Type 0
  ValuesIn vs = Every (InRange (length H.state.objects) (length H.state.threads)) vs

  value_in : {w : Operand} {v : Value} {vs : List Value} → Gave (objects_of H) H.frame.slots w v vs → ValueIn v
  value_in gave = value_range _ _ gave here.frame.slots

  left_in : (w : Operand) {v : Value} {vs : List Value} → Gave (objects_of H) H.frame.slots w v vs → ValuesIn vs
  left_in w gave = left_range _ _ w gave here.frame.slots

  target_in : (vs : List Value) (s : ℕ) (v : Value) → ValuesIn vs → slot_at vs s ≡ v → ValueIn v
  target_in vs s v slots target = subst ValueIn target (slot_range _ _ vs s slots)

  object_here : (i : ℕ) → i < length H.state.objects → ObjectFits P (length H.state.objects) (length H.state.threads) (object H i)
  unfolding object
  object_here i there = object_fits here.state i there

  fields_in : (i : ℕ) → i < length H.state.objects → ValuesIn (object H i).fields
  unfolding object
  fields_in i there = fields_in_range here.state i there

  -- ---- Each way to move

  module _ (valid : Valid m P) where
    abbrev AtLet : Type 0
    AtLet = H.frame.line < length (block_at P H.frame.block).lets

    let_line_lem : {e : Expr} → line_at P H.frame.block H.frame.line ≡ bind e → AtLet
    let_line_lem at_line = let_below P _ _ _ at_line

    -- the state before the turn, of which one move more is counted
    counted : Fits m P (suc n) H.state
    counted = fits_more m P H.state (omega arith) here.state

    -- the let gives v in a state S with as many objects and threads, or more
    gives_fits : AtLet → (S : State) → Fits m P (suc n) S → length H.state.objects ≤ length S.objects → length H.state.threads ≤ length S.threads
        → (vs : List Value) (v : Value) → length vs ≡ length H.frame.slots → ValuesIn vs → InRange (length S.objects) (length S.threads) v
        → Fits m P (suc n) (gives S H vs v)
    unfolding gives
    gives_fits at_let S fits ho hc vs v count slots value =
        let caller : CallerFits P (length S.objects) (length S.threads) H.frame = record { frame = frame_more P ho hc H.frame here.frame; at_let = at_let } in
        put_thread_fits m P (suc n) S fits H.self _ ready here.few
        (filled_fits m P valid H.frame vs v caller count (every_map (range_more ho hc) vs slots) value, every_map (caller_more P ho hc) H.callers here.callers) tt

    -- the let gives v, and nothing else changes
    gives_here_fits : AtLet → (vs : List Value) (v : Value) → length vs ≡ length H.frame.slots → ValuesIn vs → ValueIn v → Fits m P (suc n) (gives H.state H vs v)
    gives_here_fits at_let vs v count slots value = gives_fits at_let H.state counted (le_refl _) (le_refl _) vs v count slots value

    operand_fits : AtLet → (w : Operand) (v : Value) (vs : List Value) → Gave (objects_of H) H.frame.slots w v vs → Fits m P (suc n) (gives H.state H vs v)
    operand_fits at_let w v vs gave = gives_here_fits at_let vs v gave.count (left_in w gave) (value_in gave)

    field_fits : AtLet → (s f i : ℕ) → FieldRead H s f i → Fits m P (suc n) (gives H.state H H.frame.slots (slot_at (object H i).fields f))
    field_fits at_let s f i read =
        let there = target_in H.frame.slots s (Obj i) here.frame.slots read.target in
        gives_here_fits at_let H.frame.slots _ refl here.frame.slots (slot_range _ _ (object H i).fields f (fields_in i there))

    set_field_fits : (f i u : ℕ) → i < length H.state.objects → u < length H.state.objects
        → ObjectFits P (length H.state.objects) (length H.state.threads) (set_field (object H i) f (Obj u))
    unfolding set_field
    set_field_fits f i u hi hu =
        let old = object_here i hi in
        let kept = length-set (object H i).fields f (Obj u) in
        record {
          kind = old.kind;
          creator = old.creator;
          count = kept ∙ old.count;
          few = omega (arith, old.few);
          fields = every_set _ (object H i).fields f (Obj u) hu old.fields;
        }

    swap_fits : AtLet → (s f : ℕ) (w : Operand) (i u : ℕ) (vs : List Value) → FieldSwapped H s f w i u vs
        → Fits m P (suc n) (gives (put_objects H.state (swapped_objects H i f u)) H vs (slot_at (object H i).fields f))
    unfolding put_objects
    swap_fits at_let s f w i u vs swapped =
        let left = left_in w swapped.gave in
        let there = target_in vs s (Obj i) left swapped.target in
        let same : length (swapped_objects H i f u) ≡ length (objects_of H) = length-set (objects_of H) i _ in
        gives_fits at_let _ (put_object_fits m P (suc n) H.state counted i _ (set_field_fits f i u there (value_in swapped.gave))) (omega arith) (le_refl _)
        vs _ swapped.gave.count left (rw same (slot_range _ _ (object H i).fields f (fields_in i there)))

    call_fits : AtLet → (s i : ℕ) (w : Operand) (j : ℕ) (v : Value) (vs : List Value) → MethodCalled P H s i w j v vs
        → Fits m P (suc n) (put_thread H.state H.self (called_frame P H i j v ∷ with_slots H.frame vs ∷ H.callers) ready)
    unfolding with_slots
    call_fits at_let s i w j v vs called =
        let left = left_in w called.gave in
        let target = target_in vs s (Obj j) left called.target in
        let is_method = method_ok m P valid (object H j).kind i (object_here j target).kind called.has_method in
        put_thread_fits m P (suc n) H.state counted H.self _ ready called.room (
          first_line_fits m P valid method _ is_method (Obj j ∷ v ∷ []) refl (target, (value_in called.gave, tt)),
          (record { frame = left_fits P _ _ H.frame vs here.frame called.gave.count left; at_let = at_let }, here.callers),
        ) tt

    made_object_fits : (k : Cap) (i : ℕ) (ws : List Operand) (js : List ℕ) (vs : List Value) → IsKind P i (length ws) → ObjectMade m H k ws js vs
        → ObjectFits P (length H.state.objects + 1) (length H.state.threads) (made_object H k i js)
    made_object_fits k i ws js vs is_kind made =
        let count = values_count made.gave ∙ is_kind.fields in
        record {
          kind = is_kind.there;
          creator = here.self;
          count = count;
          few = omega (arith, (kind_ok m P valid i is_kind.there).few_fields);
          fields = every_map (is_object_more (omega arith)) (map Obj js) (are_objects _ _ js (all_values_range _ _ made.gave here.frame.slots));
        }

    new_fits : AtLet → (k : Cap) (i : ℕ) (ws : List Operand) (js : List ℕ) (vs : List Value) → IsKind P i (length ws) → ObjectMade m H k ws js vs
        → Fits m P (suc n) (gives (put_objects H.state (objects_of H ++ (made_object H k i js ∷ []))) H vs (Obj (length (objects_of H))))
    unfolding put_objects
    new_fits at_let k i ws js vs is_kind made =
        let longer = length_snoc (objects_of H) (made_object H k i js) in
        gives_fits at_let _ (new_objects_fit m P (suc n) H.state counted (made_object H k i js ∷ []) (made_object_fits k i ws js vs is_kind made, tt) (omega (arith, made.room))) (omega arith) (le_refl _)
        vs _ (slots_count made.gave) (all_left_range _ _ made.gave here.frame.slots) (omega arith)

    -- the objects met from object i
    met_here_lem : (i : ℕ) → i < length H.state.objects → (x : ℕ) → 1 ≤ times x (met_here H i) → x < length H.state.objects
    met_here_lem i there = walked_range (objects_of H) _ _ (fields_in_range here.state) (there, tt) (met_walked (objects_of H) (Obj i ∷ []))

    -- a field of an object that is met is met too, so its copy is among the new objects
    copy_fits : (k : Cap) (i : ℕ) → i < length H.state.objects → (x : ℕ) → 1 ≤ times x (met_here H i)
        → ObjectFits P (length (objects_of H) + length (met_here H i)) (length H.state.threads) (copy_of H k (met_here H i) x)
    unfolding copy_of object
    copy_fits k i there x met =
        let old = object_here x (met_here_lem i there x met) in
        let same = length-map (object H x).fields (renamed (length (objects_of H)) (met_here H i)) in
        record {
          kind = old.kind;
          creator = here.self;
          count = same ∙ old.count;
          few = omega (arith, old.few);
          fields =
              renamed_fit _ (length (objects_of H)) (met_here H i) (object H x).fields old.fields
              (λ y h. walked_fields (objects_of H) (met_walked (objects_of H) (Obj i ∷ [])) x y met h);
        }

    copied_fits : AtLet → (k : Cap) (s i : ℕ) → GraphCopied m H s i → Fits m P (suc n) (copied_state H k i)
    unfolding put_objects count
    copied_fits at_let k s i copied =
        let there = target_in H.frame.slots s (Obj i) here.frame.slots copied.target in
        let met = met_here H i in
        let copies = map (copy_of H k met) met in
        let many : length copies ≡ length met = length-map met (copy_of H k met) in
        let longer = length-append (objects_of H) copies in
        let first = place_there i met (walked_values (objects_of H) (met_walked (objects_of H) (Obj i ∷ [])) i (omega (arith, object_self i))) in
        gives_fits at_let _
        (new_objects_fit m P (suc n) H.state counted copies (rw many (every_image _ (copy_of H k met) met (every_time _ met (copy_fits k i there)))) (omega (arith, copied.room)))
        (omega arith) (le_refl _) H.frame.slots _ refl here.frame.slots (omega arith)

    spawn_fits : AtLet → (b : ℕ) → IsBlock P thread b → length H.state.threads < m.threads
        → Fits m P (suc n) (gives (started H.state b) H H.frame.slots (Chan (length H.state.threads)))
    unfolding started
    spawn_fits at_let b is_thread room =
        let longer : length (started H.state b).threads ≡ length H.state.threads + 1 = length_snoc H.state.threads _ in
        gives_fits at_let (started H.state b)
        (started_fits m P (suc n) H.state counted b (first_line_fits m P valid thread b is_thread (Chan (length H.state.threads) ∷ []) refl (omega arith, tt)) room)
        (le_refl _) (omega arith) H.frame.slots _ refl here.frame.slots (omega arith)

    put_fits : (s : ℕ) (w : Operand) (c i : ℕ) (vs : List Value) → MessagePut H s w c i vs
        → Fits m P (suc n) (put_thread (put_message H c i) H.self (with_slots H.frame vs ∷ H.callers) (waiting (next_number H c)))
    unfolding put_channel
    put_fits s w c i vs put =
        let its = channel_fits here.state c in
        let number : next_number H c ≤ suc n = omega (arith, its.number) in
        put_thread_fits m P (suc n) _ (put_channel_fits m P (suc n) H.state counted c _ (record { message = value_in put.gave; number = number }))
        H.self _ _ here.few (left_fits P _ _ H.frame vs here.frame put.gave.count (left_in w put.gave), here.callers) number

    sent_fits : AtLet → (s i c : ℕ) → MessageTaken H s i c → Fits m P (suc n) (gives H.state H H.frame.slots (Chan c))
    sent_fits at_let s i c taken =
        gives_here_fits at_let H.frame.slots (Chan c) refl here.frame.slots (target_in H.frame.slots s (Chan c) here.frame.slots taken.target)

    recv_fits : AtLet → (c : ℕ) → Fits m P (suc n) (gives (emptied H c) H H.frame.slots (channel_at H.state c).message)
    unfolding put_channel
    recv_fits at_let c =
        let its = channel_fits here.state c in
        gives_fits at_let _ (put_channel_fits m P (suc n) H.state counted c _ (record { message = tt; number = omega (arith, its.number) })) (le_refl _) (le_refl _)
        H.frame.slots _ refl here.frame.slots its.message

    return_fits : (f : Frame) (fs : List Frame) (v : Value) → H.callers ≡ f ∷ fs → ValueIn v → Fits m P (suc n) (put_thread H.state H.self (filled f f.slots v ∷ fs) ready)
    return_fits f fs v e value =
        let callers : Every (CallerFits P (length H.state.objects) (length H.state.threads)) (f ∷ fs) = rw e at here.callers in
        let few : length (f ∷ fs) < Most.frames = rw e at here.few in
        put_thread_fits m P (suc n) H.state counted H.self _ ready (omega arith)
        (filled_fits m P valid f f.slots v callers.0 refl callers.0.frame.slots value, callers.1) tt

    finish_fits : Fits m P (suc n) (put_thread H.state H.self [] ready)
    finish_fits = put_thread_fits m P (suc n) H.state counted H.self [] ready (omega arith) tt tt

    -- whichever way it was
    pub step_fits : (x : Line) (S' : State) → line_at P H.frame.block H.frame.line ≡ x → Step m P H x S' → Fits m P (suc n) S'
    step_fits x S' at_line (by_value w v vs gave) = operand_fits (let_line_lem at_line) w v vs gave
    step_fits x S' at_line (by_field s f i read) = field_fits (let_line_lem at_line) s f i read
    step_fits x S' at_line (by_swap s f w i u vs swapped) = swap_fits (let_line_lem at_line) s f w i u vs swapped
    step_fits x S' at_line (by_call s i w j v vs called) = call_fits (let_line_lem at_line) s i w j v vs called
    step_fits x S' at_line (by_new k i ws js vs made) = new_fits (let_line_lem at_line) k i ws js vs (let_ok m P valid _ _ _ here.frame.block at_line).0 made
    step_fits x S' at_line (by_cast k w i vs same) = operand_fits (let_line_lem at_line) w (Obj i) vs same.gave
    step_fits x S' at_line (by_spawn b room) = spawn_fits (let_line_lem at_line) b (let_ok m P valid _ _ _ here.frame.block at_line) room
    step_fits x S' at_line (by_put s w c i vs put) = put_fits s w c i vs put
    step_fits x S' at_line (by_sent s w i c taken) = sent_fits (let_line_lem at_line) s i c taken
    step_fits x S' at_line (by_recv s c received) = recv_fits (let_line_lem at_line) c
    step_fits x S' at_line (by_copy k s i copied) = copied_fits (let_line_lem at_line) k s i copied
    step_fits x S' at_line (by_return w v vs f fs gave callers) = return_fits f fs v callers (value_in gave)
    step_fits x S' at_line (by_finish w v vs gave callers) = finish_fits

-- ---- Turns and runs

-- a turn that moves keeps a state that fits
pub keeps_turn : (m : Mosts) (P : Program) (n : ℕ) (S S' : State) (t : ℕ) → Valid m P → Fits m P n S → turn m P S t ≡ ok S' → Fits m P (suc n) S'
keeps_turn m P n S S' t valid fits e =
    let way = moved m P S S' t e in
    step_fits m P n _ (here_fits m P n S t way.frame way.callers fits way.frames) valid way.line S' way.at_line way.step

module _ (m : Mosts) (P : Program) (valid : Valid m P) where
  keeps_after : (S : State) (n t : ℕ) → Fits m P n S → (r : Res State) → turn m P S t ≡ r → Fits m P (after S n t r).moves (after S n t r).state
  unfolding after
  keeps_after S n t fits (ok S') e = rw (add-one n) (keeps_turn m P n S S' t valid fits e)
  keeps_after S n t fits wait e = fits
  keeps_after S n t fits (stop k) e = fits

  keeps_advance : (S : State) (n : ℕ) (q : Stop) (t : ℕ) → Fits m P n S → Fits m P (advance m P S n q t).moves (advance m P S n q t).state
  unfolding advance
  keeps_advance S n none t fits = keeps_after S n t fits (turn m P S t) refl
  keeps_advance S n (stopped k i b l) t fits = fits

  keeps_from : (r : Run) (ts : List ℕ) → Fits m P r.moves r.state → Fits m P (run_from m P r ts).moves (run_from m P r ts).state
  unfolding run_from
  keeps_from r [] fits = fits
  keeps_from r (t ∷ ts) fits = keeps_from (advance m P r.state r.moves r.stop t) ts (keeps_advance r.state r.moves r.stop t fits)

  start_fits : 1 ≤ m.threads → Fits m P 0 start
  unfolding start
  start_fits room =
      state_fits m P 0 _ 0 1 refl refl refl (omega arith) room tt
      (record { few = omega arith; frames = (first_line_fits m P valid thread 0 valid.first (Absent ∷ []) refl (tt, tt), tt); sender = tt }, tt)
      (record { message = tt; number = omega arith }, tt)

-- a run from a fresh start, which has made so many moves
pub keeps_run : (m : Mosts) (P : Program) (ts : List ℕ) → Valid m P → 1 ≤ m.threads → Fits m P (run m P ts).moves (run m P ts).state
unfolding run
keeps_run m P ts valid room = keeps_from m P valid fresh ts (start_fits m P valid room)

-- ---- At most one move a turn

module _ (m : Mosts) (P : Program) where
  after_few : (S : State) (n t : ℕ) (r : Res State) → (after S n t r).moves ≤ n + 1
  unfolding after
  after_few S n t (ok S') = omega arith
  after_few S n t wait = omega arith
  after_few S n t (stop k) = omega arith

  advance_few : (S : State) (n : ℕ) (q : Stop) (t : ℕ) → (advance m P S n q t).moves ≤ n + 1
  unfolding advance
  advance_few S n none t = after_few S n t (turn m P S t)
  advance_few S n (stopped k i b l) t = omega arith

  from_few : (r : Run) (ts : List ℕ) → (run_from m P r ts).moves ≤ r.moves + length ts
  unfolding run_from
  from_few r [] = omega arith
  from_few r (t ∷ ts) = omega (arith, advance_few r.state r.moves r.stop t, from_few (advance m P r.state r.moves r.stop t) ts)

pub moves_few : (m : Mosts) (P : Program) (ts : List ℕ) → (run m P ts).moves ≤ length ts
unfolding run
moves_few m P ts = omega (arith, from_few m P fresh ts)

-- under document 01's mosts: no number of a state is above them, and no message number above the most turns
pub fits_run : (P : Program) (ts : List ℕ) → Valid Most.mosts P → length ts ≤ Most.turns → Fits Most.mosts P Most.turns (run Most.mosts P ts).state
fits_run P ts valid few = fits_more Most.mosts P _ (omega (arith, moves_few Most.mosts P ts)) (keeps_run Most.mosts P ts valid (omega arith))
