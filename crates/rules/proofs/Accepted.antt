-- What an accepted program guarantees: its lines are those that were read, each passed the scan and none dangles, so it is valid.
use Prim.Native.Nat.{ℕ, suc, ◌+◌, ◌*◌, ◌≤◌, ◌<◌}
use native.Mathlib.Omega.{arith}
use native.Mathlib.Numerals.{add-one}
use mathlib.Core.Path.{◌≡◌, refl, ap, sym, ◌∙◌, subst}
use mathlib.Core.Bool.{Bool, true, false, not, ◌&&◌, false≢true, true≢false}
use mathlib.Core.List.{List, [], ◌∷◌, ◌++◌, map}
use lib.Dec.{ltb, leb, eqb}
use lib.ListN.{length, get_or}
use borrow.Author.Tests.{ltb-true, ltb-false, leb-false, eqb-true, eqb-false, not-false}
use Rattle.rules.specs.declared.Cap.{Cap}
use Rattle.rules.specs.declared.Cap.TheVariants.{Imm, Iso, Local, Unsafe}
use Rattle.rules.specs.declared.Mosts.{Mosts}
use Rattle.rules.specs.Mosts as Most
use Rattle.rules.specs.Lists.{any, Every}
use Rattle.rules.specs.Text.{lines, join}
use Rattle.rules.specs.Script.{Operand, reads, takes, Expr, value, field, swap, call, new, cast, spawn, send, recv, copy, bind, give, Sort, thread, method, Kind, Block, Form, kind, opens, line, Edition, edition1, edition2, Program, program_of, let_lines, block_lines, kind_lines, lines_of, no_block, kind_at, block_at}
use Rattle.rules.specs.Templates.{Taken, took, unfit, fit, show, script_t, head_of}
use Rattle.rules.specs.Reading.{slot_of, targets_in, operands_in, numbers_in, slots_in, outside, within, nothing, first_slots, slots_filled, is_outside, in_method, may_copy, in_edition, in_place, over_most, over255, is_unbound, takes_first, takes_self, one_more, read_on, Scan, faulty, scanned, scan, same_sort, is_sort, dangles, opened, turned_away, accepted, link, lines_before, linked, script_of, headed, script, reading}
use Rattle.rules.specs.Valid.{OperandOk, NotIso, IsBlock, IsKind, ExprOk, LetsOk, BlockOk, KindOk, let_count, Valid}
use Rattle.rules.proofs.ListLaws.{impossible, or_false, or_false₃, and_true, other_arm, every_map, every_parts, any_false}
use Rattle.rules.proofs.Printing.{fit_prints, scan_prints}
use Rattle.rules.proofs.Scanned.{sofar, Passed, Scanned, ended, passed, scan_passed, lines_scanned}

-- ---- What a form names, in a block of sort o of which n slots are filled, from the tests that it passed

operand_ok : (o : Sort) (n : ℕ) (w : Operand) → leb n (slot_of w) ≡ false → (in_method (within o n) && takes_first w) ≡ false → OperandOk o n w
unfolding in_method takes_first
operand_ok o n (reads s) a b = leb-false n s a
operand_ok thread n (takes s) a b = (leb-false n s a, tt)
operand_ok method n (takes s) a b = (leb-false n s a, let z = eqb-false s 0 b in omega arith)

-- in a method no operand takes slot 0, in a thread any may
none_takes_self : (o : Sort) (n : ℕ) (w : Operand) (ws : List Operand) → (in_method (within o n) && any takes_first (w ∷ ws)) ≡ false
    → ((in_method (within o n) && takes_first w) ≡ false) × ((in_method (within o n) && any takes_first ws) ≡ false)
unfolding in_method any
none_takes_self thread n w ws h = (refl, refl)
none_takes_self method n w ws h = or_false (takes_first w) (any takes_first ws) h

operands_ok : (o : Sort) (n : ℕ) (ws : List Operand) → Every (λ s. leb n s ≡ false) (map slot_of ws) → (in_method (within o n) && any takes_first ws) ≡ false → Every (OperandOk o n) ws
operands_ok o n [] a b = tt
operands_ok o n (w ∷ ws) a b = let c = none_takes_self o n w ws b in (operand_ok o n w a.0 c.0, operands_ok o n ws a.1 c.1)

-- its slots are filled, it takes no self, and its numbers are at most 255
record NamesOk (o : Sort) (n : ℕ) (F : Form) : Type 0 where
  targets : Every (λ s. s < n) (targets_in F)
  operands : Every (OperandOk o n) (operands_in F)
  numbers : Every (λ i. i ≤ Most.number) (numbers_in F)

names_ok : {m : Mosts} {d : Edition} {k b l n : ℕ} {o : Sort} {F : Form} → Passed m (sofar d k b l (within o n)) F → NamesOk o n F
unfolding is_unbound takes_self over255 slots_in slots_filled
names_ok {n} {o} {F} p =
    let slots = every_parts (λ s. leb n s ≡ false) (targets_in F) (map slot_of (operands_in F)) (any_false (leb n) (slots_in F) p.bound) in
    let few = or_false (any (ltb Most.number) (slots_in F)) (any (ltb Most.number) (numbers_in F)) p.in_255 in
    record {
      targets = every_map (leb-false n) (targets_in F) slots.0;
      operands = operands_ok o n (operands_in F) slots.1 p.not_self;
      numbers = every_map (ltb-false Most.number) (numbers_in F) (any_false (ltb Most.number) (numbers_in F) few.1);
    }

-- ---- What does not dangle

-- no form from here on dangles; c blocks are opened before
data Linked (P : Program) : ℕ → List Form → Type 0 where
  no_more : {c : ℕ} → Linked P c []
  named : {c : ℕ} {F : Form} {Fs : List Form} → dangles P c F ≡ false → Linked P (opened F c) Fs → Linked P c (F ∷ Fs)

turned_away≢accepted : {k n : ℕ} {P : Program} → turned_away k n ≡ accepted P → ⊥
turned_away≢accepted h = impossible cc

link_accepted : (Q : Program) (Fs : List Form) (c n : ℕ) (P : Program) → link Q c n Fs ≡ accepted P → (Q ≡ P) × Linked Q c Fs
unfolding link
link_accepted Q [] c n P h = let same : Q ≡ P = cc in (same, no_more)
link_accepted Q (F ∷ Fs) c n P h =
    let a = other_arm (dangles Q c F) _ _ _ turned_away≢accepted h in
    let rest = link_accepted Q Fs (opened F c) (suc n) P a.1 in
    (rest.0, named a.0 rest.1)

same_sort_lem : (o p : Sort) → same_sort o p ≡ true → o ≡ p
unfolding same_sort
same_sort_lem thread thread h = refl
same_sort_lem thread method h = absurd (false≢true h)
same_sort_lem method thread h = absurd (false≢true h)
same_sort_lem method method h = refl

is_block : (P : Program) (o : Sort) (b : ℕ) → not (is_sort P o b) ≡ false → IsBlock P o b
unfolding is_sort
is_block P o b h =
    let a = and_true (ltb b (length P.blocks)) (same_sort (block_at P b).sort o) (not-false (is_sort P o b) h) in
    record { there = ltb-true b (length P.blocks) a.0; sort = same_sort_lem (block_at P b).sort o a.1 }

is_kind : (P : Program) (n k : ℕ) → not (ltb n (length P.kinds) && eqb k (kind_at P n).fields) ≡ false → IsKind P n k
is_kind P n k h =
    let a = and_true (ltb n (length P.kinds)) (eqb k (kind_at P n).fields) (not-false _ h) in
    record { there = ltb-true n (length P.kinds) a.0; fields = eqb-true k (kind_at P n).fields a.1 }

-- a copy's capability is none of which its edition says 3
may_copy_lem : (d : Edition) (k : Cap) → may_copy d k ≡ true → NotIso k
unfolding may_copy
may_copy_lem edition1 k h = absurd (false≢true h)
may_copy_lem edition2 Imm h = tt
may_copy_lem edition2 Iso h = absurd (false≢true h)
may_copy_lem edition2 Local h = tt
may_copy_lem edition2 Unsafe h = tt

expr_ok : {n : ℕ} {o : Sort} (P : Program) (d : Edition) (c : ℕ) (e : Expr) → NamesOk o n (line (bind e)) → in_edition d (bind e) ≡ true
    → dangles P c (line (bind e)) ≡ false → ExprOk P o n e
unfolding targets_in operands_in numbers_in in_edition dangles
expr_ok P d c (value w) a e h = a.operands.0
expr_ok P d c (field s f) a e h = (a.targets.0, a.numbers.0)
expr_ok P d c (swap s f w) a e h = (a.targets.0, a.numbers.0, a.operands.0)
expr_ok P d c (call s i w) a e h = (a.targets.0, a.numbers.0, a.operands.0)
expr_ok P d c (new k i ws) a e h = (is_kind P i (length ws) h, a.operands)
expr_ok P d c (cast k w) a e h = a.operands.0
expr_ok P d c (spawn b) a e h = is_block P thread b h
expr_ok P d c (send s w) a e h = (a.targets.0, a.operands.0)
expr_ok P d c (recv s) a e h = a.targets.0
expr_ok P d c (copy k s) a e h = (a.targets.0, may_copy_lem d k e)

result_ok : {o : Sort} {n : ℕ} {w : Operand} → NamesOk o n (line (give w)) → OperandOk o n w
unfolding operands_in
result_ok a = a.operands.0

-- a first block that is no thread would dangle
first_sort : (P : Program) (o : Sort) → dangles P 0 (opens o) ≡ false → o ≡ thread
unfolding dangles
first_sort P thread h = refl
first_sort P method h = absurd (true≢false h)

-- ---- The lines of a program: lets, blocks, kinds

first_slots_few : (o : Sort) → first_slots o ≤ Most.slots
first_slots_few thread = omega arith
first_slots_few method = omega arith

module _ (m : Mosts) (P : Program) (d : Edition) where
  room_for_let : {k b l n : ℕ} {o : Sort} {e : Expr} → Passed m (sofar d k b l (within o n)) (line (bind e)) → (n < Most.slots) × (l < m.lets)
  unfolding over_most slots_filled
  room_for_let p = let a = or_false₃ _ _ _ p.in_mosts in (leb-false _ _ a.0, leb-false _ _ a.1)

  in_edition_lem : {k b l n : ℕ} {o : Sort} {e : Expr} → Passed m (sofar d k b l (within o n)) (line (bind e)) → in_edition d (bind e) ≡ true
  unfolding in_place is_outside
  in_edition_lem p = p.is_in_place

  -- the lets of a block, its give, and what follows: in the end N slots are filled and L lets are read
  record LetsPassed (k b L c : ℕ) (o : Sort) (n N : ℕ) (es : List Expr) (w : Operand) (Fs : List Form) : Type 0 where
    few : N ≤ Most.slots
    few_lets : L ≤ m.lets
    lets : LetsOk P o n es
    result : OperandOk o N w
    scanned : Scanned m (sofar d k b L outside) Fs
    linked : Linked P c Fs

  lets_passed : {k b c l n : ℕ} {o : Sort} {w : Operand} {Fs : List Form} (es : List Expr) (L N : ℕ)
      → Scanned m (sofar d k b l (within o n)) (let_lines es (line (give w) ∷ Fs)) → Linked P c (let_lines es (line (give w) ∷ Fs))
      → l + length es ≡ L → n + length es ≡ N → l ≤ m.lets → n ≤ Most.slots → LetsPassed k b L c o n N es w Fs
  unfolding let_lines read_on one_more opened
  lets_passed {l} {n} [] L N (passed x s) (named y t) l≡ n≡ hl hn =
      let l≡L : l ≡ L = omega arith in
      let n≡N : n ≡ N = omega arith in
      record {
        few = omega arith;
        few_lets = omega arith;
        lets = tt;
        result = rw n≡N at (result_ok (names_ok x));
        scanned = rw l≡L at s;
        linked = t;
      }
  lets_passed {k = k} {b = b} {c = c} {l = l} {n = n} {o = o} {w = w} {Fs = Fs} (e ∷ es) L N (passed x s) (named y t) l≡ n≡ hl hn =
      let room = room_for_let x in
      let rest = lets_passed {l = (read_on (sofar d k b l (within o n)) (line (bind e))).lets} es L N s t (omega arith) (omega arith) (omega arith) (omega arith) in
      record {
        few = rest.few;
        few_lets = rest.few_lets;
        lets = (expr_ok P d c e (names_ok x) (in_edition_lem x) y, rw add-one at rest.lets);
        result = rest.result;
        scanned = rest.scanned;
        linked = rest.linked;
      }

  room_for_block : {k b l : ℕ} {o : Sort} → Passed m (sofar d k b l outside) (opens o) → b < m.blocks
  unfolding over_most
  room_for_block p = leb-false _ _ p.in_mosts

  -- the blocks, b blocks and l lets being read before
  record BlocksPassed (b l : ℕ) (Bs : List Block) : Type 0 where
    few : b + length Bs ≤ m.blocks
    few_lets : l + let_count Bs ≤ m.lets
    blocks : Every (BlockOk P) Bs

  blocks_passed : {k b l c : ℕ} (Bs : List Block) → Scanned m (sofar d k b l outside) (block_lines Bs) → Linked P c (block_lines Bs)
      → b ≤ m.blocks → l ≤ m.lets → BlocksPassed b l Bs
  unfolding block_lines read_on opened let_count
  blocks_passed [] s t hb hl = record { few = omega arith; few_lets = omega arith; blocks = tt }
  blocks_passed {k = k} {b = b} {l = l} {c = c} (B ∷ Bs) (passed x s) (named y t) hb hl =
      let room = room_for_block x in
      let here = lets_passed B.lets _ _ s t refl refl hl (first_slots_few B.sort) in
      let rest = blocks_passed {b = (read_on (sofar d k b l outside) (opens B.sort)).blocks} Bs here.scanned here.linked (omega arith) here.few_lets in
      let few_blocks = rest.few in
      let few_lets = rest.few_lets in
      record {
        few = omega arith;
        few_lets = omega arith;
        blocks = (record { few = here.few; lets = here.lets; result = here.result }, rest.blocks);
      }

  kind_ok : {k : ℕ} (K : Kind) → Passed m (sofar d k 0 0 outside) (kind K) → dangles P 0 (kind K) ≡ false → (k < m.kinds) × KindOk P K
  unfolding over_most dangles
  kind_ok K p h =
      let few = or_false₃ _ _ _ p.in_mosts in
      let named = any_false (λ i. not (is_sort P method i)) K.methods h in (
        leb-false _ _ few.0,
        record {
          few_fields = ltb-false _ _ few.1;
          few_methods = ltb-false _ _ few.2;
          methods = every_map (is_block P method) K.methods named;
        },
      )

  -- the kinds, and what follows: in the end N kinds are read
  record KindsPassed (N : ℕ) (Ks : List Kind) (Fs : List Form) : Type 0 where
    few : N ≤ m.kinds
    kinds : Every (KindOk P) Ks
    scanned : Scanned m (sofar d N 0 0 outside) Fs
    linked : Linked P 0 Fs

  kinds_passed : {k : ℕ} {Fs : List Form} (Ks : List Kind) (N : ℕ) → Scanned m (sofar d k 0 0 outside) (kind_lines Ks Fs) → Linked P 0 (kind_lines Ks Fs)
      → k + length Ks ≡ N → k ≤ m.kinds → KindsPassed N Ks Fs
  unfolding kind_lines read_on opened
  kinds_passed {k} [] N s t k≡ hk = let k≡N : k ≡ N = omega arith in record { few = omega arith; kinds = tt; scanned = rw k≡N at s; linked = t }
  kinds_passed {k = k} {Fs = Fs} (K ∷ Ks) N (passed x s) (named y t) k≡ hk =
      let here = kind_ok K x y in
      let rest = kinds_passed {k = (read_on (sofar d k 0 0 outside) (kind K)).kinds} Ks N s t (omega arith) (omega arith) in
      record { few = rest.few; kinds = (here.1, rest.kinds); scanned = rest.scanned; linked = rest.linked }

  first_thread : {k : ℕ} (Bs : List Block) → Scanned m (sofar d k 0 0 outside) (block_lines Bs) → Linked P 0 (block_lines Bs) → (0 < length Bs) × ((get_or Bs 0 no_block).sort ≡ thread)
  unfolding block_lines
  first_thread [] (ended some closed) t = absurd (true≢false some)
  first_thread (B ∷ Bs) s (named y t) = (omega arith, first_sort P B.sort y)

  valid_lines : Scanned m (nothing d) (lines_of P) → Linked P 0 (lines_of P) → Valid m P
  unfolding lines_of block_at
  valid_lines s t =
      let k = kinds_passed P.kinds (length P.kinds) s t (omega arith) (omega arith) in
      let b = blocks_passed P.blocks k.scanned k.linked (omega arith) (omega arith) in
      let first = first_thread P.blocks k.scanned k.linked in
      let few_blocks = b.few in
      let few_lets = b.few_lets in
      record {
        kinds = k.kinds;
        blocks = b.blocks;
        few_kinds = k.few;
        few_blocks = omega arith;
        few_lets = omega arith;
        first = record { there = first.0; sort = first.1 };
      }

-- ---- What was read of an accepted text

-- the forms that were read are the lines of P: scanned without fault, and none dangles
record Accepted (m : Mosts) (text : List ℕ) (P : Program) : Type 0 where
  body : List ℕ
  text_is : text ≡ head_of P.edition ++ body
  forms : scan m (nothing P.edition) (lines_before P.edition) (lines body) ≡ scanned (lines_of P)
  scanned : Scanned m (nothing P.edition) (lines_of P)
  linked : Linked P 0 (lines_of P)

linked_accepted : (d : Edition) (s : Scan) (P : Program) → linked d s ≡ accepted P → (Fs : List Form) × (s ≡ scanned Fs) × (program_of d Fs ≡ P) × Linked P 0 Fs
linked_accepted d (faulty k n) P h = absurd (turned_away≢accepted h)
linked_accepted d (scanned Fs) P h = let a = link_accepted (program_of d Fs) Fs 0 (lines_before d) P h in (Fs, refl, a.0, rw a.0 at a.1)

-- of a text behind the line that names its edition, or of one without that line
script_read : (m : Mosts) (d : Edition) (text body : List ℕ) (P : Program) → text ≡ head_of d ++ body → script_of m d body ≡ accepted P → Accepted m text P
unfolding script_of program_of
script_read m d text body P t h =
    let (Fs, e, p, l) = linked_accepted d (scan m (nothing d) (lines_before d) (lines body)) P h in
    let s = scan_passed m (lines body) (nothing d) (lines_before d) Fs e in
    let same : Fs ≡ lines_of P = sym (rw p at (lines_scanned m d Fs s)) in
    let edition : d ≡ P.edition = ap (λ (Q : Program). Q.edition) p in
    record {
      body = body;
      text_is = subst (λ (x : Edition). text ≡ head_of x ++ body) edition t;
      forms = subst (λ (x : Edition). scan m (nothing x) (lines_before x) (lines body) ≡ scanned (lines_of P)) edition (e ∙ ap scanned same);
      scanned = subst (λ (x : Edition). Scanned m (nothing x) (lines_of P)) edition (subst (λ (X : List Form). Scanned m (nothing d) X) same s);
      linked = subst (λ (X : List Form). Linked P 0 X) same l;
    }

headed_read : (m : Mosts) (text : List ℕ) (first : Taken (Unit {0})) (P : Program) → fit script_t text ≡ first → headed m text first ≡ accepted P → Accepted m text P
headed_read m text (took x left) P e h = script_read m edition2 text left P (fit_prints script_t text x left e) h
headed_read m text unfit P e h = script_read m edition1 text text P refl h

accepted_read : (m : Mosts) (text : List ℕ) (P : Program) → script m text ≡ accepted P → Accepted m text P
unfolding script
accepted_read m text P h = headed_read m text (fit script_t text) P refl h

pub accepted_valid : (m : Mosts) (text : List ℕ) (P : Program) → script m text ≡ accepted P → Valid m P
accepted_valid m text P h = let a = accepted_read m text P h in valid_lines m P P.edition a.scanned a.linked

-- a reading that accepts found neither 1 nor 9
pub reading_accepted : (m : Mosts) (long short : Bool) (text : List ℕ) (P : Program) → reading m long short text ≡ accepted P
    → (long ≡ false) × (short ≡ false) × (script m text ≡ accepted P)
unfolding reading
reading_accepted m true short text P e = impossible cc
reading_accepted m false true text P e = impossible cc
reading_accepted m false false text P e = (refl, refl, e)

pub accepted_scanned : (m : Mosts) (text : List ℕ) (P : Program) → script m text ≡ accepted P → Scanned m (nothing P.edition) (lines_of P)
accepted_scanned m text P h = (accepted_read m text P h).scanned

-- an accepted text is the line that names its edition, if it has one, and the lines of its program
pub accepted_prints : (m : Mosts) (text : List ℕ) (P : Program) → script m text ≡ accepted P → text ≡ head_of P.edition ++ join (map show (lines_of P))
accepted_prints m text P h =
    let a = accepted_read m text P h in
    a.text_is ∙ ap (head_of P.edition ++◌) (sym (scan_prints m (nothing P.edition) (lines_before P.edition) a.body (lines_of P) a.forms))

-- ---- The number of lines

length_lets : (es : List Expr) (Fs : List Form) → length (let_lines es Fs) ≡ length es + length Fs
unfolding let_lines
length_lets [] Fs = omega arith
length_lets (e ∷ es) Fs = omega (arith, length_lets es Fs)

length_blocks : (Bs : List Block) → length (block_lines Bs) ≡ 2 * length Bs + let_count Bs
unfolding block_lines let_count
length_blocks [] = refl
length_blocks (B ∷ Bs) = omega (arith, length_lets B.lets (line (give B.result) ∷ block_lines Bs), length_blocks Bs)

length_kinds : (Ks : List Kind) (Fs : List Form) → length (kind_lines Ks Fs) ≡ length Ks + length Fs
unfolding kind_lines
length_kinds [] Fs = omega arith
length_kinds (K ∷ Ks) Fs = omega (arith, length_kinds Ks Fs)

-- one for each kind, the opener and the give of each block, and the lets
pub line_count_lem : (P : Program) → length (lines_of P) ≡ length P.kinds + (2 * length P.blocks + let_count P.blocks)
unfolding lines_of
line_count_lem P = omega (arith, length_kinds P.kinds (block_lines P.blocks), length_blocks P.blocks)

few_lines : (m : Mosts) (P : Program) → Valid m P → length (lines_of P) ≤ m.kinds + (2 * m.blocks + m.lets)
few_lines m P v = omega (arith, line_count_lem P, v.few_kinds, v.few_blocks, v.few_lets)

-- at document 01's mosts: the lines that the program table has room for
pub table_lines : (P : Program) → Valid Most.mosts P → length (lines_of P) ≤ 672
table_lines P v = few_lines Most.mosts P v
