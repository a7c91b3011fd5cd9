-- All lines of a text, one after the other: what the definition still has to scan, put after the forms that were read.
use Prim.Native.Nat.{ℕ, suc, ◌+◌, ◌-◌, ◌*◌, ◌≤◌, ◌<◌}
use native.Mathlib.Omega.{arith}
use mathlib.Core.Path.{◌≡◌, refl, sym, ap, ap₂, ◌∙◌, subst}
use mathlib.Core.Bool.{Bool, true, false, cond, false≢true}
use mathlib.Core.List.{List, [], ◌∷◌, ◌++◌, append-nil}
use lib.Dec.{ltb, leb, eqb}
use lib.ListN.{length, drop, get_or, length-append, length-drop, drop_of_length-le}
use borrow.Author.Tests.{leb-false}
use Rattle.std.specs.Prelude.{None, Result, Ok, Err}
use Rattle.rules.specs.declared.faults.Fault.{Fault}
use Rattle.rules.specs.declared.faults.Fault.TheVariants as F
use Rattle.rules.specs.declared.faults.Refusal.{Refusal}
use Rattle.rules.specs.declared.Mosts.{Mosts}
use Rattle.rules.specs.Mosts as Most
use Rattle.rules.specs.Mosts.{mosts}
use Rattle.rules.specs.Numbers as No
use Rattle.rules.specs.Numbers.{number}
use Rattle.rules.specs.Text.{lf, stray, lines, on_line}
use Rattle.rules.specs.Script.{bind, give, Sort, thread, method, Form, kind, opens, line, Edition, kinds_of, blocks_of}
use Rattle.rules.specs.Templates.{took, show}
use Rattle.rules.specs.Forms.{form_number}
use Rattle.rules.specs.Tables.{first_lines}
use Rattle.rules.specs.Reading as R
use Rattle.rules.specs.Reading.{operands_in, Place, outside, within, slots_filled, is_outside, in_place, over_most, one_more, read_on, Step, fault, next, form_step, line_step, lines_before, faulty, scanned, with_form, on_step}
use Rattle.rules.proofs.ListLaws.{or_false, or_false₃, length_snoc}
use Rattle.rules.proofs.Scanned.{Passed, form_passed}
use Rattle.grammar.specs.declared.forms.Line.{Line}
use Rattle.grammar.specs.Decoded.{over_line, line_row, Tells, Leads, LineAt}
use Rattle.table.specs.ProgramTable.{Filled, LineAdded, OpenerAdded}
use Rattle.reader.specs.declared.faults.Place.TheVariants as P
use Rattle.reader.specs.declared.faults.Sofar.{Sofar}
use Rattle.reader.specs.declared.counts.Counts.{Counts}
use Rattle.reader.specs.Sofar.{edition_of, so_far, full_before, Tidy, fault_of, Faults, GoesOn}
use Rattle.reader.specs.Scanning.{Put, Finished, Finishes, ScansTo, Scans}
use Rattle.grammar.proofs.Fronts.{front_fits, front_unfit}
use Rattle.reader.proofs.LineChecks.{Numbered, told, is_opener, over_most_lem, step_goes_on}

-- ---- One line into the table

-- one form more in the list
kinds_more : (Fs : List Form) (F : Form) → length (kinds_of (Fs ++ (F ∷ []))) ≡ length (kinds_of Fs) + length (kinds_of (F ∷ []))
unfolding kinds_of
kinds_more [] F = omega arith
kinds_more (kind K ∷ Fs) F = omega (arith, kinds_more Fs F)
kinds_more (opens o ∷ Fs) F = kinds_more Fs F
kinds_more (line x ∷ Fs) F = kinds_more Fs F

blocks_more : (Fs : List Form) (F : Form) → length (blocks_of (Fs ++ (F ∷ []))) ≡ length (blocks_of Fs) + length (blocks_of (F ∷ []))
unfolding blocks_of
blocks_more [] F = omega arith
blocks_more (kind K ∷ Fs) F = blocks_more Fs F
blocks_more (opens o ∷ Fs) F = omega (arith, blocks_more Fs F)
blocks_more (line x ∷ Fs) F = blocks_more Fs F

opener_more : (Fs : List Form) (o : Sort) → length (blocks_of (Fs ++ (opens o ∷ []))) ≡ length (blocks_of Fs) + 1
unfolding blocks_of
opener_more Fs o = blocks_more Fs (opens o)

-- a form whose number is no opener's opens no block
opens_none : (n k : ℕ) (F : Form) → Numbered F k → (2 ≤ k → k < 4 → ⊥) → first_lines n (F ∷ []) ≡ []
unfolding first_lines
opens_none n k (kind K) t h = refl
opens_none n k (opens thread) t h = absurd (h (omega arith) (omega arith))
opens_none n k (opens method) t h = absurd (h (omega arith) (omega arith))
opens_none n k (line x) t h = refl

module _ (n b : ℕ) (l : Line) (t t' : List ℕ) where
  pub put_opener : n < 672 → b < mosts.blocks → 2 ≤ form_number l.form → form_number l.form < 4 → OpenerAdded n b (form_number l.form) t t' → Put n b l t t'
  put_opener n< b< low high a = record {
    added = λ counts rest Fs F filled n≡ b≡ tells over few.
        let (o, k, e) = is_opener F (told F tells.number) low high in
        rw k (a.added counts rest Fs o filled n≡ n< b≡ b< e);
  }

  -- past the last block no opener passes its checks
  pub put_none : mosts.blocks ≤ b → 2 ≤ form_number l.form → form_number l.form < 4 → Put n b l t t'
  put_none b≥ low high = record {
    added = λ counts rest Fs F filled n≡ b≡ tells over few.
        let (o, k, e) = is_opener F (told F tells.number) low high in
        absurd (omega (arith, subst (λ (X : Form). length (blocks_of (Fs ++ (X ∷ []))) ≤ mosts.blocks) k few, opener_more Fs o));
  }

  pub put_other : n < 672 → (2 ≤ form_number l.form → form_number l.form < 4 → ⊥) → LineAdded n (line_row l) t t' → Put n b l t t'
  put_other n< other a = record {
    added = λ counts rest Fs F filled n≡ b≡ tells over few.
        a.added counts rest Fs F filled n≡ n< (tells.words over) (opens_none n (form_number l.form) F (told F tells.number) other);
  }

-- ---- What was read so far

abbrev open_blocks : Place → ℕ
open_blocks outside = 0
open_blocks (within o n) = 1

-- the counts are those of the forms, none is past its most, and they bound the lines: one for each kind and let, two for each closed block
record Tally (m : Mosts) (r : R.Sofar) (Fs : List Form) : Type 0 where
  kinds : r.kinds ≡ length (kinds_of Fs)
  blocks : r.blocks ≡ length (blocks_of Fs)
  lines : length Fs + open_blocks r.place ≡ r.kinds + (2 * r.blocks + r.lets)
  few_kinds : r.kinds ≤ m.kinds
  few_blocks : r.blocks ≤ m.blocks
  few_lets : r.lets ≤ m.lets

tally_none : (m : Mosts) (e : Edition) → Tally m (R.nothing e) []
unfolding kinds_of blocks_of
tally_none m e = record { kinds = refl; blocks = refl; lines = refl; few_kinds = omega arith; few_blocks = omega arith; few_lets = omega arith }

tally_more : (m : Mosts) (d : Edition) (p : Place) (k b l : ℕ) (Fs : List Form) (F : Form)
    → (let r : R.Sofar = record { edition = d; kinds = k; blocks = b; lets = l; place = p } in Tally m r Fs → Passed m r F → Tally m (read_on r F) (Fs ++ (F ∷ [])))
unfolding kinds_of blocks_of in_place is_outside over_most read_on one_more
tally_more m d p k b l Fs (kind K) c x =
    let room : k < m.kinds = leb-false _ _ (or_false₃ _ _ _ x.in_mosts).0 in
    record {
      kinds = omega (arith, c.kinds, kinds_more Fs (kind K));
      blocks = omega (arith, c.blocks, blocks_more Fs (kind K));
      lines = omega (arith, c.lines, length_snoc Fs (kind K));
      few_kinds = omega arith;
      few_blocks = c.few_blocks;
      few_lets = c.few_lets;
    }
tally_more m d outside k b l Fs (opens o) c x =
    let room : b < m.blocks = leb-false _ _ x.in_mosts in
    record {
      kinds = omega (arith, c.kinds, kinds_more Fs (opens o));
      blocks = omega (arith, c.blocks, blocks_more Fs (opens o));
      lines = omega (arith, c.lines, length_snoc Fs (opens o));
      few_kinds = c.few_kinds;
      few_blocks = omega arith;
      few_lets = c.few_lets;
    }
tally_more m d (within _ n) k b l Fs (opens o) c x = absurd (false≢true x.is_in_place)
tally_more m d outside k b l Fs (line y) c x = absurd (false≢true x.is_in_place)
tally_more m d (within o n) k b l Fs (line (give w)) c x = record {
  kinds = omega (arith, c.kinds, kinds_more Fs (line (give w)));
  blocks = omega (arith, c.blocks, blocks_more Fs (line (give w)));
  lines = omega (arith, c.lines, length_snoc Fs (line (give w)));
  few_kinds = c.few_kinds;
  few_blocks = c.few_blocks;
  few_lets = c.few_lets;
}
tally_more m d (within o n) k b l Fs (line (bind e)) c x =
    let room : l < m.lets = leb-false _ _ (or_false₃ (leb Most.slots (slots_filled (within o n))) (leb m.lets l) (ltb Most.operands (length (operands_in (line (bind e))))) x.in_mosts).1 in
    record {
      kinds = omega (arith, c.kinds, kinds_more Fs (line (bind e)));
      blocks = omega (arith, c.blocks, blocks_more Fs (line (bind e)));
      lines = omega (arith, c.lines, length_snoc Fs (line (bind e)));
      few_kinds = c.few_kinds;
      few_blocks = c.few_blocks;
      few_lets = omega arith;
    }

-- ---- The scan

-- forms put before what a scan comes to
onto : List Form → R.Scan → R.Scan
onto [] x = x
onto (F ∷ Fs) x = with_form F (onto Fs x)

onto_snoc : (Fs : List Form) (F : Form) (x : R.Scan) → onto (Fs ++ (F ∷ [])) x ≡ onto Fs (with_form F x)
unfolding onto
onto_snoc [] F x = refl
onto_snoc (G ∷ Fs) F x = ap (with_form G) (onto_snoc Fs F x)

onto_faulty : (Fs : List Form) (k n : ℕ) → onto Fs (faulty k n) ≡ faulty k n
unfolding onto
onto_faulty [] k n = refl
onto_faulty (F ∷ Fs) k n = ap (with_form F) (onto_faulty Fs k n)

onto_scanned : (Fs Gs : List Form) → onto Fs (scanned Gs) ≡ scanned (Fs ++ Gs)
unfolding onto
onto_scanned [] Gs = refl
onto_scanned (F ∷ Fs) Gs = ap (with_form F) (onto_scanned Fs Gs)

-- the definition takes one line, or is at the end
scan_line_lem : (m : Mosts) (r : R.Sofar) (n : ℕ) (x : List ℕ) (ls : List (List ℕ)) (s : Step) → line_step m r x ≡ s
    → R.scan m r n (x ∷ ls) ≡ on_step n s (λ r₁. R.scan m r₁ (suc n) ls)
unfolding R.scan
scan_line_lem m r n x ls s e = rw e

scan_end : (m : Mosts) (r : R.Sofar) (n : ℕ) → R.scan m r n (lines []) ≡ R.finish r n
unfolding R.scan lines
scan_end m r n = refl

-- a fault has a number
some_number : (f : Fault) → 1 ≤ number f
some_number F.Overlong = omega arith
some_number F.StrayByte = omega arith
some_number F.Malformed = omega arith
some_number F.OverCount = omega arith
some_number F.Unbound = omega arith
some_number F.SelfTaken = omega arith
some_number F.Unfinished = omega arith
some_number F.Dangling = omega arith
some_number F.ShortTable = omega arith
some_number F.Absent = omega arith
some_number F.NoField = omega arith
some_number F.NoMethod = omega arith
some_number F.WrongThing = omega arith
some_number F.Permission = omega arith
some_number F.Cast = omega arith
some_number F.UsedUp = omega arith
some_number F.NoThread = omega arith
some_number F.NoScript = omega arith
some_number F.Alias = omega arith
some_number F.Foreign = omega arith
some_number F.NoObject = omega arith

-- a step with a fault stops
step_stops : (s : Step) → (fault_of s ≡ 0 → ⊥) → s ≡ fault (fault_of s)
step_stops (fault k) h = refl
step_stops (next F r) h = absurd (h refl)

-- a text that is not empty has a first line, and that line a first byte
record Begun (l : List ℕ) : Type 0 where
  byte : ℕ
  others : List ℕ
  rest : List (List ℕ)
  is : lines l ≡ (byte ∷ others) ∷ rest

first_line : (l : List ℕ) → 0 < length l → Begun l
unfolding lines
first_line [] h = absurd (omega arith)
first_line (c ∷ s) h = go (eqb c lf) (lines s) refl
  where
    go : (b : Bool) (ls : List (List ℕ)) → lines (c ∷ s) ≡ on_line b c ls → Begun (c ∷ s)
    go true ls e = record { byte = c; others = []; rest = ls; is = e }
    go false [] e = record { byte = c; others = []; rest = []; is = e }
    go false (l ∷ ls) e = record { byte = c; others = l; rest = ls; is = e }

-- document 01's mosts bound those in force
pub record Bounded (m : Mosts) : Type 0 where
  pub kinds : m.kinds ≤ mosts.kinds
  pub blocks : m.blocks ≤ mosts.blocks
  pub lets : m.lets ≤ mosts.lets

-- the loop: the forms read so far stand in the table, and the definition has the lines from here on still to scan
pub record Scanning (m : Mosts) (d : Edition) (text t₀ t : List ℕ) (r : Sofar) (n at : ℕ) : Type 0 where
  bounded : Bounded m
  pub forms : List Form
  scans : R.scan m (R.nothing d) (lines_before d) (lines text) ≡ onto forms (R.scan m (so_far r) (n + lines_before d) (lines (drop at text)))
  filled : (rest : List ℕ) → Filled t₀ [] [] rest → Filled t [] forms rest
  number : n ≡ length forms
  tally : Tally m (so_far r) forms
  tidy : Tidy r
  pub same_length : length t ≡ length t₀

-- a line that fits its form and passes its checks
pub record Passes (m : Mosts) (text : List ℕ) (r : Sofar) (at : ℕ) (l : Line) (Fs : List Form) (F : Form) : Type 0 where
  begins : drop at text ≡ show F ++ drop l.end text
  splits : lines (drop at text) ≡ show F ∷ lines (drop l.end text)
  step : line_step m (so_far r) (show F) ≡ next F (read_on (so_far r) F)
  tells : Tells l F
  passed : Passed m (so_far r) F
  tally : Tally m (read_on (so_far r) F) (Fs ++ (F ∷ []))

pub at_start : {m : Mosts} (second : Bool) (text t : List ℕ) → Bounded m → Scanning m (edition_of second) text t t (record { second = second; kinds = 0; blocks = 0; lets = 0; place = P.Outside; filled = 0 }) 0 0
unfolding onto slots_filled
at_start {m} second text t b = record {
  bounded = b;
  forms = [];
  scans = let none : lines_before (edition_of second) ≡ 0 + lines_before (edition_of second) = omega arith in ap (λ k. R.scan m (R.nothing (edition_of second)) k (lines text)) none;
  filled = λ rest h. h;
  number = refl;
  tally = tally_none m (edition_of second);
  tidy = record { filled = refl; bounded = omega arith };
  same_length = refl;
}

module _ {m : Mosts} {d : Edition} {text t₀ t : List ℕ} {r : Sofar} {n at : ℕ} (s : Scanning m d text t₀ t r n at) where
  -- where the rest of the scan is faulty, so is the whole
  stops : {x : Refusal} → R.scan m (so_far r) (n + lines_before d) (lines (drop at text)) ≡ faulty (number x.fault) x.line → Scans m d text t₀ (Err x) t
  stops {x} e = record { is = s.scans ∙ ap (onto s.forms) e ∙ onto_faulty s.forms (number x.fault) x.line }

  -- every line so far has a place in the table
  pub few_lines : n ≤ 672
  few_lines =
      let b = s.bounded in
      let c = s.tally in
      omega (arith, s.number, c.lines, c.few_kinds, c.few_blocks, c.few_lets, b.kinds, b.blocks, b.lets)

  pub few_counts : (r.kinds ≤ 32) × (r.blocks ≤ 64) × (n ≤ 672)
  few_counts =
      let b = s.bounded in
      let c = s.tally in
      (omega (arith, c.few_kinds, b.kinds), omega (arith, c.few_blocks, b.blocks), few_lines)

  -- no line is left
  pub at_end : {x : Result Counts Refusal} → length text ≤ at → Finishes r n (n + lines_before d) x → Scans m d text t₀ x t
  at_end {x} h f = record { is = go x f.is }
    where
      ended : R.scan m (so_far r) (n + lines_before d) (lines (drop at text)) ≡ R.finish (so_far r) (n + lines_before d)
      ended = rw (drop_of_length-le text h) (scan_end m (so_far r) (n + lines_before d))

      go : (y : Result Counts Refusal) → Finished (so_far r) n (n + lines_before d) y → ScansTo m d text y t₀ t
      go (Err x) e = s.scans ∙ ap (onto s.forms) (ended ∙ e) ∙ onto_faulty s.forms (number x.fault) x.line
      go (Ok _) (e, k, b, c) = record {
        forms = s.forms;
        scans = s.scans ∙ ap (onto s.forms) (ended ∙ e) ∙ onto_scanned s.forms [] ∙ ap scanned (append-nil s.forms);
        kinds_count = k ∙ s.tally.kinds;
        blocks_count = b ∙ s.tally.blocks;
        line_count_is = c ∙ s.number;
        filled = s.filled;
      }

  -- no line fits its form here
  pub unfit_line : {e : Refusal} → at < length text → LineAt text at None → number e.fault ≡ cond (stray (get_or (lines (drop at text)) 0 [])) No.stray_byte No.malformed
      → e.line ≡ n + lines_before d → Scans m d text t₀ (Err e) t
  unfit_line {e} h none is line_is =
      let f = first_line (drop at text) (simp length-drop (omega arith)) in
      let x = f.byte ∷ f.others in
      let same : number e.fault ≡ cond (stray x) No.stray_byte No.malformed = is ∙ rw f.is in
      stops (rw (f.is, same, line_is) (scan_line_lem m (so_far r) (n + lines_before d) x f.rest _ (front_unfit (drop at text) x f.rest none f.is m (so_far r))))

  module _ {l : Line} (a : Leads text at l) where
    -- a check refuses the line; it passes
    pub refused_line : {x : Fault} {e : Refusal} → Faults m r l (Err x) → e.fault ≡ x → e.line ≡ n + lines_before d → Scans m d text t₀ (Err e) t
    refused_line {x} {e} f fault_is line_is =
        let b = front_fits (drop at text) a.form (drop l.end text) a.fits in
        let k = f.is s.tidy a.form a.tells in
        let step = b.step m (so_far r) ∙ step_stops (form_step m (so_far r) (took a.form [])) (λ z. omega (arith, some_number x, k, z)) ∙ ap fault (sym k) in
        stops (rw (b.first, fault_is, line_is) (scan_line_lem m (so_far r) (n + lines_before d) (show a.form) (lines (drop l.end text)) (fault (number x)) step))

    pub passes : {u : Unit {0}} → Faults m r l (Ok u) → Passes m text r at l s.forms a.form
    passes f =
        let b = front_fits (drop at text) a.form (drop l.end text) a.fits in
        let go = step_goes_on m (so_far r) a.form (sym (f.is s.tidy a.form a.tells)) in
        let p = (form_passed m (so_far r) (took a.form []) a.form _ go).0 in
        record {
          begins = b.text;
          splits = b.first;
          step = b.step m (so_far r) ∙ go;
          tells = a.tells;
          passed = p;
          tally = tally_more m (so_far r).edition (so_far r).place r.kinds r.blocks r.lets s.forms a.form s.tally p;
        }

  -- the counts fit their words
  pub small : (r.kinds ≤ 65535) × (r.blocks ≤ 65535) × (r.lets ≤ 65535) × (r.filled ≤ 255)
  small =
      let b = s.bounded in
      let c = s.tally in
      (omega arith, omega arith, omega arith, omega (arith, s.tidy.bounded))

  module _ {l : Line} {F : Form} (p : Passes m text r at l s.forms F) where
    -- there is a place for the line in the table, what is left of the text is shorter, and the loop goes on after it
    pub room : n < 672
    room =
        let b = s.bounded in
        let c = p.tally in
        omega (arith, length_snoc s.forms F, s.number)

    pub further : at < length text → length text - l.end < length text - at
    further h =
        let f = first_line (drop at text) (simp length-drop (omega arith)) in
        let first : show F ≡ f.byte ∷ f.others = cc (p.splits, f.is) in
        omega (arith, ap length first, simp (length-append, length-drop) at (ap length p.begins))

    pub next_line : {t' : List ℕ} {r₁ : Sofar} → Put n r.blocks l t t' → GoesOn r l.form r₁ → length t' ≡ length t
        → Scanning m d text t₀ t' r₁ (n + 1) l.end
    next_line {t'} {r₁} put goes kept =
        let b = s.bounded in
        let c = p.tally in
        let Gs = s.forms ++ (F ∷ []) in
        let after : so_far r₁ ≡ read_on (so_far r) F = goes.is F p.tells.number in
        let rest_lines = lines (drop l.end text) in
        let next_number : suc (n + lines_before d) ≡ n + 1 + lines_before d = omega arith in
        let one_line : R.scan m (so_far r) (n + lines_before d) (lines (drop at text)) ≡ with_form F (R.scan m (so_far r₁) (n + 1 + lines_before d) rest_lines)
        = ap (R.scan m (so_far r) (n + lines_before d)) p.splits ∙ scan_line_lem m (so_far r) (n + lines_before d) (show F) rest_lines _ p.step
        ∙ ap₂ (λ (x : R.Sofar) (k : ℕ). with_form F (R.scan m x k rest_lines)) (sym after) next_number in
        let mosts-kept = or_false (over_line F) (full_before m (so_far r) F) (sym (over_most_lem m (so_far r) F) ∙ rw (p.passed.in_mosts, p.passed.in_255)) in
        record {
          bounded = b;
          forms = Gs;
          scans = s.scans ∙ ap (onto s.forms) one_line ∙ sym (onto_snoc s.forms F (R.scan m (so_far r₁) (n + 1 + lines_before d) rest_lines));
          filled = λ rest h. put.added [] rest s.forms F (s.filled rest h) s.number s.tally.blocks p.tells (p.tells.over ∙ mosts-kept.0) (omega arith);
          number = omega (arith, s.number, length_snoc s.forms F);
          tally = subst (λ (x : R.Sofar). Tally m x Gs) (sym after) c;
          tidy = goes.tidy m F p.tells.number s.tidy p.passed.is_in_place mosts-kept.1;
          same_length = kept ∙ s.same_length;
        }
