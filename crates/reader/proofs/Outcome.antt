-- What reading comes to: 1, 9, the scan's fault, refusal 8, or the words of the program.
use Prim.Native.Nat.{ℕ, suc, ◌+◌, ◌-◌, ◌≤◌, ◌<◌}
use native.Mathlib.Nat.{add_comm}
use native.Mathlib.Omega.{arith}
use mathlib.Core.Path.{◌≡◌, refl, sym, ap, ap₂, ◌∙◌, subst}
use mathlib.Core.Bool.{Bool, true, false}
use mathlib.Core.List.{List, [], ◌∷◌, ◌++◌, append-nil}
use lib.Dec.{ltb}
use lib.ListN.{length, take, drop, replicate, length-replicate, replicate-append-replicate, length-drop}
use lib.Seq.{take_at, take_all}
use borrow.Author.Tests.{lt-ltb, le-ltb, ltb-false}
use Rattle.std.specs.Prelude.{Option, Some, None, Result, Ok, Err}
use Rattle.std.specs.Option.{is_some, unwrap_or}
use Rattle.rules.specs.declared.faults.Fault.{Fault}
use Rattle.rules.specs.declared.faults.Fault.TheVariants as F
use Rattle.rules.specs.declared.faults.Refusal.{Refusal}
use Rattle.rules.specs.declared.Mosts.{Mosts}
use Rattle.rules.specs.Mosts as Most
use Rattle.rules.specs.Mosts.{mosts}
use Rattle.rules.specs.Lists.{Every, pad, cells}
use Rattle.rules.specs.Numbers as No
use Rattle.rules.specs.Numbers.{number}
use Rattle.rules.specs.Refusals.{Refuses}
use Rattle.rules.specs.Text.{lines}
use Rattle.rules.specs.Script.{Form, Edition, Program, program_of, kinds_of, blocks_of}
use Rattle.rules.specs.Templates.{fit, script_t}
use Rattle.rules.specs.Reading as R
use Rattle.rules.specs.Reading.{Sofar, nothing, faulty, Reading, turned_away, accepted, link, lines_before, linked, script_of, script, reading}
use Rattle.rules.specs.Tables.{first_lines, edition_word, program_words}
use Rattle.rules.specs.Calls.{long_text, short_table, read_call, program_after}
use Rattle.rules.proofs.ListLaws.{impossible, by_bool, or_false}
use Rattle.rules.proofs.Accepted.{reading_accepted}
use Rattle.rules.proofs.TableWords.{program_words_length}
use Rattle.rules.proofs.Scanned.{Scanned, ended, passed, scan_passed, lines_scanned}
use Rattle.grammar.specs.Decoded.{over_line, told_end}
use Rattle.table.specs.ProgramTable.{fresh_table, line_table, Filled, Counted}
use Rattle.table.proofs.ProgramTable.{fresh_length, program_words_by_lines}
use Rattle.reader.specs.declared.counts.Counts.{Counts}
use Rattle.reader.specs.ReadAnswers.{Answers, Made, Makes}
use Rattle.reader.specs.Sofar.{edition_of}
use Rattle.reader.specs.Scanning.{DoneWith, ScansTo, Scans}
use Rattle.reader.specs.Linking.{Table, FirstDangling, linked as linked_at}
use Rattle.reader.proofs.LineChecks.{over_most_lem}

-- ---- 1 and 9

-- what a text comes to where the caller tells whether a slice is short
abbrev pub reading_of : List ℕ → Bool → Reading
reading_of text short = reading mosts (long_text text) short text

too_long : (text : List ℕ) (short : Bool) → Most.text < length text → reading_of text short ≡ turned_away No.overlong 0
unfolding reading long_text
too_long text short h = rw (lt-ltb _ _ h)

too_short : (text : List ℕ) → length text ≤ Most.text → reading_of text true ≡ turned_away No.short_table 0
unfolding reading long_text
too_short text h = rw (le-ltb _ _ h)

pub refuses : {A : Type 0} (e : Refusal) → Refuses {A = A} (Err e) (number e.fault) e.line
refuses e = record { refusal = e; is = refl; number_is = refl; line_is = refl }

pub refuses_by : {A : Type 0} (e : Refusal) {f : Fault} {n : ℕ} → e.fault ≡ f → e.line ≡ n → Refuses {A = A} (Err e) (number f) n
refuses_by e fault_is line_is = record { refusal = e; is = refl; number_is = ap number fault_is; line_is = line_is }

module _ (text : List ℕ) {t t₁ : List ℕ} where
  pub makes_long : {e : Refusal} (short : Bool) → Most.text < length text → e.fault ≡ F.Overlong → e.line ≡ 0 → Makes text short t (Err e) t₁
  makes_long {e} short h fault_is line_is = record { makes = λ fresh. rw (too_long text short h) (refuses_by e fault_is line_is) }

  pub makes_short : {e : Refusal} {short : Bool} → length text ≤ Most.text → short ≡ true → e.fault ≡ F.ShortTable → e.line ≡ 0 → Makes text short t (Err e) t₁
  makes_short {e} h told fault_is line_is = record { makes = λ fresh. rw (told, too_short text h) (refuses_by e fault_is line_is) }

  -- a fresh table has its length
  pub makes_unfit : {x : Result Unit Refusal} (short : Bool) → length t < Most.words → Makes text short t x t₁
  makes_unfit short h = record { makes = λ fresh. absurd (omega (arith, ap length fresh, fresh_length)) }

-- ---- The table before the first line

made_up : (n k : ℕ) → pad {A = ℕ} n 0 (replicate k 0) ≡ replicate n 0
unfolding pad
made_up n k =
    let zero_word : ℕ = 0 in
    let turned : replicate k zero_word ++ replicate n zero_word ≡ replicate n zero_word ++ replicate k zero_word =
    replicate-append-replicate k n zero_word ∙ ap (λ m. replicate m zero_word) (add_comm k n) ∙ sym (replicate-append-replicate n k zero_word) in
    ap (take n) turned ∙ take_at (replicate n zero_word) (replicate k zero_word) n (length-replicate n zero_word)

all_zero : (n : ℕ) → replicate {A = ℕ} n 0 ≡ pad n 0 (pad 8 0 [] ++ (pad 64 0 [] ++ [])) ++ []
all_zero n =
    let zero_word : ℕ = 0 in
    let empty : pad 8 zero_word [] ++ (pad 64 zero_word [] ++ []) ≡ replicate 72 zero_word =
    ap₂ (λ (xs ys : List ℕ). xs ++ ys) (made_up 8 0) (append-nil _ ∙ made_up 64 0) ∙ replicate-append-replicate 8 64 zero_word in
    sym (append-nil _ ∙ ap (λ (xs : List ℕ). pad n zero_word xs) empty ∙ made_up n 72)

no_lines : Filled fresh_table [] [] []
unfolding fresh_table line_table cells first_lines blocks_of
no_lines = record { words = all_zero 8192; lines = omega arith; blocks = omega arith }

-- ---- What the scan says, by its answer

pub fault_of_lem : {d : Edition} {text t t₁ : List ℕ} {x : Result Counts Refusal} {e : Refusal} → Scans mosts d text t x t₁ → x ≡ Err e
    → R.scan mosts (nothing d) (lines_before d) (lines text) ≡ faulty (number e.fault) e.line
fault_of_lem {d} {text} {t} {t₁} s e = subst (λ y. ScansTo mosts d text y t t₁) e s.is

pub done_with : {d : Edition} {text t t₁ : List ℕ} {x : Result Counts Refusal} {c : Counts} → Scans mosts d text t x t₁ → x ≡ Ok c → DoneWith mosts d text c t t₁
done_with {d} {text} {t} {t₁} s e = subst (λ y. ScansTo mosts d text y t t₁) e s.is

-- ---- The lines of a scan exceed no most by themselves

all_small : {m : Mosts} {r : Sofar} {Fs : List Form} → Scanned m r Fs → Every (λ F. over_line F ≡ false) Fs
all_small (ended some closed) = tt
all_small {m} {r} (passed {F} p s) =
    ((or_false (over_line F) _ (sym (over_most_lem m r F) ∙ rw (p.in_mosts, p.in_255))).0, all_small s)

-- ---- The line that names the edition

-- the part behind that line, if there is one: all that the text has from there on
abbrev pub behind : (text : List ℕ) → (head : ℕ) → List ℕ
behind text head = take (length text - head) (drop head text)

pub read_behind : (text : List ℕ) (x : Option ℕ) {second : Bool} {head : ℕ} → fit script_t text ≡ told_end text x → second ≡ is_some x → head ≡ unwrap_or x 0
    → script mosts text ≡ script_of mosts (edition_of second) (behind text head)
unfolding script
read_behind text None {second} {head} e is from =
    let all : behind text head ≡ drop head text = take_all (length text - head) (drop head text) (simp length-drop (omega arith)) in
    rw (all, e, is, from)
read_behind text (Some n) {second} {head} e is from =
    let all : behind text head ≡ drop head text = take_all (length text - head) (drop head text) (simp length-drop (omega arith)) in
    rw (all, e, is, from)

-- where it has one, every line's number is one more
abbrev later : ℕ → Reading → Reading
later b (turned_away k n) = turned_away k (n + b)
later b (accepted P) = accepted P

link_later : (P : Program) (b : ℕ) (Fs : List Form) (c n : ℕ) → link P c (n + b) Fs ≡ later b (link P c n Fs)
unfolding link
link_later P b [] c n = refl
link_later P b (F ∷ Fs) c n =
    let one : suc (n + b) ≡ suc n + b = omega arith in
    by_bool (R.dangles P c F) (λ t. rw t) (λ t. rw t (ap (λ k. link P (R.opened F c) k Fs) one ∙ link_later P b Fs (R.opened F c) (suc n)))

-- ---- What follows: a text that is not too long, by its lines behind the one that names the edition, where no slice is short

module _ (text : List ℕ) (fits : length text ≤ Most.text) (d : Edition) (body : List ℕ) (reads : script mosts text ≡ script_of mosts d body) where
  by_script : reading_of text false ≡ linked d (R.scan mosts (nothing d) (lines_before d) (lines body))
  unfolding reading long_text script_of
  by_script = rw (le-ltb _ _ fits) reads

  pub scan_faulty : (e : Refusal) → R.scan mosts (nothing d) (lines_before d) (lines body) ≡ faulty (number e.fault) e.line
      → reading_of text false ≡ turned_away (number e.fault) e.line
  scan_faulty x e = by_script ∙ rw e

  -- the program of a scan without fault in a fresh table, and where refusal 8 was looked for
  module _ {c : Counts} {t t₁ : List ℕ} (done : DoneWith mosts d body c t t₁) (fresh : t ≡ fresh_table) where
    lines_there : Filled t₁ [] done.forms []
    lines_there = done.filled [] (subst (λ (l : List ℕ). Filled l [] [] []) (sym fresh) no_lines)

    module _ {x : Option ℕ} (l : FirstDangling t₁ c x) where
      links : link (program_of d done.forms) 0 0 done.forms ≡ linked_at (program_of d done.forms) x
      unfolding program_of
      links =
          let Fs = done.forms in
          let passed-all = scan_passed mosts (lines body) (nothing d) (lines_before d) Fs done.scans in
          let same = lines_scanned mosts d Fs passed-all in
          let holds : Table t₁ (program_of d Fs) = record { counts = []; rest = []; filled = rw same lines_there; small = rw same (all_small passed-all) } in
          rw same at (l.is (program_of d Fs) holds done.kinds_count done.blocks_count (done.line_count_is ∙ ap length (sym same)))

      by_links : reading_of text false ≡ later (lines_before d) (linked_at (program_of d done.forms) x)
      by_links =
          let none : lines_before d ≡ 0 + lines_before d = omega arith in
          by_script ∙ rw done.scans
          (ap (λ k. link (program_of d done.forms) 0 k done.forms) none ∙ link_later (program_of d done.forms) (lines_before d) done.forms 0 0
          ∙ ap (later (lines_before d)) links)

      pub dangling : {place : ℕ} → x ≡ Some place → reading_of text false ≡ turned_away No.dangling (place + lines_before d)
      dangling e = by_links ∙ rw e

      all_there : x ≡ None → reading_of text false ≡ accepted (program_of d done.forms)
      all_there e = by_links ∙ rw e

      -- and its words, once the counts and the edition are there
      pub words_are : {t₂ : List ℕ} → x ≡ None → Counted c.kinds c.blocks c.lines (edition_word d) t₁ t₂ → Made (reading_of text false) (Ok tt) t₂
      unfolding program_of
      words_are {t₂} e counted =
          let Fs = done.forms in
          let f = counted.counted [] Fs lines_there in
          let same = lines_scanned mosts d Fs (scan_passed mosts (lines body) (nothing d) (lines_before d) Fs done.scans) in
          let full : t₂ ≡ line_table (c.kinds ∷ c.blocks ∷ c.lines ∷ edition_word d ∷ []) Fs = f.words ∙ append-nil _ in
          let counts : line_table (c.kinds ∷ c.blocks ∷ c.lines ∷ edition_word d ∷ []) Fs ≡ line_table (length (kinds_of Fs) ∷ length (blocks_of Fs) ∷ length Fs ∷ edition_word d ∷ []) Fs = rw (done.kinds_count, done.blocks_count, done.line_count_is) in
          rw (all_there e) (refl, full ∙ counts ∙ sym (rw same at (program_words_by_lines (program_of d Fs))))

-- ---- What `make` promises, by what the text comes to where no slice is short

module _ (text : List ℕ) {short : Bool} {t t₁ : List ℕ} (none : short ≡ false) where
  pub makes_none : {e : Refusal} → (t ≡ fresh_table → reading_of text false ≡ turned_away (number e.fault) e.line) → Makes text short t (Err e) t₁
  makes_none {e} away = record { makes = λ fresh. rw (none, away fresh) (refuses e) }

  pub makes_read : (t ≡ fresh_table → Made (reading_of text false) (Ok tt) t₁) → Makes text short t (Ok tt) t₁
  makes_read made = record { makes = λ fresh. rw none (made fresh) }

-- ---- A lent table, by way of a fresh one

-- what the answer tells of the reading
pub record IsRead (C : Reading) (w : List ℕ) : Type 0 where
  pub program : Program
  pub is : C ≡ accepted program
  pub words : w ≡ program_words program

pub read_is : (C : Reading) {r : Result Unit Refusal} {u : Unit {0}} {w : List ℕ} → Made C r w → r ≡ Ok u → IsRead C w
read_is (turned_away k n) made is = let both = sym is ∙ made.is in impossible cc
read_is (accepted P) made is = record { program = P; is = refl; words = made.1 }

pub refused_is : (C : Reading) (w : List ℕ) {r : Result Unit Refusal} {e : Refusal} → Made C r w → r ≡ Err e → C ≡ turned_away (number e.fault) e.line
refused_is (turned_away i j) w {e = e} made is =
    let both = sym made.is ∙ is in
    let same : made.refusal ≡ e = cc in
    rw (← made.number_is, ← made.line_is, same)
refused_is (accepted P) w made is = let both = sym is ∙ made.0 in impossible cc

module _ (text table : List ℕ) {r : Result Unit Refusal} {w : List ℕ} (made : Makes text (ltb (length table) Most.words) (replicate 8192 0) r w) where
  by_call : Made (read_call mosts text table) r w
  unfolding read_call short_table fresh_table
  by_call = made.makes refl

  pub read_away : {e : Refusal} → r ≡ Err e → Answers (read_call mosts text table) (Err e) × (table ≡ program_after (read_call mosts text table) table)
  read_away {e} is = rw (refused_is (read_call mosts text table) w by_call is) (refuses e, refl)

  module _ {u : Unit {0}} (is : r ≡ Ok u) where
    read_one : IsRead (read_call mosts text table) w
    read_one = read_is (read_call mosts text table) by_call is

    pub read_room : (Most.words ≤ length table) × (length w ≡ Most.words)
    unfolding read_call short_table
    read_room = (
      ltb-false _ _ (reading_accepted mosts _ _ text read_one.program read_one.is).1,
      ap length read_one.words ∙ program_words_length read_one.program,
    )

    pub read_done : {t₁ : List ℕ} → t₁ ≡ w ++ drop 8192 table
        → Answers (read_call mosts text table) (Ok tt) × (t₁ ≡ program_after (read_call mosts text table) table)
    read_done copied = rw read_one.is (refl, copied ∙ ap (λ (ws : List ℕ). ws ++ drop 8192 table) read_one.words)
