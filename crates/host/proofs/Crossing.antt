-- What the lower crates answer and leave, as the numbers and bytes that cross.
use Rattle.std.proofs.Common.{ℕ, ◌*◌, ◌≤◌, ◌<◌, ◌≡◌, refl, sym, ap, ◌∙◌, subst, Bool, false, ◌||◌, List, [], ◌∷◌, ◌++◌, append-nil, arith, ltb, length, take, drop, replicate, drop_of_length-le, take_at, take_all, lt-ltb, ltb-false, Result, Ok, Err}
use lib.ListN.{length-replicate}
use Rattle.rules.specs.Mosts as Most
use Rattle.rules.specs.Mosts.{mosts}
use Rattle.rules.specs.declared.faults.Fault.{Fault}
use Rattle.rules.specs.declared.faults.Refusal.{Refusal}
use Rattle.rules.specs.Numbers as No
use Rattle.rules.specs.Numbers.{number}
use Rattle.rules.specs.Lists.{pad}
use Rattle.rules.specs.Script.{Program, lines_of}
use Rattle.rules.specs.Valid.{Valid}
use Rattle.rules.specs.Reading.{Reading, turned_away, accepted}
use Rattle.rules.specs.Run.{run}
use Rattle.rules.specs.Tables.{edition_word, program_words, state_words}
use Rattle.rules.specs.Calls.{short_table, inputs, run_answer, Report, unreported, reached, report_on, reach_report, list_words, list_after}
use Rattle.rules.specs.Writer.{refused, WriteCall}
use Rattle.rules.proofs.ListLaws.{impossible, or_false, length_pad}
use Rattle.rules.proofs.Accepted.{accepted_valid, reading_accepted, table_lines}
use Rattle.rules.proofs.Demand3.{stripped_matches}
use Rattle.rules.proofs.TableWords.{program_words_length, state_words_length}
use Rattle.rules.proofs.Writer.{write_call_by_front}
use Rattle.table.specs.ProgramTable.{fresh_table, Filled, UsedWords}
use Rattle.table.proofs.ProgramTable.{program_words_by_lines}
use Rattle.table.proofs.ProgramLines.{blocks_of_lines}
use Rattle.reader.specs.ReadAnswers as ReadAnswers
use Rattle.reader.proofs.Outcome as Reads
use Rattle.writer.specs.WriteAnswers as Writer
use Rattle.run.specs.declared.Outcome.{Outcome}
use Rattle.run.specs.RunAnswers.{Tells}
use Rattle.run.specs.Made.{Made, Makes}
use Rattle.run.proofs.AnswerTells.{IsMade, made_is, refused_is, answers_are}
use Rattle.reach.specs.Reported as Reach
use Rattle.reach.specs.Reported.{ReportsState}
use Rattle.host.specs.Bytes.{bytes_of, bytes_after, words_of}
use Rattle.host.specs.ByteCalls.{short_bytes, table_after, read_bytes, HasRead, lent_bytes, ran_words, Stores, TellsAnswer, CountInNumbers, Demand3, run_bytes, HasRun, report_number, report_count, report_line, list_bytes, reach_bytes, HasListed, HasReported, write_number, write_length, WritesBytes}
use Rattle.host.proofs.Stored.{bytes_length, stored}
use Rattle.host.proofs.Loaded.{short_words, long_words}

-- ---- A program's table, of which the words that are used are stored

program_stored : (P : Program) → Valid mosts P → {w : List ℕ} (n : ℕ) (program : List ℕ) {program₁ : List ℕ} → w ≡ program_words P → UsedWords w n
    → program₁ ≡ bytes_after Most.words (pad Most.words 0 (take n w)) program → program₁ ≡ bytes_after Most.words (program_words P) program
program_stored P valid {w} n program written used kept =
    let filled : Filled w (length P.kinds ∷ length P.blocks ∷ length (lines_of P) ∷ edition_word P.edition ∷ []) (lines_of P) [] = record {
      words = written ∙ program_words_by_lines P ∙ sym (append-nil _);
      lines = table_lines P valid;
      blocks = rw (blocks_of_lines P) valid.few_blocks;
    } in
    let whole : take Most.words w ≡ program_words P = ap (take Most.words) written ∙ take_all Most.words (program_words P) (omega (arith, program_words_length P)) in
    kept ∙ ap (λ (l : List ℕ). bytes_after Most.words l program) (used.is _ [] (lines_of P) filled refl ∙ whole)

-- ---- Reading

module _ (text program : List ℕ) {r : Result Unit Refusal} {w : List ℕ} (made : ReadAnswers.Makes text (ltb (length program) (2 * Most.words)) (replicate 8192 0) r w) where
  by_bytes : ReadAnswers.Made (read_bytes text program) r w
  unfolding read_bytes short_bytes fresh_table
  by_bytes = made.makes refl

  pub read_refused : {e : Refusal} → r ≡ Err e → HasRead (read_bytes text program) program (number e.fault) e.line program
  read_refused is = rw (Reads.refused_is (read_bytes text program) w by_bytes is) (record { number_is = refl; line_is = refl; program_is = refl })

  module _ {u : Unit {0}} (is : r ≡ Ok u) where
    read_one : Reads.IsRead (read_bytes text program) w
    read_one = Reads.read_is (read_bytes text program) by_bytes is

    pub read_room : 2 * Most.words ≤ length program
    unfolding read_bytes short_bytes
    read_room = ltb-false _ _ (reading_accepted mosts _ _ text read_one.program read_one.is).1

    pub read_done : {program₁ : List ℕ} (n : ℕ) → UsedWords w n → program₁ ≡ bytes_after Most.words (pad Most.words 0 (take n w)) program
        → HasRead (read_bytes text program) program 0 0 program₁
    unfolding read_bytes
    read_done n used kept =
        let P = read_one.program in
        let valid = accepted_valid mosts text P (reading_accepted mosts _ _ text P read_one.is).2 in
        rw read_one.is (record { number_is = refl; line_is = refl; program_is = program_stored P valid n program read_one.words used kept })

-- ---- Running

module _ (text turns program state : List ℕ) (short : Bool) {r : Result Outcome Refusal} {p₀ s₀ p s : List ℕ} (p-fresh : p₀ ≡ fresh_table) (s-fresh : s₀ ≡ fresh_table)
    (made : Makes text turns (ltb (length program) (2 * Most.words) || (ltb (length state) (2 * Most.words) || short)) p₀ s₀ r p s) where
  by_lent : Made (lent_bytes text turns program state short) turns r p s
  unfolding lent_bytes short_bytes
  by_lent = made.makes p-fresh s-fresh

  made_as : {y : Result Outcome Refusal} → r ≡ y → Made (lent_bytes text turns program state short) turns y p s
  made_as is = subst (λ (y : Result Outcome Refusal). Made (lent_bytes text turns program state short) turns y p s) is by_lent

  pub stores_none : {e : Refusal} → r ≡ Err e → Stores (lent_bytes text turns program state short) turns program state (Err e) p s program state
  stores_none is =
      let away = refused_is turns p s (lent_bytes text turns program state short) by_lent is in
      record { made = made_as is; program_is = rw away refl; state_is = rw away refl }

  module _ {x : Outcome} (e : r ≡ Ok x) where
    one : IsMade (lent_bytes text turns program state short) turns r p s
    one = made_is turns p s (lent_bytes text turns program state short) by_lent e

    none_short : (short_bytes Most.words program || (short_bytes Most.words state || short)) ≡ false
    unfolding lent_bytes inputs
    none_short = (reading_accepted mosts _ _ text one.program one.is).1

    pub store_room : (2 * Most.words ≤ length program) × (2 * length s ≤ length state)
    unfolding short_bytes
    store_room =
        let others = or_false _ _ none_short in
        let state-full : 2 * Most.words ≤ length state = ltb-false _ _ (or_false _ _ others.1).0 in
        let P = one.program in (
          ltb-false _ _ others.0,
          omega (arith, state-full, ap length one.holds.state_words_are, state_words_length (run mosts P turns).state),
        )

    pub stores_both : {program₁ state₁ : List ℕ} (n : ℕ) → UsedWords p n → program₁ ≡ bytes_after Most.words (pad Most.words 0 (take n p)) program → state₁ ≡ bytes_after (length s) s state
        → Stores (lent_bytes text turns program state short) turns program state (Ok x) p s program₁ state₁
    unfolding ran_words
    stores_both n used program-kept state-kept =
        let P = one.program in
        record {
          made = made_as e;
          program_is = rw one.is (program_stored P one.holds.valid n program one.holds.program_words_are used program-kept);
          state_is = rw one.is (stored Most.words state (state_words_length (run mosts P turns).state) one.holds.state_words_are state-kept);
        }

-- demand 3 of what was answered and left
guarded : (C : Reading) (turns : List ℕ) {end number thread block line moves : ℕ} (state : List ℕ) {s : List ℕ}
    → Tells (run_answer mosts turns C) end number thread block line moves → s ≡ table_after (ran_words turns) C state
    → Demand3 C turns end number thread block line moves s
unfolding ran_words
guarded (turned_away k n) turns state tells state_is = tt
guarded (accepted P) turns state tells state_is =
    let words = state_words (run mosts P turns).state in
    let words_long = state_words_length (run mosts P turns).state in
    record {
      answers = tells;
      leaves = ap (take (2 * Most.words)) state_is
          ∙ take_at (bytes_of words) (drop (2 * Most.words) state) (2 * Most.words) (bytes_length words ∙ ap (λ (n : ℕ). 2 * n) words_long);
      matches = stripped_matches mosts P turns;
    }

pub has_run : (text turns program state : List ℕ) {r : Result Outcome Refusal} {p s program₁ state₁ : List ℕ} {end number thread block line moves : ℕ}
    → Stores (lent_bytes text turns program state false) turns program state r p s program₁ state₁ → TellsAnswer r end number thread block line moves
    → HasRun (run_bytes text turns program state) turns program state end number thread block line moves program₁ state₁
unfolding run_bytes
has_run text turns program state {r = r} {p = p} {s = s} stores told =
    let C = lent_bytes text turns program state false in
    let tells = rw (answers_are turns p s r C stores.made) at told in
    record {
      answers = tells;
      program_is = stores.program_is;
      state_is = stores.state_is;
      demand_3 = guarded C turns state tells stores.state_is;
    }

-- ---- Reporting

-- the report, told in numbers
reported : (R : Report) (y : Result ℕ Refusal) {k n l : ℕ} → Reach.Answers R y → CountInNumbers y k n l
    → (k ≡ report_number R) × (n ≡ report_count R) × (l ≡ report_line R)
reported (unreported i j) y {k = k} {n = n} {l = l} away told =
    let so = subst (λ (y : Result ℕ Refusal). CountInNumbers y k n l) away.is told in
    (so.0 ∙ away.number_is, so.1, so.2 ∙ away.line_is)
reported (reached objects) y {k = k} {n = n} {l = l} is told = subst (λ (y : Result ℕ Refusal). CountInNumbers y k n l) is told

-- what is reported on the box's own tables and list: nothing is listed, or what is listed is stored
list_kept : (R : Report) (y : Result ℕ Refusal) {e : Refusal} (list : List ℕ) → Reach.Answers R y → y ≡ Err e → list ≡ list_bytes R list
list_kept (unreported i j) y list away is = refl
list_kept (reached objects) y list told is = let both = sym told ∙ is in impossible cc

list_stored : (R : Report) (y : Result ℕ Refusal) {c : ℕ} (l list : List ℕ) {list₁ : List ℕ} → Reach.Answers R y → l ≡ list_after R (replicate 256 0) → y ≡ Ok c
    → list₁ ≡ bytes_after (length l) l list → list₁ ≡ list_bytes R list
list_stored (unreported i j) y l list away written is kept = let both = sym away.is ∙ is in impossible cc
list_stored (reached objects) y l list told written is kept =
    let zero_word : ℕ = 0 in
    let none : drop 256 (replicate 256 zero_word) ≡ [] = drop_of_length-le (replicate 256 zero_word) {i = 256} (rw (length-replicate 256 zero_word) (omega arith)) in
    let words : l ≡ list_words objects = written ∙ ap (list_words objects ++◌) none ∙ append-nil (list_words objects) in
    stored Most.reach_list list (length_pad Most.reach_list 0 objects) words kept

module _ (text turns program state list : List ℕ) (t : ℕ) {r : Result Outcome Refusal} {p s program₁ state₁ : List ℕ}
    (stores : Stores (lent_bytes text turns program state (ltb (length list) (2 * Most.reach_list))) turns program state r p s program₁ state₁) where
  by_reach : Stores (reach_bytes text turns program state list) turns program state r p s program₁ state₁
  unfolding reach_bytes short_bytes
  by_reach = stores

  pub reach_refused : {e : Refusal} → r ≡ Err e → HasListed (reach_bytes text turns program state list) turns t program state list (Err e) program₁ state₁ list
  reach_refused {e} is =
      let away = refused_is turns p s (reach_bytes text turns program state list) by_reach.made is in
      record {
        answers = rw away (record { refusal = e; is = refl; number_is = refl; line_is = refl });
        list_is = rw away refl;
        program_is = by_reach.program_is;
        state_is = by_reach.state_is;
      }

  module _ {x : Outcome} (e : r ≡ Ok x) where
    reach_one : IsMade (reach_bytes text turns program state list) turns r p s
    reach_one = made_is turns p s (reach_bytes text turns program state list) by_reach.made e

    pub list_room : 2 * Most.reach_list ≤ length list
    unfolding reach_bytes lent_bytes inputs short_bytes
    list_room =
        let none_short = (reading_accepted mosts _ _ text reach_one.program reach_one.is).1 in
        let others = (or_false (ltb (length program) (2 * Most.words)) _ none_short).1 in
        ltb-false _ _ (or_false (ltb (length state) (2 * Most.words)) _ others).1

    module _ {y : Result ℕ Refusal} {l : List ℕ} (reports : ReportsState p s t (replicate 256 0) y l) where
      on_run : (let S = (run mosts reach_one.program turns).state in Reach.Reports (report_on reach_one.program S t (ltb t (length S.threads))) (replicate 256 0) y l)
      on_run =
          let P = reach_one.program in
          let S = (run mosts P turns).state in
          let holds = reach_one.holds in
          let zero_word : ℕ = 0 in
          reports.reports
          (omega (arith, ap length holds.program_words_are, program_words_length P))
          (omega (arith, ap length holds.state_words_are, state_words_length S))
          (rw (length-replicate 256 zero_word) (omega arith))
          P Most.turns S [] holds.loaded holds.held holds.valid holds.fits

      has_listed : {z : Result ℕ Refusal} {list₁ : List ℕ} → y ≡ z
          → (let S = (run mosts reach_one.program turns).state in list₁ ≡ list_bytes (report_on reach_one.program S t (ltb t (length S.threads))) list)
          → HasListed (reach_bytes text turns program state list) turns t program state list z program₁ state₁ list₁
      has_listed {z} {list₁} is kept = record {
        answers = subst (λ (C : Reading). Reach.Answers (reach_report mosts turns t C) z) (sym reach_one.is) (rw is at on_run.answers);
        list_is = subst (λ (C : Reading). list₁ ≡ list_bytes (reach_report mosts turns t C) list) (sym reach_one.is) kept;
        program_is = by_reach.program_is;
        state_is = by_reach.state_is;
      }

      -- 17
      pub reach_no_thread : {f : Refusal} → y ≡ Err f
          → HasListed (reach_bytes text turns program state list) turns t program state list (Err f) program₁ state₁ list
      reach_no_thread is =
          let S = (run mosts reach_one.program turns).state in
          has_listed is (list_kept (report_on reach_one.program S t (ltb t (length S.threads))) y list on_run.answers is)

      pub reach_done : {c : ℕ} {list₁ : List ℕ} → y ≡ Ok c → list₁ ≡ bytes_after (length l) l list
          → HasListed (reach_bytes text turns program state list) turns t program state list (Ok c) program₁ state₁ list₁
      reach_done is kept =
          let S = (run mosts reach_one.program turns).state in
          has_listed is (list_stored (report_on reach_one.program S t (ltb t (length S.threads))) y l list on_run.answers on_run.leaves is kept)

pub has_reported : {C : Reading} {turns : List ℕ} {t : ℕ} {program state list : List ℕ} {y : Result ℕ Refusal} {program₁ state₁ list₁ : List ℕ} {k n l : ℕ}
    → HasListed C turns t program state list y program₁ state₁ list₁ → CountInNumbers y k n l
    → HasReported C turns t program state list k n l program₁ state₁ list₁
has_reported {C} {turns} {t} {y = y} listed told =
    let so = reported (reach_report mosts turns t C) y listed.answers told in
    record {
      report = record { number_is = so.0; count_is = so.1; line_is = so.2; list_is = listed.list_is };
      program_is = listed.program_is;
      state_is = listed.state_is;
    }

-- ---- Writing

pub write_early : (program script : List ℕ) → length program < 2 * Most.words → WritesBytes program script No.short_table 0 script
unfolding short_table
write_early program script short =
    record {
      answer = refused No.short_table;
      writes = rw (lt-ltb _ _ (short_words Most.words program short)) (record { answers = refl; leaves = refl });
      number_is = refl;
      length_is = refl;
    }

-- the words that were loaded are the program table's first
pub write_done : (program script words after : List ℕ) {r : Result ℕ Fault} (r' : Result ℕ Fault) → 2 * Most.words ≤ length program → words ≡ take Most.words (words_of program)
    → r ≡ r' → WriteCall mosts words script (Writer.answer_of r) after
    → WritesBytes program script (write_number (Writer.answer_of r')) (write_length (Writer.answer_of r')) after
write_done program script words after r' room loaded told call =
    record {
      answer = Writer.answer_of r';
      writes = write_call_by_front mosts (words_of program) (long_words Most.words program room) script (Writer.answer_of r') after
          (subst (λ (l : List ℕ). WriteCall mosts l script (Writer.answer_of r') after) loaded (subst (λ (r : Result ℕ Fault). WriteCall mosts words script (Writer.answer_of r) after) told call));
      number_is = refl;
      length_is = refl;
    }
