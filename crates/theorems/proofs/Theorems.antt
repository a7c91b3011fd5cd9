-- What is proved of every accepted script, gathered: each is a corollary of the file that proves it.
use Prim.Native.Nat.{ℕ, ◌+◌, ◌*◌, ◌≤◌, ◌<◌}
use native.Mathlib.Omega.{arith}
use mathlib.Core.Path.{◌≡◌, refl, sym}
use mathlib.Core.Bool.{true, false}
use mathlib.Core.List.{List, [], ◌++◌, map, append-nil}
use mathlib.Core.Logic.{◌↔◌}
use lib.ListN.{length, get_or}
use Rattle.rules.specs.declared.Cap.{Cap}
use Rattle.rules.specs.Mosts as Most
use Rattle.rules.specs.Mosts.{mosts}
use Rattle.rules.specs.Lists.{Every}
use Rattle.rules.specs.Text.{join}
use Rattle.rules.specs.Script.{Program, lines_of}
use Rattle.rules.specs.Templates.{show, head_of}
use Rattle.rules.specs.Reading.{accepted, script}
use Rattle.rules.specs.State.{Object, Frame, State}
use Rattle.rules.specs.Turn.{ok, turn}
use Rattle.rules.specs.Run.{run}
use Rattle.rules.specs.Tables.{program_words, state_words}
use Rattle.rules.specs.Stripped.{strip, Matches}
use Rattle.rules.specs.Valid.{Valid}
use Rattle.rules.specs.Fits.{Fits}
use Rattle.rules.specs.Races.{meets, races_on, norace, verdict}
use Rattle.rules.specs.Reach.{count, Reaches, roots, OneList, reach_list}
use Rattle.rules.specs.Holders.{holders}
use Rattle.rules.specs.HolderChanges.{gained, lost}
use Rattle.rules.specs.Drawing.{drawing}
use Rattle.table.specs.StateTable.{Held}
use Rattle.theorems.specs.Copies.{AtCopy, CopyTurn}
use Rattle.theorems.specs.InFlight.{SendersKeep}
use Rattle.theorems.specs.NoUnsafe.{no_unsafe}
use Rattle.theorems.specs.OneHolder.{OneHolder}
use Rattle.theorems.specs.Separation.{Separate}
use Rattle.theorems.specs.StrippedScripts.{stripped_script}
use Rattle.rules.specs.Writer.{ReadsTo, NoneReadsTo, ComesBack}
use Rattle.rules.proofs.Accepted.{accepted_valid, accepted_prints}
use Rattle.rules.proofs.Keeps.{keeps_run, moves_few, fits_run}
use Rattle.rules.proofs.HolderLaws.{turn_changes, unmade_unheld}
use Rattle.rules.proofs.Demand3.{stripped_matches}
use Rattle.rules.proofs.Reports.{reach_few, reach_lists}
use Rattle.rules.proofs.Writer.{comes_back}
use Rattle.table.proofs.StateReads.{count_word}
use Rattle.theorems.proofs.SmallWords.{In16Bits, program_words_small, state_words_small}
use Rattle.theorems.proofs.Copies.{copy_turn}
use Rattle.theorems.proofs.InFlight.{senders_keep}
use Rattle.theorems.proofs.OneHolders.{one_holder}
use Rattle.theorems.proofs.NoUnsafes.{tame_program}
use Rattle.theorems.proofs.Separations.{separate_run}
use Rattle.theorems.proofs.NoRaces.{meets_reached, no_race as no-races, no_race_verdict}
use Rattle.theorems.proofs.DrawingLengths.{drawing_length}
use Rattle.theorems.proofs.StrippedReads.{stripped_reads, none_is_long}

module _ (text : List ℕ) (P : Program) (is-accepted : script mosts text ≡ accepted P) where
  -- its program guarantees what the run relies on
  pub valid : Valid mosts P
  valid = accepted_valid mosts text P is-accepted

  -- its text is the printing of what was read: nothing of it is lost
  pub text_is_printed : text ≡ head_of P.edition ++ join (map show (lines_of P))
  text_is_printed = accepted_prints mosts text P is-accepted

  -- its stripped script is accepted too, and reads to the stripped program's table, unless its text is too long; so 18 of that table is for its
  -- length alone
  pub stripped_text_reads : length (stripped_script P) ≤ Most.text → ReadsTo mosts (program_words (strip P)) (stripped_script P)
  stripped_text_reads = stripped_reads text P is-accepted

  pub no_script_is_long : NoneReadsTo mosts (program_words (strip P)) → Most.text < length (stripped_script P)
  no_script_is_long = none_is_long text P is-accepted

  pub program_words_in_16_bits : Every In16Bits (program_words P)
  program_words_in_16_bits = program_words_small valid

  -- Document 02, L9: "no run of a script in which the word unsafe does not occur has a race, on any turns and up to any stop"
  module _ (no-unsafe : no_unsafe text) (ts : List ℕ) where
    -- what it rests on: after any turns, no two of the threads and channels reach one object that is not imm
    pub roots_are_separate : Separate (run mosts P ts).state
    roots_are_separate = separate_run mosts P valid (tame_program mosts text P is-accepted no-unsafe) (omega arith) ts

    -- no turn races with an earlier one, on any field of any object
    pub no_race : (i j n f : ℕ) → i < j → j < length ts → races_on mosts P ts i j n f ≡ false
    no_race i j n f order end = no-races mosts P valid (tame_program mosts text P is-accepted no-unsafe) (omega arith) ts i j n f order end

    -- and so what is to be said of the run is that it has none
    pub verdict_is_no_race : verdict mosts P ts ≡ norace
    verdict_is_no_race = no_race_verdict mosts P valid (tame_program mosts text P is-accepted no-unsafe) (omega arith) ts

  module _ (ts : List ℕ) (few : length ts ≤ Most.turns) where
    -- after every list of turns, and so after every turn: every number is in its range, message numbers are at most the moves
    pub state_fits : Fits mosts P (run mosts P ts).moves (run mosts P ts).state
    state_fits = keeps_run mosts P ts valid (omega arith)

    -- the moves are at most the turns
    pub moves_in_16_bits : In16Bits (run mosts P ts).moves
    moves_in_16_bits = omega (arith, moves_few mosts P ts)

    pub state_words_in_16_bits : Every In16Bits (state_words (run mosts P ts).state)
    state_words_in_16_bits = state_words_small (fits_run P ts valid few) (omega arith) valid

    -- "For every accepted script and every list of up to 32,768 turns from a fresh start, .. the stripped script .. matches the guarded one."
    pub demand_3 : Matches mosts P ts
    demand_3 = stripped_matches mosts P ts

    -- Document 02, L1: "a parcel is the sender's until it is taken", and so is what it reaches in the reports.
    pub messages_are_their_senders : SendersKeep mosts P ts
    messages_are_their_senders = senders_keep mosts P ts valid (omega arith)

    -- Document 02, L4: what a report lists is every object reached, "in rising order", and no other list is; it fits in the words lent.
    pub reports_rise : (t : ℕ) → let S = (run mosts P ts).state in OneList S.objects (roots P S t) (reach_list S.objects (roots P S t))
    reports_rise t = reach_lists state_fits t

    pub reports_fit : (t : ℕ) → let S = (run mosts P ts).state in length (reach_list S.objects (roots P S t)) ≤ Most.reach_list
    reports_fit t = let S = (run mosts P ts).state in omega (arith, reach_few S.objects (roots P S t), state_fits.few_objects)

    -- Document 02, L7: "the stored count equals the count taken afresh": the fourth word of an object's record is the number of places that hold it,
    -- of an object that was never made too, which none holds
    pub counts_are_stored : (n : ℕ) → n < mosts.objects → let S = (run mosts P ts).state in get_or (state_words S) (11 + n * 8) 0 ≡ holders S n
    counts_are_stored n has_place =
        let S = (run mosts P ts).state in
        let held : Held (state_words S) S [] = record { words = sym (append-nil (state_words S)) } in
        count_word held n (11 + n * 8) has_place refl

    pub unmade_has_no_holder : (n : ℕ) → let S = (run mosts P ts).state in length S.objects ≤ n → holders S n ≡ 0
    unmade_has_no_holder n unmade = unmade_unheld (run mosts P ts).state state_fits n unmade

    -- "once, over all line forms": a turn that moves changes the count by what its line gains and loses
    pub counts_change : (t : ℕ) (S₁ : State) → let S = (run mosts P ts).state in turn mosts P S t ≡ ok S₁
        → (n : ℕ) → holders S₁ n + count n (lost P S t) ≡ holders S n + count n (gained P S t)
    counts_change t S₁ goes n = turn_changes mosts P (run mosts P ts).moves (run mosts P ts).state S₁ t state_fits goes n

    -- "and that an iso object never has more than one holder when self slots are left out"
    pub iso_has_one_holder : OneHolder P (run mosts P ts).state
    iso_has_one_holder = one_holder mosts P ts valid (omega arith)

    -- Document 02, L8: "Bound the length and show that the buffer always suffices."
    pub drawing_is_short : length (drawing (run mosts P ts).state) ≤ 42283
    drawing_is_short = drawing_length state_fits

    pub drawing_fits : length (drawing (run mosts P ts).state) ≤ Most.drawing
    drawing_fits = omega (arith, drawing_is_short)

-- Document 02, L2: "Every text that the reader accepts comes back byte for byte from its table."
pub every_text_comes_back : ComesBack mosts
every_text_comes_back = comes_back mosts

-- Document 02, L6: at a copy, in any state, "the copy duplicates every object reached from slot S through fields, each once": the copied graph is the
-- source's, its numbers renamed; or one of the four checks stops the turn.
pub copies_are_renamed : (P : Program) (S : State) (t : ℕ) (f : Frame) (callers : List Frame) (k : Cap) (s : ℕ) → AtCopy P S t f callers k s
    → CopyTurn mosts P S t f callers k s
copies_are_renamed = copy_turn mosts

-- Document 02, L9: "a message from which the object was reached": the test that the definition of a race asks is true exactly if the object is the
-- message or is reached from it through fields.
pub met_is_reached : (os : List Object) (n x : ℕ) → (meets os n x ≡ true) ↔ Reaches os n x
met_is_reached = meets_reached
