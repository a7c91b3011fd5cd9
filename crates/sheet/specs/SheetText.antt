-- The sheet of an input, byte for byte: docs/SHEET.md shows one of each sort.
use Rattle.std.specs.Prelude.{Result, Ok, Err, ℕ, zero, suc, ◌+◌, ◌*◌, Bool, true, false, cond, List, [], ◌∷◌, ◌++◌, map, eqb, ltb, length, get_or, take}
use Prim.Native.Char.{code}
use Prim.Native.String as S
use Rattle.rules.specs.Mosts.{mosts}
use Rattle.rules.specs.Numbers as No
use Rattle.rules.specs.Text.{bytes, space, allowed, lines, find_line, start_of}
use Rattle.rules.specs.Templates.{decimal, print_many}
use Rattle.rules.specs.Script.{Program, lines_of}
use Rattle.rules.specs.Reading.{Reading, turned_away, accepted, lines_before}
use Rattle.buffer.specs.Writing.{number_part}
use Rattle.rules.specs.Run.{Answer}
use Rattle.rules.specs.Listing.{answer_line}
use Rattle.listing.specs.Outputs.{output_bytes}
use Rattle.replay.specs.Given.{Given, away, faulty, given, given_of}
use Rattle.tally.specs.Fates.{rows, tally, played}
use Rattle.stripping.specs.StrippedRuns.{guards_change_nothing}
use Rattle.rules.specs.declared.faults.Fault.{Fault}
use Rattle.rules.specs.declared.faults.Fault.TheVariants.{ShortTable}
use Rattle.sheet.specs.declared.Sheet.{Sheet}
use Rattle.sheet.specs.Ticks.{reading_of, making, naming, guarded_answer, stripped_answer}

-- ---- Ticks

abbrev pub heading : List ℕ
heading = bytes "Check sheet of the freezer box\n\n"

abbrev pub title_one : List ℕ
title_one = bytes "1. The script reads clean\n"

abbrev pub title_two : List ℕ
title_two = bytes "2. Every record carries a capability\n"

abbrev pub title_three : List ℕ
title_three = bytes "3. The list of turns is filed\n"

abbrev pub title_four : List ℕ
title_four = bytes "4. Guards change no result\n"

abbrev pub mark : Bool → List ℕ
mark true = bytes "[x] "
mark false = bytes "[ ] "

abbrev pub tick : Bool → List ℕ → List ℕ
tick b title = mark b ++ title

abbrev pub unexamined : List ℕ → List ℕ
unexamined title = mark false ++ (title ++ bytes "       not examined\n")

-- ---- A refusal: its number and line, the line as text, a mark under it, a hint

-- what a screen can show of a line: at most 100 bytes, a question mark for what is no letter, digit or sign
abbrev pub visible : ℕ → ℕ
visible c = cond (ltb c 32) 63 (cond (ltb 126 c) 63 c)

-- under a stray byte, or under every byte of a line that is refused for anything else
abbrev pub mark_under : (number c : ℕ) → ℕ
mark_under k c = cond (eqb k No.stray_byte) (cond (allowed c) space (code "^")) (code "^")

unfoldable pub shown : (number : ℕ) → List ℕ → List ℕ
shown k [] = []
shown k (c ∷ l) =
    let front = take 100 (c ∷ l) in
    bytes "       " ++ (map visible front ++ (bytes "\n       " ++ (map (mark_under k) front ++ bytes "\n")))

-- what the author can do, by the number, the line and whether it has its LF
abbrev pub last_of : List ℕ → ℕ
last_of [] = 0
last_of (c ∷ []) = c
last_of (c ∷ d ∷ l) = last_of (d ∷ l)

-- the line is not empty and ends where the text does
abbrev pub unended : ℕ → List ℕ → Bool
unended n text = cond (eqb (length (find_line n text)) 0) false (eqb (start_of n (lines text) + length (find_line n text)) (length text))

abbrev pub stray_hint : (cr : Bool) → List ℕ
stray_hint true = bytes "       hint: the line ends in CR LF; save the file with LF alone\n"
stray_hint false = bytes "       hint: only a to z, 0 to 9, brackets, space and LF may stand in a script\n"

abbrev pub malformed_hint : (cut : Bool) → List ℕ
malformed_hint true = bytes "       hint: the last line has no LF at its end; was the file cut off?\n"
malformed_hint false = bytes "       hint: no form of a script, or not in its place\n"

unfoldable pub hint : (number : ℕ) → (cr cut : Bool) → List ℕ
hint k cr cut =
    cond (eqb k No.overlong) (bytes "       hint: a script has at most 16384 bytes, an input 65536\n")
    (cond (eqb k No.stray_byte) (stray_hint cr)
    (cond (eqb k No.malformed) (malformed_hint cut)
    (cond (eqb k No.over_count) (bytes "       hint: a number over 255, or more kinds, blocks, slots or lets than there is room for\n")
    (cond (eqb k No.unbound) (bytes "       hint: a slot is used that no line has filled yet\n")
    (cond (eqb k No.self_taken) (bytes "       hint: a method may read its own object, slot 0, and not take it\n")
    (cond (eqb k No.unfinished) (bytes "       hint: the last block has no give, or there is no block; was the file cut off?\n")
    (bytes "       hint: no such kind or block, a block of the wrong sort, or other operands than the kind's fields\n")))))))

-- and for a fault of the last line of an input
unfoldable pub turns_hint : (cr cut : Bool) → List ℕ
turns_hint cr cut =
    cond cr (stray_hint true) (cond cut (malformed_hint true) (bytes "       hint: the last line is to be (turns T ..), each T a number up to 255\n"))

abbrev pub ends_in_cr : ℕ → List ℕ → Bool
ends_in_cr n text = eqb (last_of (find_line n text)) 13

-- the number's word, after a space
unfoldable pub word_text : (number : ℕ) → List ℕ
word_text k =
    cond (eqb k No.overlong) (bytes " overlong")
    (cond (eqb k No.stray_byte) (bytes " stray byte")
    (cond (eqb k No.malformed) (bytes " malformed")
    (cond (eqb k No.over_count) (bytes " over count")
    (cond (eqb k No.unbound) (bytes " unbound")
    (cond (eqb k No.self_taken) (bytes " self taken")
    (cond (eqb k No.unfinished) (bytes " unfinished") (bytes " dangling")))))))

-- lines count from 0 as the box does, and from 1 as editors do; no line of an input has a larger number
abbrev pub editor_line : ℕ → ℕ
editor_line n = cond (ltb n 65536) (n + 1) 0

-- refused with a number, at line n of a text; no line is at fault where the text is too long
unfoldable pub refusal : (number line : ℕ) → (text : List ℕ) → List ℕ
refusal k n text =
    bytes "       refused:" ++ ((number_part k ++ word_text k) ++ (bytes " at line" ++ (number_part n ++ (bytes ", in an editor line" ++ (number_part (editor_line n) ++ (bytes "\n"
    ++ cond (eqb k No.overlong) [] (shown k (find_line n text))))))))

unfoldable pub script_refusal : (number line : ℕ) → (text : List ℕ) → List ℕ
script_refusal k n text = refusal k n text ++ hint k (ends_in_cr n text) (unended n text)

unfoldable pub turns_refusal : (number line : ℕ) → (input : List ℕ) → List ℕ
turns_refusal k n input = refusal k n input ++ turns_hint (ends_in_cr n input) (unended n input)

-- ---- 1

-- the line that names the edition counts
abbrev pub line_count : Program → ℕ
line_count P = length (lines_of P) + lines_before P.edition

unfoldable pub read_text : Program → List ℕ
read_text P = tick true title_one ++ (bytes "      " ++ (number_part (line_count P) ++ bytes " lines\n"))

unfoldable pub part_one : Reading → List ℕ → List ℕ
part_one (turned_away k n) text = tick false title_one ++ script_refusal k n text
part_one (accepted P) text = read_text P

-- ---- 2

abbrev pub cap_part : S.String → ℕ → List ℕ
cap_part w n = bytes w ++ number_part n

unfoldable pub cap_text : (imm iso local free : ℕ) → List ℕ
cap_text a b c d = cap_part "       lines that make records: imm" a ++ (cap_part ", iso" b ++ (cap_part ", local" c ++ (cap_part ", unsafe" d ++ bytes "\n")))

unfoldable pub cap_counts : Program → List ℕ
cap_counts P = let Fs = lines_of P in cap_text (making 1 Fs) (making 2 Fs) (making 3 Fs) (making 4 Fs)

abbrev pub names_or_none : List ℕ → List ℕ
names_or_none [] = bytes " none"
names_or_none (n ∷ ns) = print_many decimal (n ∷ ns)

unfoldable pub naming_of : Program → List ℕ
naming_of P = bytes "       lines that name unsafe:" ++ (names_or_none (naming 4 (lines_before P.edition) (lines_of P)) ++ bytes "\n")

unfoldable pub two_text : Program → List ℕ
two_text P = tick true title_two ++ (cap_counts P ++ naming_of P)

unfoldable pub part_two : Reading → List ℕ
part_two (turned_away k n) = unexamined title_two
part_two (accepted P) = two_text P

-- ---- 3

abbrev pub turn_count : ℕ → List ℕ
turn_count n = bytes "      " ++ (number_part n ++ bytes " turns\n")

-- turns that are played, turns that are not
unfoldable pub played_text : ℕ → ℕ → ℕ → List ℕ
played_text a b c = bytes ":" ++ (number_part a ++ (bytes " moved," ++ (number_part b ++ (bytes " waited," ++ (number_part c ++ bytes " idle,")))))

unfoldable pub halted_text : ℕ → ℕ → List ℕ
halted_text d e = number_part d ++ (bytes " stopped," ++ (number_part e ++ bytes " not played\n"))

-- a thread's five counts, from place i
unfoldable pub fates_text : List ℕ → ℕ → List ℕ
fates_text counts i = played_text (get_or counts i 0) (get_or counts (i + 1) 0) (get_or counts (i + 2) 0) ++ halted_text (get_or counts (i + 3) 0) (get_or counts (i + 4) 0)

abbrev pub row_name : ℕ → List ℕ
row_name t = cond (ltb t mosts.threads) (bytes "       thread" ++ number_part t) (bytes "       no thread")

unfoldable pub turns_in : List ℕ → ℕ → ℕ
turns_in counts i = get_or counts i 0 + (get_or counts (i + 1) 0 + (get_or counts (i + 2) 0 + (get_or counts (i + 3) 0 + get_or counts (i + 4) 0)))

-- only of those that have a turn
unfoldable pub row_text : List ℕ → ℕ → List ℕ
row_text counts t = cond (eqb (turns_in counts (t * 5)) 0) [] (row_name t ++ fates_text counts (t * 5))

unfoldable pub rows_text : List ℕ → ℕ → List ℕ
rows_text counts zero = []
rows_text counts (suc n) = rows_text counts n ++ row_text counts n

-- of a list that is filed, by its length and its counts
unfoldable pub three_text : ℕ → List ℕ → List ℕ
three_text n counts = tick true title_three ++ (turn_count n ++ rows_text counts rows)

-- ---- 4

abbrev pub words_text : Bool → List ℕ
words_text true = bytes "       the same words, capabilities aside, after"
words_text false = bytes "       other words, capabilities aside, after"

unfoldable pub compared_text : (same : Bool) → (turns : ℕ) → List ℕ
compared_text b n = words_text b ++ (number_part n ++ bytes " turns\n")

unfoldable pub four_text : (guarded stripped : Answer) → (same : Bool) → (turns : ℕ) → List ℕ
four_text g r b n = tick b title_four ++ (bytes "       with guards: " ++ (answer_line g ++ (bytes "       without:     " ++ (answer_line r ++ compared_text b n))))

unfoldable pub part_four : Program → List ℕ → List ℕ
part_four P ts = four_text (guarded_answer P ts) (stripped_answer P ts) (guards_change_nothing P ts) (played mosts P ts)

-- ---- The sheet

abbrev pub verdict : Bool → List ℕ
verdict true = bytes "\nVerdict: all four conditions hold\n"
verdict false = bytes "\nVerdict: not all four conditions hold\n"

-- what follows a refused script, and a text that was not looked at
unfoldable pub refused_end : ℕ → List ℕ
refused_end n = unexamined title_two ++ (tick true title_three ++ (turn_count n ++ (unexamined title_four ++ verdict false)))

unfoldable pub unread_end : List ℕ
unread_end = unexamined title_two ++ (unexamined title_three ++ (unexamined title_four ++ verdict false))

-- with a list of turns that is filed
unfoldable pub filed_sheet : Reading → (text turns : List ℕ) → List ℕ
filed_sheet (turned_away k n) text ts = part_one (turned_away k n) text ++ refused_end (length ts)
filed_sheet (accepted P) text ts = read_text P ++ (two_text P ++ (three_text (length ts) (tally mosts P ts) ++ (part_four P ts ++ verdict (guards_change_nothing P ts))))

-- with a last line that has a fault, which is a line of the whole input
unfoldable pub faulty_end : (number line : ℕ) → (input : List ℕ) → List ℕ
faulty_end k n input = tick false title_three ++ (turns_refusal k n input ++ (unexamined title_four ++ verdict false))

unfoldable pub faulty_sheet : Reading → (text : List ℕ) → (number line : ℕ) → (input : List ℕ) → List ℕ
faulty_sheet R text k n input = part_one R text ++ (part_two R ++ faulty_end k n input)

-- of an input that is too long
unfoldable pub away_sheet : (number : ℕ) → List ℕ
away_sheet k = part_one (turned_away k 0) [] ++ unread_end

abbrev pub sheet_by : (input : List ℕ) → Given → List ℕ
sheet_by input (away k) = heading ++ away_sheet k
sheet_by input (faulty text k n) = heading ++ faulty_sheet (reading_of text) text k n input
sheet_by input (given text ts) = heading ++ filed_sheet (reading_of text) text ts

-- whether all four stand
abbrev pub holds_filed : Reading → (turns : List ℕ) → Bool
holds_filed (turned_away k n) ts = false
holds_filed (accepted P) ts = guards_change_nothing P ts

abbrev pub holds_by : Given → Bool
holds_by (away k) = false
holds_by (faulty text k n) = false
holds_by (given text ts) = holds_filed (reading_of text) ts

-- ---- In a lent output

unfoldable pub sheet_of : (input : List ℕ) → List ℕ
sheet_of input = sheet_by input (given_of input)

unfoldable pub holds_of : (input : List ℕ) → Bool
holds_of input = holds_by (given_of input)

-- "9 short table: a lent table or list under its length"; otherwise the sheet's bytes are counted, and told whether all four conditions hold
unfoldable pub checked_of : (input output : List ℕ) → Result Sheet Fault
checked_of input output = cond (ltb (length output) output_bytes) (Err ShortTable) (Ok (record { length = length (sheet_of input); holds = holds_of input }))
