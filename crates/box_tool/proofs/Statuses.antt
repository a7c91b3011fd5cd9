-- The status that is told by what was printed of a run, or of an input that is saved, is that of what the input comes to: a refusal begins with
-- its word, a run with another, and an input that is accepted with a form.
use Prim.Native.Nat.{ℕ, ◌<◌}
use native.Mathlib.Omega.{arith}
use mathlib.Core.Path.{◌≡◌, refl, sym, ap, ◌∙◌}
use mathlib.Core.Bool.{Bool, true, false, ◌||◌, cond}
use mathlib.Core.List.{List, [], ◌∷◌, ◌++◌, append_assoc, append-nil, map}
use lib.Dec.{ltb}
use lib.ListN.{length}
use Rattle.rules.specs.Mosts as Most
use Rattle.rules.specs.Mosts.{mosts}
use Rattle.rules.specs.Numbers as No
use Rattle.rules.specs.Text.{lines, join}
use Rattle.rules.specs.Script.{value, field, swap, call, new, cast, spawn, send, recv, copy, bind, give, thread, method, Form, kind, opens, line}
use Rattle.rules.specs.Script.{Edition, edition1, edition2, Kind, Block, Program, block_lines, kind_lines, lines_of}
use Rattle.rules.specs.Templates.{print, show, head_of}
use Rattle.rules.specs.Reading.{Reading, turned_away, accepted, reading, script}
use Rattle.rules.specs.Run.{Run, Stop, none, stopped, refused, run, answer, answer_of}
use Rattle.rules.specs.Calls.{long_text, long_turns}
use Rattle.rules.specs.Listing.{bracket, a_line, answer_line, listing}
use Rattle.rules.specs.Input.{Turns, fault, turns, turns_of, last_line, lines_before, Outcome, turns_away, ran_on, outcome_by, outcome, printed, boxrun}
use Rattle.rules.proofs.Printing.{join_lines}
use Rattle.rules.proofs.Accepted.{accepted_valid, accepted_prints, reading_accepted}
use Rattle.grammar.specs.Words.{begins}
use Rattle.save.specs.Saved.{saved_as, saved}
use Rattle.box_tool.specs.declared.Status.TheVariants.{Well, Refused}
use Rattle.box_tool.specs.Status.{status_by, status_of}

-- ---- What an input comes to

before_last : (ls : List (List ℕ)) → join ls ≡ join (lines_before ls) ++ last_line ls
unfolding join lines_before last_line
before_last [] = refl
before_last (l ∷ []) = append-nil l
before_last (l ∷ k ∷ ls) = ap (λ (r : List ℕ). l ++ r) (before_last (k ∷ ls)) ∙ sym (append_assoc l (join (lines_before (k ∷ ls))) (last_line (k ∷ ls)))

-- it is turned away; or a script that is accepted stands at its front, and ran
by_outcome : (input : List ℕ) (Q : Outcome → Type 0) → ((k n : ℕ) → Q (turns_away k n))
    → ((P : Program) (ts text rest : List ℕ) → input ≡ text ++ rest → script mosts text ≡ accepted P → Q (ran_on mosts ts (accepted P))) → Q (outcome mosts input)
unfolding outcome
by_outcome input Q away runs = go (ltb Most.input (length input)) (turns_of (last_line (lines input)))
  where
    of_reading : (long : Bool) (ts : List ℕ) (x : Reading) → reading mosts long false (join (lines_before (lines input))) ≡ x → Q (ran_on mosts ts x)
    of_reading long ts (turned_away k n) e = away k n
    of_reading long ts (accepted P) e =
        runs P ts (join (lines_before (lines input))) (last_line (lines input)) (sym (join_lines input) ∙ before_last (lines input))
        (reading_accepted mosts long false (join (lines_before (lines input))) P e).2

    go : (b : Bool) (t : Turns) → Q (cond b (turns_away No.overlong 0) (outcome_by mosts (lines_before (lines input)) t))
    go true t = away No.overlong 0
    go false (fault k) = away k (length (lines_before (lines input)))
    go false (turns ts) = of_reading (long_text (join (lines_before (lines input))) || long_turns ts) ts _ refl

-- ---- What is printed of it

refusal_told : (k n : ℕ) → status_of (answer_line (refused k n)) ≡ Refused
unfolding status_of begins answer_line a_line bracket
refusal_told k n = refl

run_told : (P : Program) (r : Run) → status_of (listing (answer mosts P r) r.state) ≡ Well
unfolding status_of begins listing answer answer_of answer_line a_line bracket
run_told P r = go r.stop
  where
    go : (s : Stop) → status_of (listing (answer_of mosts P r.state r.moves s) r.state) ≡ Well
    go none = refl
    go (stopped k t b l) = refl

head_told : (rest : List ℕ) → status_of (head_of edition2 ++ rest) ≡ Well
unfolding status_of begins print
head_told rest = refl

form_told : (F : Form) (rest : List ℕ) → status_of (show F ++ rest) ≡ Well
unfolding status_of begins show print
form_told (kind K) rest = refl
form_told (opens thread) rest = refl
form_told (opens method) rest = refl
form_told (line (give w)) rest = refl
form_told (line (bind (value w))) rest = refl
form_told (line (bind (field s f))) rest = refl
form_told (line (bind (swap s f w))) rest = refl
form_told (line (bind (call s m w))) rest = refl
form_told (line (bind (new k n ws))) rest = refl
form_told (line (bind (cast k w))) rest = refl
form_told (line (bind (spawn b))) rest = refl
form_told (line (bind (send s w))) rest = refl
form_told (line (bind (recv s))) rest = refl
form_told (line (bind (copy k s))) rest = refl

-- a script that is accepted has a first line
first_told : (Ks : List Kind) (Bs : List Block) → 0 < length Bs → (rest : List ℕ) → status_of (join (map show (kind_lines Ks (block_lines Bs))) ++ rest) ≡ Well
unfolding kind_lines block_lines join
first_told [] [] some rest = absurd (omega arith)
first_told [] (B ∷ Bs) some rest = rw append_assoc (form_told (opens B.sort) _)
first_told (K ∷ Ks) Bs some rest = rw append_assoc (form_told (kind K) _)

script_told : (P : Program) (text rest : List ℕ) → script mosts text ≡ accepted P → status_of (text ++ rest) ≡ Well
unfolding lines_of
script_told P text rest is = rw (accepted_prints mosts text P is) (go P.edition)
  where
    go : (e : Edition) → status_of ((head_of e ++ join (map show (lines_of P))) ++ rest) ≡ Well
    go edition1 = first_told P.kinds P.blocks (accepted_valid mosts text P is).first.there rest
    go edition2 = rw append_assoc (head_told _)

-- so 1 is told exactly where boxrun turns the input away: by a run, and by an input that is saved
pub run_status : (input : List ℕ) → status_of (boxrun mosts input) ≡ status_by (outcome mosts input)
unfolding boxrun
run_status input = by_outcome input (λ o. status_of (printed o) ≡ status_by o) refusal_told (λ P ts text rest split is. run_told P (run mosts P ts))

pub save_status : (input : List ℕ) → status_of (saved input) ≡ status_by (outcome mosts input)
unfolding saved
save_status input =
    by_outcome input (λ o. status_of (saved_as input o) ≡ status_by o) refusal_told
    (λ P ts text rest split is. rw split (script_told P text rest is))
