-- The four conditions for one script and one list of turns: when each tick stands, and what is told of it.
use Rattle.std.specs.Prelude.{ℕ, suc, ◌+◌, false, cond, List, [], ◌∷◌, eqb}
use Rattle.rules.specs.Mosts.{mosts}
use Rattle.rules.specs.Script.{value, field, swap, call, new, cast, spawn, send, recv, copy, bind, give, Form, kind, opens, line, Program, rank}
use Rattle.rules.specs.Reading.{Reading, reading}
use Rattle.rules.specs.Run.{Answer, run, answer}
use Rattle.rules.specs.Stripped.{strip}
use Rattle.rules.specs.Calls.{long_text}

-- ---- 1: "Every script on the box reads clean."

unfoldable pub reading_of : List ℕ → Reading
reading_of text = reading mosts (long_text text) false text

-- ---- 2: "Every record carries a capability of the Dala model": each line that makes records names one

-- the capability that a line names, as 1 and its rank; 0 for none
abbrev pub cap_named : Form → ℕ
cap_named (kind K) = 0
cap_named (opens o) = 0
cap_named (line (give w)) = 0
cap_named (line (bind (value w))) = 0
cap_named (line (bind (field s f))) = 0
cap_named (line (bind (swap s f w))) = 0
cap_named (line (bind (call s i w))) = 0
cap_named (line (bind (new k n ws))) = suc (rank k)
cap_named (line (bind (cast k w))) = suc (rank k)
cap_named (line (bind (spawn b))) = 0
cap_named (line (bind (send s w))) = 0
cap_named (line (bind (recv s))) = 0
cap_named (line (bind (copy k s))) = suc (rank k)

-- and that of the records that it makes
abbrev pub cap_made : Form → ℕ
cap_made (kind K) = 0
cap_made (opens o) = 0
cap_made (line (give w)) = 0
cap_made (line (bind (value w))) = 0
cap_made (line (bind (field s f))) = 0
cap_made (line (bind (swap s f w))) = 0
cap_made (line (bind (call s i w))) = 0
cap_made (line (bind (new k n ws))) = suc (rank k)
cap_made (line (bind (cast k w))) = 0
cap_made (line (bind (spawn b))) = 0
cap_made (line (bind (send s w))) = 0
cap_made (line (bind (recv s))) = 0
cap_made (line (bind (copy k s))) = suc (rank k)

-- how many lines make records of a capability
unfoldable pub making : ℕ → List Form → ℕ
making k [] = 0
making k (F ∷ Fs) = cond (eqb (cap_made F) k) 1 0 + making k Fs

-- the numbers of the lines that name a capability; n is the first line's
unfoldable pub naming : ℕ → ℕ → List Form → List ℕ
naming k n [] = []
naming k n (F ∷ Fs) = cond (eqb (cap_named F) k) (n ∷ naming k (suc n) Fs) (naming k (suc n) Fs)

-- ---- 4: "A script with its guards in gives the table it gave when all records were unsafe.": `guards_change_nothing` of crate stripping

abbrev pub guarded_answer : Program → List ℕ → Answer
guarded_answer P ts = answer mosts P (run mosts P ts)

abbrev pub stripped_answer : Program → List ℕ → Answer
stripped_answer P ts = answer mosts (strip P) (run mosts (strip P) ts)
