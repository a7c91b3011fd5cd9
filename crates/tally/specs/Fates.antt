-- What came of each turn of a list: it moved, waited, idled or stopped the run, or was not played any more; and how many there are of each, by thread.
use Rattle.std.specs.Prelude.{ℕ, suc, ◌+◌, ◌*◌, Bool, true, false, cond, List, [], ◌∷◌, ltb, get_or, set, replicate}
use Rattle.rules.specs.declared.Mosts.{Mosts}
use Rattle.rules.specs.Mosts.{mosts}
use Rattle.rules.specs.Script.{Program}
use Rattle.rules.specs.State.{State, thread_at}
use Rattle.rules.specs.Turn.{Res, ok, wait, stop, turn}
use Rattle.rules.specs.Run.{Stop, none, stopped, Run, fresh, advance, is_finished}
use Rattle.tally.specs.declared.Fate.{Fate}
use Rattle.tally.specs.declared.Fate.TheVariants.{Moved, Waited, Idled, Halted, Unplayed}

-- "A waiting turn, or one for a finished or unstarted thread, changes nothing.": the second idles
abbrev pub fate_by : Res State → (finished : Bool) → Fate
fate_by (ok S) finished = Moved
fate_by wait true = Idled
fate_by wait false = Waited
fate_by (stop k) finished = Halted

-- "A stop ends the whole run"
abbrev pub fate_of : Mosts → Program → State → Stop → ℕ → Fate
fate_of m P S none t = fate_by (turn m P S t) (is_finished (thread_at S t))
fate_of m P S (stopped k i b l) t = Unplayed

-- ---- The counts: five for each thread, and five for the numbers that no thread can have

abbrev pub fate_number : Fate → ℕ
fate_number Moved = 0
fate_number Waited = 1
fate_number Idled = 2
fate_number Halted = 3
fate_number Unplayed = 4

abbrev pub rows : ℕ
rows = mosts.threads + 1

abbrev pub row_of : ℕ → ℕ
row_of t = cond (ltb t mosts.threads) t mosts.threads

abbrev pub count_at : ℕ → Fate → ℕ
count_at t f = row_of t * 5 + fate_number f

-- one more at a place
unfoldable pub raise : List ℕ → ℕ → List ℕ
raise counts i = set counts i (get_or counts i 0 + 1)

unfoldable pub none_counted : List ℕ
none_counted = replicate (rows * 5) 0

-- the counts after the turns of a list, each turn by what it finds
unfoldable pub tally_from : Mosts → Program → Run → List ℕ → List ℕ → List ℕ
tally_from m P r counts [] = counts
tally_from m P r counts (t ∷ ts) =
    tally_from m P (advance m P r.state r.moves r.stop t) (raise counts (count_at t (fate_of m P r.state r.stop t))) ts

unfoldable pub tally : Mosts → Program → List ℕ → List ℕ
tally m P ts = tally_from m P fresh none_counted ts

-- ---- How many turns are played before one stops the run: all, where none does

abbrev pub goes_on : Fate → ℕ → ℕ
goes_on Moved n = suc n
goes_on Waited n = suc n
goes_on Idled n = suc n
goes_on Halted n = 0
goes_on Unplayed n = 0

unfoldable pub played_from : Mosts → Program → Run → List ℕ → ℕ
played_from m P r [] = 0
played_from m P r (t ∷ ts) = goes_on (fate_of m P r.state r.stop t) (played_from m P (advance m P r.state r.moves r.stop t) ts)

unfoldable pub played : Mosts → Program → List ℕ → ℕ
played m P ts = played_from m P fresh ts
