-- Cases: a script and its turns, and what is stated of it. The starred bench cases of document 01, D as document 02, L5, has it, are one table.
use Rattle.std.specs.Prelude.{ℕ, ◌≡◌, List, map, [], ◌∷◌}
use Prim.Native.String as S
use Rattle.rules.specs.Mosts.{mosts}
use Rattle.rules.specs.Text.{bytes}
use Rattle.rules.specs.Reading.{Reading, turned_away, accepted, script}
use Rattle.rules.specs.Run.{Answer, refused, ended, halted, finished, stuck, open_end}
use Rattle.rules.specs.Stripped.{strip}
use Rattle.rules.specs.Calls.{run_answer}
use Rattle.rules.specs.Input.{ran_on, printed}

-- guarded, or with every K changed to unsafe once it is read
pub data Way : Type 0 where
  guarded stripped : Way

-- what is stated of a case: its answer, and for some what is printed
pub data Output : Type 0 where
  unstated : Output
  prints : List ℕ → Output

pub record Case : Type 0 where
  pub text : S.String
  pub turns : List ℕ
  pub way : Way
  pub answer : Answer
  pub output : Output

unfoldable pub read_for : Way → Reading → Reading
read_for guarded r = r
read_for stripped (turned_away k n) = turned_away k n
read_for stripped (accepted P) = accepted (strip P)

unfoldable pub reading_of : Case → Reading
reading_of c = read_for c.way (script mosts (bytes c.text))

unfoldable pub output_for : Output → List ℕ → Output
output_for unstated l = unstated
output_for (prints _) l = prints l

unfoldable pub found : Case → Answer × Output
found c = (run_answer mosts c.turns (reading_of c), output_for c.output (printed (ran_on mosts c.turns (reading_of c))))

unfoldable pub answers : S.String → List ℕ → Way → Answer → Case
answers s ts w a = record { text = s; turns = ts; way = w; answer = a; output = unstated }

-- what is stated of it
unfoldable pub stated : Case → Answer × Output
stated c = (c.answer, c.output)

-- every case of a table comes out as stated
abbrev pub AllHold : List Case → Type 0
AllHold cs = map found cs ≡ map stated cs

-- ---- The starred cases

unfoldable pub case_d : S.String
case_d = "(kind (fields 0) (does))\n(thread)\n(let (new iso 0))\n(give (read 1))\n"

unfoldable pub cases : List Case
cases =
    -- A
    record {
      text = "(kind (fields 0) (does))\n(thread)\n(let (spawn 1))\n(let (new iso 0))\n(let (send 1 (take 2)))\n(give (read 1))\n(thread)\n(let (recv 0))\n(give (take 1))\n";
      turns = 0 ∷ 0 ∷ 0 ∷ 1 ∷ 0 ∷ [];
      way = guarded;
      answer = ended open_end 5;
      output = prints (bytes "(end open 5)\n(object 0 iso 0 0)\n(channel 1 empty)\n(thread 0 ready 0 3 absent (chan 1) absent (chan 1))\n(thread 1 ready 1 1 (chan 1) (obj 0))\n");
    }
    -- B: an empty text
    ∷ answers "" [] guarded (refused 7 0)
    -- C: a turn, and none
    ∷ answers "(thread)\n(give (read 0))\n" (0 ∷ []) guarded (halted 10 0 0 0 0)
    ∷ answers "(thread)\n(give (read 0))\n" [] guarded (ended open_end 0)
    -- D, and stripped
    ∷ answers case_d (0 ∷ 0 ∷ []) guarded (halted 19 0 0 1 1)
    ∷ answers case_d (0 ∷ 0 ∷ []) stripped (ended finished 2)
    -- E: D with a take
    ∷ answers "(kind (fields 0) (does))\n(thread)\n(let (new iso 0))\n(give (take 1))\n" (0 ∷ 0 ∷ []) guarded (ended finished 2)
    -- F: an imm object cast to iso, and to imm
    ∷ answers "(kind (fields 0) (does))\n(thread)\n(let (new imm 0))\n(let (cast iso (read 1)))\n(give (read 1))\n" (0 ∷ 0 ∷ []) guarded (halted 15 0 0 1 1)
    ∷ answers "(kind (fields 0) (does))\n(thread)\n(let (new imm 0))\n(let (cast imm (read 1)))\n(give (read 1))\n" (0 ∷ 0 ∷ []) guarded (ended open_end 2)
    -- G: the operand takes the target
    ∷ answers "(kind (fields 0) (does))\n(kind (fields 1) (does))\n(thread)\n(let (new unsafe 0))\n(let (new unsafe 1 (read 1)))\n(let (swap 2 0 (take 2)))\n(give (read 1))\n" (0 ∷ 0 ∷ 0 ∷ []) guarded (halted 10 0 0 2 2)
    -- H: a new imm holding a taken iso, and a read imm
    ∷ answers "(kind (fields 0) (does))\n(kind (fields 1) (does))\n(thread)\n(let (new iso 0))\n(let (new imm 1 (take 1)))\n(give (read 2))\n" (0 ∷ 0 ∷ []) guarded (halted 14 0 0 1 1)
    ∷ answers "(kind (fields 0) (does))\n(kind (fields 1) (does))\n(thread)\n(let (new imm 0))\n(let (new imm 1 (read 1)))\n(give (read 2))\n" (0 ∷ 0 ∷ []) guarded (ended open_end 2)
    -- I: thread 0 waits for what nobody sends
    ∷ answers "(thread)\n(let (spawn 1))\n(let (recv 1))\n(give (read 2))\n(thread)\n(give (read 0))\n" (0 ∷ 1 ∷ 0 ∷ []) guarded (ended stuck 2)
    ∷ []
