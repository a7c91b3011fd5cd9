-- What is printed of an input by a job on its parts: the script's text, the turns and the last line.
use Rattle.std.specs.Prelude.{ℕ, ◌≤◌, ◌<◌, ◌≡◌, List, ◌++◌, length, drop, Result, Ok, Err}
use Rattle.std.specs.Borrow.{Bor, MutBor}
use Rattle.rules.specs.Mosts as Most
use Rattle.rules.specs.Numbers.{number}
use Rattle.rules.specs.Refusals.{Refuses}
use Rattle.rules.specs.Run.{refused}
use Rattle.rules.specs.Listing.{answer_line}
use Rattle.rules.specs.declared.faults.Refusal.{Refusal}
use Rattle.listing.specs.Outputs.{short_refusal, printed_of, output_after}
use Rattle.replay.specs.Given.{Given, away, faulty, given, given_of}

-- the job may be called on the parts of the input and an output that has the room
abbrev pub TakesParts : (Bor (List ℕ) → Bor (List ℕ) → Bor (List ℕ) → MutBor (List ℕ) → Type 0) → (input : List ℕ) → (room : ℕ) → Type 0
TakesParts pre input room =
    (text turns last : Bor (List ℕ)) (output : MutBor (List ℕ)) → text.now ++ last.now ≡ input → length input ≤ Most.input → length turns.now ≤ Most.turns
    → room ≤ length output.now → pre text turns last output

-- A text is written over an output and counted; or it is the line of the refusal that is answered, and the output stays as it was.
abbrev pub Tells : (text output : List ℕ) → Result ℕ Refusal → (output₁ : List ℕ) → Type 0
Tells text output (Ok n) output₁ = (n ≡ length text) × (output₁ ≡ text ++ drop (length text) output)
Tells text output (Err e) output₁ = (text ≡ answer_line (refused (number e.fault) e.line)) × (output₁ ≡ output)

-- a refusal is printed by its line, over what was written
abbrev pub Shows : (q : Result ℕ Refusal) → (written : List ℕ) → (r : Result ℕ Refusal) → (output₁ : List ℕ) → Type 0
Shows (Ok n) written r output₁ = (r ≡ Ok n) × (output₁ ≡ written)
Shows (Err e) written r output₁ =
    (r ≡ printed_of (answer_line (refused (number e.fault) e.line)) written) × (output₁ ≡ output_after (answer_line (refused (number e.fault) e.line)) written)

module _ (post : Bor (List ℕ) → Bor (List ℕ) → Bor (List ℕ) → MutBor (List ℕ) → Result ℕ Refusal → MutBor (List ℕ) → Type 0) where
  -- the job was called on a script's text, turns and the last line, which is what follows the text in the input
  pub record JobDone (input text turns output : List ℕ) (r : Result ℕ Refusal) (output₁ : List ℕ) : Type 0 where
    pub text_lent : Bor (List ℕ)
    pub turns_lent : Bor (List ℕ)
    pub last_lent : Bor (List ℕ)
    pub output_lent : MutBor (List ℕ)
    pub left : MutBor (List ℕ)
    pub called : post text_lent turns_lent last_lent output_lent r left
    pub text_is : text_lent.now ≡ text
    pub turns_are : turns_lent.now ≡ turns
    pub whole : text_lent.now ++ last_lent.now ≡ input
    pub few : length turns_lent.now ≤ Most.turns
    pub output_is : output_lent.now ≡ output
    pub leaves : left.now ≡ output₁

  -- what an input comes to: a refusal is answered, and the output stays as it was; on what is given the job is called
  abbrev pub DoesGiven : (input : List ℕ) → Given → (output : List ℕ) → Result ℕ Refusal → (output₁ : List ℕ) → Type 0
  DoesGiven input (away k) output r output₁ = Refuses r k 0 × (output₁ ≡ output)
  DoesGiven input (faulty text k n) output r output₁ = Refuses r k n × (output₁ ≡ output)
  DoesGiven input (given text ts) output r output₁ = JobDone input text ts output r output₁

  pub record DoesJob (input output : List ℕ) (r : Result ℕ Refusal) (output₁ : List ℕ) : Type 0 where
    pub does : DoesGiven input (given_of input) output r output₁

  pub record Printed (input output : List ℕ) (r : Result ℕ Refusal) (output₁ : List ℕ) : Type 0 where
    pub answer : Result ℕ Refusal
    pub written : List ℕ
    pub does : DoesJob input output answer written
    pub shows : Shows answer written r output₁

  pub record PrintsParts (input : List ℕ) (room : ℕ) (output : List ℕ) (r : Result ℕ Refusal) (output₁ : List ℕ) : Type 0 where
    -- "9 short table: a lent table or list under its length"; "Numbers 1 to 9 change no lent word."
    pub short : length output < room → (r ≡ Err short_refusal) × (output₁ ≡ output)
    pub prints : room ≤ length output → Printed input output r output₁
