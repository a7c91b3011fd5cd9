-- What is printed of an input, in an output that is long enough, and the status that goes by it.
use Prim.Native.Nat.{ℕ, ◌≤◌}
use native.Mathlib.Omega.{arith}
use mathlib.Core.Path.{◌≡◌, ap, subst}
use mathlib.Core.List.{List}
use mathlib.Core.Logic.{inl}
use lib.ListN.{length, take, drop, length-append}
use lib.Seq.{take-append_seam}
use borrow.Author.Tests.{le-ltb}
use Rattle.std.specs.Prelude.{Result, Ok}
use Rattle.rules.specs.declared.faults.Refusal.{Refusal}
use Rattle.listing.specs.Outputs.{output_bytes, printed_in, output_in, printed_of, output_after}
use Rattle.stripping.specs.StrippedTexts.{Prints}
use Rattle.save.specs.Saved.{saved_bytes, saved_in, saved_after}
use Rattle.box_tool.specs.declared.commands.Job.{Job}
use Rattle.box_tool.specs.declared.Status.{Status}
use Rattle.box_tool.specs.declared.Status.TheVariants.{Fault}
use Rattle.box_tool.specs.Status.{status_of, Unless}
use Rattle.box_tool.specs.Jobs.{IsText, Finishes}

module _ {Q : List ℕ → Type 0} (text : List ℕ) (such : Q text) (output : List ℕ) {r : Result ℕ Refusal} {after : List ℕ} where
  -- where so many bytes must be there
  pub prints_in : (room : ℕ) → room ≤ length output → (r ≡ printed_in room text output) × (after ≡ output_in room text output) → Prints Q output r after
  prints_in room long told =
      let whole = rw (le-ltb (length output) room long) at told in
      record { text = text; such = such; answers = whole.0; leaves = whole.1 }

  pub prints_run : saved_bytes ≤ length output → (r ≡ printed_of text output) × (after ≡ output_after text output) → Prints Q output r after
  unfolding printed_of output_after
  prints_run long told = prints_in output_bytes (omega arith) told

  pub prints_saved : saved_bytes ≤ length output → (r ≡ saved_in text output) × (after ≡ saved_after text output) → Prints Q output r after
  unfolding saved_in saved_after
  prints_saved long told = prints_in saved_bytes long told

-- what is written fits in the output, and is the text
module _ {Q : List ℕ → Type 0} {l : List ℕ} {r : Result ℕ Refusal} {l₁ : List ℕ} (p : Prints Q l r l₁) {m : ℕ} (written : r ≡ Ok m) where
  count : m ≡ length p.text
  count = let all = p.answers in cc

  pub front_fits : m ≤ length l₁
  front_fits = omega (arith, count, ap length p.leaves, length-append p.text (drop (length p.text) l))

  pub front_is : take m l₁ ≡ p.text
  front_is = rw (p.leaves, count) (take-append_seam p.text (drop (length p.text) l))

-- the status of what was printed, unless writing it failed
module _ (job : Job) (input : List ℕ) {output : List ℕ} {r : Result ℕ Refusal} {after : List ℕ} (p : Prints (IsText job input) output r after) (status : Status) where
  pub finishes : {right : Status} → right ≡ status_of p.text → Unless status right → Finishes job input status
  finishes same told = record { text = p.text; such = p.such; told = subst (Unless status) same told }

  pub finishes_failed : status ≡ Fault → Finishes job input status
  finishes_failed is = record { text = p.text; such = p.such; told = inl is }
