-- What is printed of a check sheet lies within the output, and the status goes by whether all four conditions hold.
use Prim.Native.Nat.{ℕ, ◌≤◌}
use native.Mathlib.Omega.{arith}
use mathlib.Core.Path.{◌≡◌, sym, ap, ◌∙◌, subst}
use mathlib.Core.List.{List, ◌++◌}
use lib.ListN.{length, drop, length-append}
use borrow.Author.Tests.{le-ltb}
use Rattle.std.specs.Prelude.{Result, Ok}
use Rattle.rules.specs.declared.faults.Fault.{Fault}
use Rattle.listing.specs.Outputs.{output_bytes, output_after}
use Rattle.sheet.specs.declared.Sheet.{Sheet}
use Rattle.sheet.specs.SheetText.{sheet_of, holds_of, checked_of}
use Rattle.box_tool.specs.declared.Status.{Status}
use Rattle.box_tool.specs.Status.{status_of_sheet, Unless}

module _ (input output : List ℕ) {after : List ℕ} {r : Result Sheet Fault} {sheet : Sheet} (room : output_bytes ≤ length output)
    (told : (r ≡ checked_of input output) × (after ≡ output_after (sheet_of input) output)) (is : r ≡ Ok sheet) where
  whole : (r ≡ Ok (record { length = length (sheet_of input); holds = holds_of input })) × (after ≡ sheet_of input ++ drop (length (sheet_of input)) output)
  unfolding checked_of output_after
  whole = rw (le-ltb (length output) output_bytes room) at told

  same : sheet ≡ record { length = length (sheet_of input); holds = holds_of input }
  same = let both = sym is ∙ whole.0 in cc

  pub sheet_fits : sheet.length ≤ length after
  sheet_fits =
      let count : sheet.length ≡ length (sheet_of input) = ap (λ (x : Sheet). x.length) same in
      omega (arith, count, ap length whole.1, length-append (sheet_of input) (drop (length (sheet_of input)) output))

  pub sheet_status : {status right : Status} → right ≡ status_of_sheet sheet.holds → Unless status right → Unless status (status_of_sheet (holds_of input))
  sheet_status {status} told-right unless = subst (Unless status) (told-right ∙ ap (λ (x : Sheet). status_of_sheet x.holds) same) unless
