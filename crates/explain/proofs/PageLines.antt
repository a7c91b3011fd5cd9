-- A page is five lines of the text of all pages.
use Prim.Native.Nat.{ℕ, zero, suc, ◌-◌, ◌*◌, ◌≤◌, ◌<◌}
use native.Mathlib.Omega.{arith}
use mathlib.Core.Path.{◌≡◌, refl}
use mathlib.Core.List.{List, [], map}
use lib.ListN.{length, take, drop, drop_of_length-le}
use Rattle.rules.specs.Text.{lines, join}
use Rattle.buffer.proofs.Appends.{nothing, same_text}
use Rattle.listing.specs.Outputs.{output_bytes}
use Rattle.listing.proofs.PrintOutcomes.{Prints, in_output}
use Rattle.explain.specs.Pages.{pages, line_of, page}

unfoldable pub all_pages : List ℕ
all_pages = join (map line_of pages)

all_lines : lines all_pages ≡ map line_of pages
unfolding all_pages lines join pages
all_lines = refl

pub no_page : (n : ℕ) → n ≡ 0 → [] ≡ page n
unfolding page
no_page n none = rw none refl

pub a_page : (n : ℕ) → (n ≡ 0 → ⊥) → join (take (5 * n - 5 * (n - 1)) (drop (5 * (n - 1)) (lines all_pages))) ≡ page n
unfolding page
a_page zero some = absurd (some refl)
a_page (suc n) some =
    let five : 5 * suc n - 5 * (suc n - 1) ≡ 5 = omega arith in
    let before : 5 * (suc n - 1) ≡ 5 * n = omega arith in
    rw (five, before, all_lines) refl

-- past the last page there is none
pub past_pages : (n : ℕ) → 21 < n → [] ≡ page n
unfolding page pages join
past_pages zero past = refl
past_pages (suc n) past = rw (drop_of_length-le (map line_of pages) {i = 5 * n} (omega arith)) refl

pub nothing_printed : (text output : List ℕ) → [] ≡ text → output_bytes ≤ length output → Prints text output 0 output
nothing_printed text output none room = in_output text room (same_text 0 none (omega arith) (nothing 0 (omega arith)))
