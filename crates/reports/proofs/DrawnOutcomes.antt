-- What a drawing answers and leaves is told: its text, or the line of its refusal, over an output that the drawing left as it was.
use Prim.Native.Nat.{ℕ, ◌≤◌}
use mathlib.Core.Path.{◌≡◌, refl}
use mathlib.Core.Bool.{false}
use mathlib.Core.List.{List}
use lib.ListN.{length}
use Rattle.std.specs.Prelude.{Result}
use Rattle.rules.specs.declared.faults.Refusal.{Refusal}
use Rattle.rules.specs.Mosts as Most
use Rattle.rules.specs.Mosts.{mosts}
use Rattle.rules.specs.Calls.{inputs}
use Rattle.rules.specs.Drawing.{Drawn, undrawn, drawn, draw_call, drawn_of}
use Rattle.drawing.specs.Drawings.{Drew, HasDrawn}
use Rattle.printing.specs.Printing.{Tells}
use Rattle.reports.specs.DrawnTexts.{drawn_as, graph_text}
use Rattle.reports.proofs.ReportOutcomes.{none_short}

drew_tells : (x : Drawn) (l : List ℕ) {r : Result ℕ Refusal} {l₁ : List ℕ} → Drew x l r l₁ → Tells (drawn_as x) l r l₁
drew_tells (undrawn k n) l told = rw told.answers.is (rw (told.answers.number_is, told.answers.line_is) refl, told.leaves)
drew_tells (drawn text) l told = rw told.answers (refl, told.leaves)

-- the tables are long enough
pub graph_told : (text turns : List ℕ) {program state buffer program₁ state₁ buffer₁ : List ℕ} {r : Result ℕ Refusal}
    → HasDrawn (draw_call mosts text turns program state buffer) turns program state buffer r program₁ state₁ buffer₁
    → length program ≡ Most.words → length state ≡ Most.words → Most.drawing ≤ length buffer → Tells (graph_text text turns) buffer r buffer₁
unfolding graph_text draw_call
graph_told text turns {program} {state} {buffer} {buffer₁ = buffer₁} {r = r} told program-long state-long buffer-long =
    let drew : Drew (drawn_of mosts turns (inputs mosts text turns false)) buffer r buffer₁ =
    rw (none_short text turns program state buffer Most.drawing program-long state-long buffer-long) at told.drew in
    drew_tells (drawn_of mosts turns (inputs mosts text turns false)) buffer drew
