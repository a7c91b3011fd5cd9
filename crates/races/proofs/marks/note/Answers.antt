-- `races::marks::note` meets its contract: each event is noted in its own rows, and what is found is found before.
use Rattle.std.proofs.Common.{refl, ap, ◌∙◌, ◌%◌}
use Rattle.races.specs.Marks.{race_on}
use Rattle.races.proofs.MarkSteps.{max_most}
use Rattle.races.proofs.marks.note.Goals as goal

pub returns-in-Quiet-clause-notes : goal.returns-in-Quiet-clause-notes
returns-in-Quiet-clause-notes c = rw c.in-Quiet.is (refl, refl)

pub returns-in-Reads-clause-notes : goal.returns-in-Reads-clause-notes
returns-in-Reads-clause-notes c = rw c.in-Reads.is (refl, c.race_on.ensures ∙ ap (λ m. race_on m c.in-Reads.n (c.in-Reads.f % 4)) c.latest_on-last.ensures)

pub returns-in-Swaps-clause-notes : goal.returns-in-Swaps-clause-notes
returns-in-Swaps-clause-notes c =
    rw c.in-Swaps.is (
      refl,
      c.race_on-in-Swaps.ensures
          ∙ ap (λ m. race_on m c.in-Swaps.n (c.in-Swaps.f % 4))
          (c.max.ensures ∙ max_most c.latest_on-swapped.result c.latest_on-read.result ∙ rw (c.latest_on-swapped.ensures, c.latest_on-read.ensures) refl),
    )

pub returns-in-Puts-clause-notes : goal.returns-in-Puts-clause-notes
returns-in-Puts-clause-notes c = rw c.in-Puts.is (refl, refl, c.mark_first.ensures, refl, c.mark_first-in-Puts.ensures, refl)

pub returns-in-Receives-clause-notes : goal.returns-in-Receives-clause-notes
returns-in-Receives-clause-notes c = rw c.in-Receives.is (c.mark_met.ensures, refl, refl, refl)

pub returns-in-Copies-clause-notes : goal.returns-in-Copies-clause-notes
returns-in-Copies-clause-notes c = rw c.in-Copies.is (refl, c.mark_fields.ensures, c.mark_fields-in-Copies.ensures, refl, c.over_objects-found.ensures)
