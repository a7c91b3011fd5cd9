-- The tests are those of the step on the form, one after the other.
use borrow.Author.Tests.{lt-ltb, le-ltb}
use mathlib.Core.Path.{sym, ◌∙◌}
use Rattle.reader.proofs.LineChecks.{equals_method, faults, faults_alone}
use Rattle.reader.proofs.faults.fault.Goals as goal

pub returns-then-not-in_place : goal.returns-then-not-in_place
returns-then-not-in_place c =
    faults_alone c.in_place.ensures (λ full. rw (c.if-not-in_place.true))

pub returns-then-l : goal.returns-then-l
returns-then-l c =
    faults_alone c.in_place.ensures (λ full. rw (c.if-not-in_place.false, c.if-l.true))

pub returns-then-is_full : goal.returns-then-is_full
returns-then-is_full c =
    faults c.in_place.ensures c.is_full.ensures (rw (c.if-not-in_place.false, c.if-l.false, c.if-is_full.true))

pub returns-then-r-l : goal.returns-then-r-l
returns-then-r-l c =
    let a = c.args in
    faults c.in_place.ensures c.is_full.ensures (rw (c.if-not-in_place.false, c.if-l.false, c.if-is_full.false, lt-ltb a.r.filled a.l.need c.if-r-l.true))

pub returns-then-l-2 : goal.returns-then-l-2
returns-then-l-2 c =
    let a = c.args in
    let bound = le-ltb a.r.filled a.l.need c.if-r-l.false in
    faults c.in_place.ensures c.is_full.ensures (rw (c.if-not-in_place.false, c.if-l.false, c.if-is_full.false, bound, sym (equals_method a.r.place) ∙ sym c.eq.ensures ∙ c.if-eq.true, c.if-l-2.true))

pub returns-else-l-2 : goal.returns-else-l-2
returns-else-l-2 c =
    let a = c.args in
    let bound = le-ltb a.r.filled a.l.need c.if-r-l.false in
    faults c.in_place.ensures c.is_full.ensures (rw (c.if-not-in_place.false, c.if-l.false, c.if-is_full.false, bound, sym (equals_method a.r.place) ∙ sym c.eq.ensures ∙ c.if-eq.true, c.if-l-2.false))

pub returns-else-eq : goal.returns-else-eq
returns-else-eq c =
    let a = c.args in
    let bound = le-ltb a.r.filled a.l.need c.if-r-l.false in
    faults c.in_place.ensures c.is_full.ensures (rw (c.if-not-in_place.false, c.if-l.false, c.if-is_full.false, bound, sym (equals_method a.r.place) ∙ sym c.eq.ensures ∙ c.if-eq.false))
