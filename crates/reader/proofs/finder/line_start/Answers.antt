-- Line n of the text is line n - i of what stands from at on, and starts at the same place.
use Prim.Native.Nat.{ℕ, ◌-◌}
use mathlib.Core.List.{[]}
use mathlib.Core.Path.{◌≡◌, ap, sym, ◌∙◌}
use native.Mathlib.Nat.{sub-zero, zero-add}
use native.Mathlib.Omega.{arith}
use lib.ListN.{drop, get_or}
use Rattle.rules.specs.Text.{lines, start_of}
use Rattle.reader.proofs.Lines.{past_lf, past_last, start_of_first}
use Rattle.reader.proofs.finder.line_start.Goals as goal

pub loop-i-init : goal.loop-i-init
loop-i-init c = record { within = omega arith; line = rw sub-zero; start = rw (sub-zero, zero-add) }

pub returns-then-s-e : goal.returns-then-s-e
returns-then-s-e c =
    let a = c.args in
    let so_far = c.loop-i.invariant in
    let r = past_last a.s.now c.loop-i.at c.find_lf-e.result a.n c.loop-i.i c.find_lf-e.ensures.0 so_far.within c.if-s-e.true c.loop-i-test.true in
    (so_far.line ∙ r.0, omega arith, sym r.1 ∙ so_far.start)

pub loop-i-preserved : goal.loop-i-preserved
loop-i-preserved c =
    let a = c.args in
    let so_far = c.loop-i.invariant in
    let r = past_lf a.s.now c.loop-i.at c.find_lf-e.result a.n c.loop-i.i c.find_lf-e.ensures.0 c.if-s-e.false c.loop-i-test.true in
    record { within = omega arith; line = so_far.line ∙ r.0; start = sym r.1 ∙ so_far.start }

pub returns : goal.returns
returns c =
    let a = c.args in
    let so_far = c.loop-i.invariant in
    let here = lines (drop c.loop-i.at a.s.now) in
    let none : a.n - c.loop-i.i ≡ 0 = omega arith in
    (so_far.line ∙ ap (λ (k : ℕ). get_or here k []) none, so_far.within, omega (arith, so_far.start, ap (λ (k : ℕ). start_of k here) none, start_of_first here))
