-- The first LF is looked for from the place on.
use Prim.Native.Nat.{◌-◌}
use native.Mathlib.Omega.{arith}
use mathlib.Core.Path.{◌≡◌, ◌∙◌}
use lib.Dec.{eqb}
use lib.ListN.{length, take, drop, length-drop}
use lib.Seq.{take_all}
use Rattle.std.proofs.Common.{rules, tests}
use Rattle.std.proofs.lemmas.Iterator.{YieldsList-from_slice}
use Rattle.std.proofs.lemmas.Iterator.Search.{position_from_yields_List}
use Rattle.rules.specs.Text.{lf}
use Rattle.reader.proofs.Lines.{first_lf, lf_found, lf_none}
use Rattle.reader.proofs.finder.find_lf.Goals as goal

pub returns-in-Some : goal.returns-in-Some
returns-in-Some c =
    let rest = drop c.args.at c.args.s.now in
    let all : take (length c.args.s.now - c.args.at) rest ≡ rest = take_all (length c.args.s.now - c.args.at) rest (simp length-drop (omega arith)) in
    let found = first_lf rest c.position.result (position_from_yields_List (λ b. eqb b lf) _ _ c.position.result c.position.ensures.ran (YieldsList-from_slice rest (c.iter.ensures.rest ∙ all)) (λ x b q k. search (rules, tests))) in
    lf_found c.args.s.now c.args.at c.requires (rw c.in-Some.is at found)

pub returns-in-None : goal.returns-in-None
returns-in-None c =
    let rest = drop c.args.at c.args.s.now in
    let all : take (length c.args.s.now - c.args.at) rest ≡ rest = take_all (length c.args.s.now - c.args.at) rest (simp length-drop (omega arith)) in
    let found = first_lf rest c.position.result (position_from_yields_List (λ b. eqb b lf) _ _ c.position.result c.position.ensures.ran (YieldsList-from_slice rest (c.iter.ensures.rest ∙ all)) (λ x b q k. search (rules, tests))) in
    lf_none c.args.s.now c.args.at c.requires (rw c.in-None.is at found)
