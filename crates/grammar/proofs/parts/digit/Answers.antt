-- The digits' codes follow one another, from 48 to 57.
use Rattle.std.proofs.Common.{sym, ◌∙◌, arith, le-leb}
use Rattle.grammar.proofs.PartLaws.{digit_high, digit_code, no_digit}
use Rattle.grammar.proofs.parts.digit.Goals as goal

pub returns-then-is_ascii_digit : goal.returns-then-is_ascii_digit
returns-then-is_ascii_digit c =
    let d = c.if-is_ascii_digit.ensures.cases in
    let t = sym (digit_high c.args.b (omega arith)) ∙ le-leb c.args.b 57 (omega arith) in
    (t, omega (arith, digit_code c.args.b t))

pub returns-else-is_ascii_digit : goal.returns-else-is_ascii_digit
returns-else-is_ascii_digit c = no_digit c.args.b (let d = c.if-is_ascii_digit.ensures.cases in λ h. omega arith)
