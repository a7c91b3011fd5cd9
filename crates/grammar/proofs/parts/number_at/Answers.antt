-- The four bytes at the place decide: one to three digits, and then no digit.
use Rattle.std.proofs.Common.{sym, ◌∙◌}
use Rattle.grammar.proofs.PartLaws.{is_digit, number_none, number_one, number_zero, number_two, number_long, number_whole}
use Rattle.grammar.proofs.parts.number_at.Goals as goal

pub returns-in_err-a-clause-s_value : goal.returns-in_err-a-clause-s_value
returns-in_err-a-clause-s_value c = let a = c.args in rw c.from_residual.ensures (number_none a.s.now a.at _ c.byte.ensures c.in_err-a.ensures)

pub returns-in_default-clause-s_value : goal.returns-in_default-clause-s_value
returns-in_default-clause-s_value c =
    let a = c.args in number_one a.s.now a.at _ c.byte.ensures c.in_ok-a.ensures.0 _ c.byte-2.ensures c.in_default.ensures _ c.in_ok-a.ensures.1

pub returns-then-a-eq0-clause-s_value : goal.returns-then-a-eq0-clause-s_value
returns-then-a-eq0-clause-s_value c =
    let a = c.args in
    number_zero a.s.now a.at _ c.byte.ensures c.in_ok-a.ensures.0 _ c.byte-2.ensures c.in-Some.ensures.0 (sym c.in_ok-a.ensures.1 ∙ c.if-a-eq0.true)

pub returns-in_default-digit-clause-s_value : goal.returns-in_default-digit-clause-s_value
returns-in_default-digit-clause-s_value c =
    let a = c.args in
    number_two a.s.now a.at _ c.byte.ensures c.in_ok-a.ensures.0 _ c.byte-2.ensures c.in-Some.ensures.0 (λ z. c.if-a-eq0.false (c.in_ok-a.ensures.1 ∙ z))
    _ c.byte-3.ensures c.in_default-digit.ensures _ _ c.in_ok-a.ensures.1 c.in-Some.ensures.1

pub returns-then-is_some-clause-s_value : goal.returns-then-is_some-clause-s_value
returns-then-is_some-clause-s_value c =
    let a = c.args in
    number_long a.s.now a.at _ c.byte.ensures c.in_ok-a.ensures.0 _ c.byte-2.ensures c.in-Some.ensures.0 (λ z. c.if-a-eq0.false (c.in_ok-a.ensures.1 ∙ z))
    _ c.byte-3.ensures c.in-Some-digit.ensures.0 _ c.byte-4.ensures (is_digit _ _ c.digit-4.ensures ∙ sym c.if-is_some.ensures)

pub returns-clause-s_value : goal.returns-clause-s_value
returns-clause-s_value c =
    let a = c.args in
    number_whole a.s.now a.at _ c.byte.ensures c.in_ok-a.ensures.0 _ c.byte-2.ensures c.in-Some.ensures.0 (λ z. c.if-a-eq0.false (c.in_ok-a.ensures.1 ∙ z))
    _ c.byte-3.ensures c.in-Some-digit.ensures.0 _ c.byte-4.ensures (is_digit _ _ c.digit-4.ensures ∙ sym c.if-is_some.ensures) _ _ _ c.in_ok-a.ensures.1 c.in-Some.ensures.1 c.in-Some-digit.ensures.1
