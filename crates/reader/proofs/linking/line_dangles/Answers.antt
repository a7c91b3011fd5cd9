-- Only kinds, methods, news and spawns can dangle; a kind in line n is kind n, and the line after the kinds opens the first block.
use native.Mathlib.Omega.{arith}
use mathlib.Core.Path.{refl, sym, ap, ◌∙◌}
use mathlib.Core.Bool.{not}
use mathlib.Core.List.{[], ◌∷◌}
use lib.Dec.{eqb}
use Rattle.rules.specs.declared.forms.Form.TheVariants.{Kind, Method, New, Spawn}
use Rattle.rules.specs.Script.{thread}
use Rattle.rules.specs.Reading.{is_sort}
use Rattle.rules.proofs.FormNumbers.{number_told, all_but, not_told}
use Rattle.reader.specs.Linking.{form_at}
use Rattle.reader.proofs.Links.{first_method, method_line, spawn_line_lem, other_line, line_word_is, kind_line, kind_line_dangles}
use Rattle.reader.proofs.linking.line_dangles.Goals as goal

pub returns-in-Kind : goal.returns-in-Kind
returns-in-Kind c =
    let a = c.args in
    record {
      is = λ P b table k l h o.
          let at = kind_line P a.n c.line_word.result (line_word_is table c.line_word.ensures.line_word h) (number_told c.from.ensures c.in-Kind.is (omega arith)) in
          c.kind_dangles.ensures.is P table l at ∙ kind_line_dangles P b a.n at;
    }

pub returns-in-Method : goal.returns-in-Method
returns-in-Method c =
    let a = c.args in
    let is_method = number_told c.from.ensures c.in-Method.is (omega arith) in
    record {
      is = λ P b table k l h o.
          let number = line_word_is table c.line_word.ensures.line_word h in
          ap (eqb a.n) k ∙ first_method P a.n b c.line_word.result number is_method o ∙ method_line P b (form_at P a.n) c.line_word.result number is_method;
    }

pub returns-in-New : goal.returns-in-New
returns-in-New c =
    let is_new = number_told c.from.ensures c.in-New.is (omega arith) in
    record { is = λ P b table k l h o. c.new_dangles.ensures.is P b table k h (sym (line_word_is table c.line_word.ensures.line_word h) ∙ is_new) }

pub returns-in-Spawn : goal.returns-in-Spawn
returns-in-Spawn c =
    let a = c.args in
    let is-spawn = number_told c.from.ensures c.in-Spawn.is (omega arith) in
    record {
      is = λ P b table k l h o.
          ap not (c.is_sort.ensures.is P thread table l refl ∙ ap (is_sort P thread) (line_word_is table c.line_word-in-Spawn.ensures.line_word h))
          ∙ spawn_line_lem P b (form_at P a.n) c.line_word.result (line_word_is table c.line_word.ensures.line_word h) is-spawn;
    }

pub returns-in-NoForm : goal.returns-in-NoForm
returns-in-NoForm c =
    let a = c.args in
    let ks = all_but (Kind ∷ Method ∷ New ∷ Spawn ∷ []) in
    record {
      is = λ P b table k l h o.
          other_line P b (form_at P a.n) c.line_word.result (line_word_is table c.line_word.ensures.line_word h)
          (not_told ks c.from.ensures c.in-NoForm.is tt) (not_told ks c.from.ensures c.in-NoForm.is tt) (not_told ks c.from.ensures c.in-NoForm.is tt) (not_told ks c.from.ensures c.in-NoForm.is tt);
    }
