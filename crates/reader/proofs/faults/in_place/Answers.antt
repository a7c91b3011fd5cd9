-- The number of a form says its sort, and the opener's form is 0 outside of blocks only; of the lines only a copy is bound to an edition.
use mathlib.Core.Path.{◌≡◌, ◌∙◌, sym, ap}
use mathlib.Core.Bool.{not, and-true}
use mathlib.Core.List.{[], ◌∷◌}
use lib.ListN.{get_or}
use native.Mathlib.Omega.{arith}
use Rattle.rules.specs.declared.forms.Form.TheVariants.{Kind, Thread, Method, Copy}
use Rattle.rules.specs.Script.{Form}
use Rattle.rules.specs.Reading.{may_copy, in_edition, in_place}
use Rattle.rules.specs.Tables.{row, cap_of}
use Rattle.rules.proofs.FormNumbers.{number_told, all_but, not_told}
use Rattle.rules.proofs.TableWords.{cap_of_rank}
use Rattle.reader.specs.Sofar.{edition_of}
use Rattle.reader.proofs.LineChecks.{no_block_open, equals_outside, named, number_of, told, is_kind, is_opener, is_line, is_copy, copy_part, opener_number, no_opener, in_both_editions, place_outside}
use Rattle.reader.proofs.faults.in_place.Goals as goal

pub returns-then-eq : goal.returns-then-eq
unfolding in_place
returns-then-eq c =
    record {
      is = λ F e p.
          let (k, s, q) = is_copy F e (number_told (named c.args.form) c.in-Copy.is (omega arith)) in
          rw (q, place_outside c.args.r.place c.args.r.filled, sym (equals_outside c.args.r.place) ∙ sym c.eq-in-Copy.ensures ∙ c.if-eq.true);
    }

pub returns-in-Kind : goal.returns-in-Kind
unfolding in_place
returns-in-Kind c = record { is = λ F e p. let (K, k) = is_kind F (told F e) (number_told (named c.args.form) c.in-Kind.is (omega arith)) in rw k }

pub returns-in-Thread : goal.returns-in-Thread
unfolding in_place
returns-in-Thread c =
    let between = opener_number (named c.args.form) c.in-Thread.is in
    record { is = λ F e p. let (o, k, n) = is_opener F (told F e) between.0 between.1 in rw (k, place_outside c.args.r.place c.args.r.filled) (c.eq.ensures ∙ equals_outside c.args.r.place) }

pub returns-else-eq : goal.returns-else-eq
unfolding in_place in_edition
returns-else-eq c =
    let a = c.args in
    let d = edition_of a.r.second in
    record {
      is = λ F e p.
          let (k, s, q) = is_copy F e (number_told (named c.args.form) c.in-Copy.is (omega arith)) in
          let cap : cap_of a.part ≡ k = ap cap_of (p ∙ ap (λ (X : Form). get_or (row X) 1 0) q ∙ copy_part k s) ∙ cap_of_rank k in
          rw (q, place_outside a.r.place a.r.filled, sym (equals_outside a.r.place) ∙ sym c.eq-in-Copy.ensures ∙ c.if-eq.false) (c.may_copy.ensures ∙ ap (may_copy d) cap);
    }

pub returns-in-NoForm : goal.returns-in-NoForm
unfolding in_place
returns-in-NoForm c =
    let ks = all_but (Kind ∷ Thread ∷ Method ∷ Copy ∷ []) in
    record {
      is = λ F e p.
          let (x, k) = is_line F (told F e) (not_told ks (named c.args.form) c.in-NoForm.is tt) (no_opener (named c.args.form) ks c.in-NoForm.is tt tt) in
          let both = in_both_editions (edition_of c.args.r.second) x (e ∙ ap number_of k) (not_told ks (named c.args.form) c.in-NoForm.is tt) in
          rw (k, place_outside c.args.r.place c.args.r.filled, both) (c.ne.ensures ∙ ap not (equals_outside c.args.r.place) ∙ sym (and-true (not (no_block_open c.args.r.place))));
    }
