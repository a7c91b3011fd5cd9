-- Each part is read where the one before it ends, and nothing is left after the line's LF.
use Rattle.std.proofs.Common.{rules}
use Rattle.rules.specs.Lists.{all}
use Rattle.grammar.specs.Words.{plain}
use Rattle.replay.proofs.TurnsLine.{turns_short, not_opened, none_numbered, not_closed, goes_on, too_high, all_told}
use Rattle.replay.proofs.turns_line.turns_line.Goals.{then-s-lt8-via-then-s-lt8, then-s-lt8-via-else-s-lt8+then-not-begins_at, then-not-begins_at-2-via-then-not-begins_at-2, then-not-begins_at-2-via-else-not-begins_at-2+then-list-s}
use Rattle.replay.proofs.turns_line.turns_line.Goals as goal

pub begins_at-requires : goal.begins_at-requires
unfolding plain all
begins_at-requires c = search rules

pub returns-then-s-lt8-clause-s_value : goal.returns-then-s-lt8-clause-s_value
returns-then-s-lt8-clause-s_value c = elim c.then-s-lt8.branch [
  | then-s-lt8-via-then-s-lt8 w ↦ turns_short c.args.s.now c.args.at w.if-s-lt8.true
  | then-s-lt8-via-else-s-lt8+then-not-begins_at w ↦ not_opened c.args.s.now c.args.at w.begins_at.ensures w.if-not-begins_at.true
]

pub returns-in_default-clause-s_value : goal.returns-in_default-clause-s_value
returns-in_default-clause-s_value c = none_numbered c.args.s.now c.args.at c.begins_at.ensures c.if-not-begins_at.false c.in_default.ensures.numbers_stored

pub begins_at-requires-2 : goal.begins_at-requires-2
unfolding plain all
begins_at-requires-2 c = search rules

pub returns-then-not-begins_at-2-clause-s_value : goal.returns-then-not-begins_at-2-clause-s_value
returns-then-not-begins_at-2-clause-s_value c =
    let opened = c.if-not-begins_at.false in
    let stored = c.in-Some.ensures.numbers_stored in
    elim c.then-not-begins_at-2.branch [
      | then-not-begins_at-2-via-then-not-begins_at-2 w ↦ not_closed c.args.s.now c.args.at c.begins_at.ensures opened stored c.begins_at-2.ensures w.if-not-begins_at-2.true
      | then-not-begins_at-2-via-else-not-begins_at-2+then-list-s w ↦
          goes_on c.args.s.now c.args.at c.begins_at.ensures opened stored c.begins_at-2.ensures w.if-not-begins_at-2.false w.if-list-s.true
    ]

pub returns-then-list-clause-s_value : goal.returns-then-list-clause-s_value
returns-then-list-clause-s_value c =
    too_high c.args.s.now c.args.at c.begins_at.ensures c.if-not-begins_at.false c.in-Some.ensures.numbers_stored c.begins_at-2.ensures c.if-not-begins_at-2.false
    c.if-list-s.false c.if-list.true

pub returns-clause-s_value : goal.returns-clause-s_value
returns-clause-s_value c =
    all_told c.args.s.now c.args.at c.begins_at.ensures c.if-not-begins_at.false c.in-Some.ensures.numbers_stored c.begins_at-2.ensures c.if-not-begins_at-2.false
    c.if-list-s.false c.if-list.false
