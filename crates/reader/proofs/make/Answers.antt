-- Each way out is one law of what reading comes to: 1, 9, the scan's fault, refusal 8, or the program's words. Behind 1 and 9 the text is read behind the
-- line that names its edition, if it has one.
use mathlib.Core.Path.{◌∙◌}
use Rattle.std.proofs.lemmas.Result.{err_from_is_err_and}
use Rattle.reader.specs.Sofar.{edition_of}
use Rattle.reader.proofs.Outcome.{makes_long, makes_short, makes_unfit, read_behind, scan_faulty, fault_of_lem, done_with, dangling, words_are, makes_none, makes_read}
use Rattle.reader.proofs.make.Goals as goal

pub returns-then-text-gt16384 : goal.returns-then-text-gt16384
returns-then-text-gt16384 c = makes_long c.args.text.now c.args.short c.if-text-gt16384.true c.at.ensures.fault c.at.ensures.line

pub returns-then-short : goal.returns-then-short
returns-then-short c = makes_short c.args.text.now c.if-text-gt16384.false c.if-short.true c.at-then-short.ensures.fault c.at-then-short.ensures.line

pub returns-then-words-lt8192 : goal.returns-then-words-lt8192
returns-then-words-lt8192 c = makes_unfit c.args.text.now c.args.short c.if-words-lt8192.true

pub returns-in_err-counts : goal.returns-in_err-counts
returns-in_err-counts c =
    let text = c.args.text.now in
    let head = c.script_end-head in
    let reads = read_behind text head.result head.ensures.s_value c.is_some-second.ensures c.unwrap_or.ensures in
    let away = err_from_is_err_and c.from_residual.result c.from_residual.ensures.1 in
    rw (away.1, away.2)
    (makes_none text c.if-short.false (λ fresh. scan_faulty text c.if-text-gt16384.false (edition_of c.is_some-second.result) _ reads _ (fault_of_lem c.scan_lines.ensures c.in_err-counts.was)))

pub returns-in-Some : goal.returns-in-Some
returns-in-Some c =
    let text = c.args.text.now in
    let head = c.script_end-head in
    let reads = read_behind text head.result head.ensures.s_value c.is_some-second.ensures c.unwrap_or.ensures in
    makes_none text c.if-short.false
    (λ fresh. dangling text c.if-text-gt16384.false (edition_of c.is_some-second.result) _ reads
    (done_with c.scan_lines.ensures c.in_ok-counts.was) fresh c.first_dangling.ensures.first_dangling c.in-Some.is ∙ rw (c.at-in-Some.ensures.fault, c.at-in-Some.ensures.line, c.lines_before.ensures.value))

pub returns : goal.returns
returns c =
    let text = c.args.text.now in
    let head = c.script_end-head in
    let reads = read_behind text head.result head.ensures.s_value c.is_some-second.ensures c.unwrap_or.ensures in
    makes_read text c.if-short.false
    (λ fresh. words_are text c.if-text-gt16384.false (edition_of c.is_some-second.result) _ reads
    (done_with c.scan_lines.ensures c.in_ok-counts.was) fresh c.first_dangling.ensures.first_dangling c.in_default.is (rw c.edition_word.ensures at c.put_counts.ensures.counted))
