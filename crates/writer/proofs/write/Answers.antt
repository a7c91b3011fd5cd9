-- `writer::write` meets its contract: what is written beside the buffer is the only text that can read to the table; read again, it tells whether it does.
use Rattle.std.proofs.Common.{◌≤◌, arith, refl, sym, ◌∙◌, length, take, length-take-le, rules}
use Rattle.writer.proofs.WriteOutcomes.{is_written, is_read, is_refused, fits_buffer, reads_to, refused_none, other_words_none, too_short, turned_away_lem, written_out}
use Rattle.writer.proofs.write.Goals as goal
use Rattle.writer.proofs.write.Goals.{then-is_err-via-then-is_err, then-is_err-via-else-is_err+then-not-same_table}

pub returns-then-table-lt8192 : goal.returns-then-table-lt8192
returns-then-table-lt8192 c = too_short c.args.table.now c.args.buffer.now c.then-table-lt8192.either

pub returns-then-is_err : goal.returns-then-is_err
returns-then-is_err c =
    let start = c.args in
    let script = c.put_script-length in
    let printed = take script.result script.new.text in
    let read = c.read.ensures in
    turned_away_lem start.table.now start.buffer.now (search rules) (search rules)
    (elim c.then-is_err.branch [
      | then-is_err-via-then-is_err w ↦
          refused_none printed _ c.read.result (search rules) read.value read.table_after (search rules) (λ text it. is_written script.ensures it)
          (is_refused _ (sym c.is_err.ensures.value ∙ w.if-is_err.true))
      | then-is_err-via-else-is_err+then-not-same_table w ↦
          other_words_none printed _ c.read.result (search rules) read.value read.table_after (search rules) (λ text it. is_written script.ensures it)
          w.same_table.ensures w.if-not-same_table.true
    ])

pub slice_bounds-copy_from_slice-end : goal.slice_bounds-copy_from_slice-end
slice_bounds-copy_from_slice-end c =
    fits_buffer _ _ c.args.buffer.now c.read.result (omega (arith, c.put_script-length.ensures.most)) c.read.ensures.value (sym c.if-is_err.ensures.value)
    c.if-buffer-lt16384.false

pub slice_bounds-copy_from_slice-end-2 : goal.slice_bounds-copy_from_slice-end-2
slice_bounds-copy_from_slice-end-2 c =
    let fits = fits_buffer _ _ c.args.buffer.now c.read.result (omega (arith, c.put_script-length.ensures.most)) c.read.ensures.value (sym c.if-is_err.ensures.value)
    c.if-buffer-lt16384.false in
    sym (length-take-le c.put_script-length.result c.args.buffer.now fits)

pub copy_from_slice-requires : goal.copy_from_slice-requires
copy_from_slice-requires c =
    let script = c.put_script-length in
    let within : script.result ≤ length script.new.text = omega (arith, script.ensures.most) in
    let fits = fits_buffer _ _ c.args.buffer.now c.read.result within c.read.ensures.value (sym c.if-is_err.ensures.value) c.if-buffer-lt16384.false in
    length-take-le script.result c.args.buffer.now fits ∙ sym (length-take-le script.result script.new.text within)

pub returns : goal.returns
returns c =
    let start = c.args in
    let script = c.put_script-length in
    let printed = take script.result script.new.text in
    let read = c.read.ensures in
    let it = reads_to printed _ c.read.result (search rules) read.value read.table_after {table = start.table.now} (search rules)
    (is_read _ (sym c.if-is_err.ensures.value)) (c.same_table.ensures.same c.if-not-same_table.false) in
    let whole = length-take-le script.result script.new.text (omega (arith, script.ensures.most)) in
    written_out start.table.now start.buffer.now (search rules) (search rules) it (λ text other. is_written script.ensures other)
    (rw (c.copy_from_slice.ensures.after, whole) refl) (sym whole)
