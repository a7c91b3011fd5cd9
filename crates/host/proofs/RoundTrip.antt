-- A script that a C host loads and saves comes back: bytes that words were stored as are loaded as these words.
use Rattle.std.proofs.Common.{ℕ, ◌*◌, ◌≤◌, arith, ◌≡◌, refl, sym, ap, ap₂, ◌∙◌, subst, List, [], ◌∷◌, ◌++◌, length, drop, length-append, drop_at, le-ltb}
use Rattle.rules.specs.Mosts as Most
use Rattle.rules.specs.Mosts.{mosts}
use Rattle.rules.specs.Script.{Program}
use Rattle.rules.specs.Reading.{accepted}
use Rattle.rules.specs.Tables.{program_words}
use Rattle.rules.specs.Calls.{long_text, read_call}
use Rattle.rules.specs.Writer.{short_buffer, WriteCall}
use Rattle.rules.proofs.Accepted.{reading_accepted}
use Rattle.rules.proofs.TableWords.{program_words_length}
use Rattle.rules.proofs.Writer.{reads_into, comes_back}
use Rattle.host.specs.Bytes.{bytes_of, words_of}
use Rattle.host.specs.ByteCalls.{short_bytes, table_after, read_bytes, write_number, write_length, WritesBytes}

stored_and_loaded : (ws bs : List ℕ) → words_of (bytes_of ws ++ bs) ≡ ws ++ words_of bs
unfolding bytes_of words_of
stored_and_loaded [] bs = refl
stored_and_loaded (w ∷ ws) bs = ap₂ ◌∷◌ (omega arith) (stored_and_loaded ws bs)

-- on words as on bytes
read_words : (text program : List ℕ) (P : Program) → read_bytes text program ≡ accepted P → (table : List ℕ) → Most.words ≤ length table → read_call mosts text table ≡ accepted P
unfolding read_bytes
read_words text program P read =
    let met_none = reading_accepted mosts (long_text text) (short_bytes Most.words program) text P read in
    reads_into mosts text P met_none.0 met_none.2

-- box_read and then box_write
pub script_comes_back : (text program script : List ℕ) (P : Program) → read_bytes text program ≡ accepted P → Most.text ≤ length script
    → (number bytes : ℕ) (after : List ℕ) → WritesBytes (table_after program_words (accepted P) program) script number bytes after
    → (number ≡ 0) × (bytes ≡ length text) × (after ≡ text ++ drop (length text) script)
unfolding short_buffer
script_comes_back text program script P read room number bytes after saved =
    let rest = words_of (drop (2 * Most.words) program) in
    let table = program_words P ++ rest in
    let long : Most.words ≤ length table = rw (length-append (program_words P) rest, program_words_length P) (omega arith) in
    let past : drop Most.words table ≡ rest = drop_at (program_words P) rest Most.words (program_words_length P) in
    let words : words_of (table_after program_words (accepted P) program) ≡ program_words P ++ drop Most.words table =
    stored_and_loaded (program_words P) _ ∙ ap (program_words P ++◌) (sym past) in
    let written = comes_back mosts text table script P (read_words text program P read table long) (le-ltb (length script) Most.text room) saved.answer after
    (subst (λ (t : List ℕ). WriteCall mosts t script saved.answer after) words saved.writes) in
    (saved.number_is ∙ ap write_number written.answers, saved.length_is ∙ ap write_length written.answers, written.leaves)
