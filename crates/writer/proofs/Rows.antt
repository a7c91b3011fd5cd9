-- The lines of a table, written one after the other: the text so far is that of the lines so far, and it is never longer than the whole. Before
-- them stands what the edition's word says.
use Rattle.std.proofs.Common.{ℕ, zero, suc, ◌+◌, ◌%◌, ◌≤◌, ◌<◌, add-one, arith, ◌≡◌, refl, sym, ap, ◌∙◌, List, [], ◌∷◌, ◌++◌, map, append_assoc, append-nil, length, get_or, take, length-append, take_all, take-suc}
use Rattle.rules.specs.Lists.{Every}
use Rattle.rules.specs.Mosts as Most
use Rattle.rules.specs.Text.{join}
use Rattle.rules.specs.Script.{Form, Edition}
use Rattle.rules.specs.Templates.{show, head_of}
use Rattle.rules.specs.Tables.{edition_word}
use Rattle.rules.proofs.ListLaws.{every_at}
use Rattle.rules.specs.Forms.{form_of}
use Rattle.buffer.specs.declared.Output.{Output}
use Rattle.buffer.specs.Writing.{Wrote as WroteAt}
use Rattle.buffer.specs.Outputs.{Wrote}
use Rattle.buffer.proofs.Outputs.{nothing, ◌▹◌, same_text, bounded, at_front}
use Rattle.table.specs.ProgramTable.{Filled, no_form, LineCount, EditionIs, LineWord}
use Rattle.writer.specs.Lines.{line_text, FewParts, line_bytes, WritesLine, WritesLines, head_text, WritesScript}
use Rattle.writer.proofs.Texts.{form_told, head_told}

-- the words of a line are those of its form
pub line_written : {t : List ℕ} {o o₁ : Output} {n form a b c d e f : ℕ}
    → LineWord t n 0 form → LineWord t n 1 a → LineWord t n 2 b → LineWord t n 3 c → LineWord t n 4 d → LineWord t n 5 e → LineWord t n 6 f
    → Wrote line_bytes o o₁ (line_text (form_of form) (a ∷ b ∷ c ∷ d ∷ e ∷ f ∷ [])) → WritesLine t n o o₁
line_written {n = n} w₀ w₁ w₂ w₃ w₄ w₅ w₆ written =
    record {
      text = _;
      writes = written;
      is_line = λ counts rest Fs filled there few.
          rw (
            w₀.is counts rest Fs filled there,
            w₁.is counts rest Fs filled there,
            w₂.is counts rest Fs filled there,
            w₃.is counts rest Fs filled there,
            w₄.is counts rest Fs filled there,
            w₅.is counts rest Fs filled there,
            w₆.is counts rest Fs filled there,
          )
          (form_told (get_or Fs n no_form) few);
    }

-- ---- The text of some lines

text_of : List Form → List ℕ
text_of Fs = join (map show Fs)

text_of_lem : (Fs : List Form) → text_of Fs ≡ join (map show Fs)
unfolding text_of
text_of_lem Fs = refl

text_snoc : (Fs : List Form) (F : Form) → text_of (Fs ++ (F ∷ [])) ≡ text_of Fs ++ show F
unfolding text_of join
text_snoc [] F = append-nil (show F)
text_snoc (G ∷ Fs) F = ap (show G ++◌) (text_snoc Fs F) ∙ sym (append_assoc (show G) (text_of Fs) (show F))

-- a line more
text_more : (Fs : List Form) (n : ℕ) → n < length Fs → text_of (take n Fs) ++ show (get_or Fs n no_form) ≡ text_of (take (n + 1) Fs)
text_more Fs n there = sym (text_snoc (take n Fs) (get_or Fs n no_form)) ∙ rw (add-one n, take-suc Fs n no_form there) refl

first_lines_shorter : (n : ℕ) (Fs : List Form) → length (text_of (take n Fs)) ≤ length (text_of Fs)
unfolding text_of join
first_lines_shorter zero Fs = omega arith
first_lines_shorter (suc n) [] = omega arith
first_lines_shorter (suc n) (F ∷ Fs) = omega (arith, first_lines_shorter n Fs, length-append (show F) (text_of (take n Fs)), length-append (show F) (text_of Fs))

-- ---- The loop

-- the first n lines of whatever lines the table holds
pub record SoFar (t : List ℕ) (o o₁ : Output) (n : ℕ) : Type 0 where
  text : List ℕ
  pub writes : Wrote (Most.text + line_bytes) o o₁ text
  first_lines : (counts rest : List ℕ) (Fs : List Form) → Filled t counts Fs rest → Every FewParts Fs → n ≤ length Fs → text ≡ text_of (take n Fs)

pub none_yet : {t : List ℕ} {o : Output} → o.at ≤ length o.buf.now → SoFar t o o 0
unfolding text_of join
none_yet room = record { text = []; writes = nothing (Most.text + line_bytes) room; first_lines = λ counts rest Fs filled few there. refl }

pub one_line_more : {t : List ℕ} {o o₁ o₂ : Output} {n : ℕ} → o₁.at ≤ Most.text → SoFar t o o₁ n → WritesLine t n o₁ o₂ → SoFar t o o₂ (n + 1)
one_line_more {n = n} room before next =
    record {
      text = before.text ++ next.text;
      writes = bounded (Most.text + line_bytes) (omega (arith, room, next.writes.most)) (before.writes ▹ next.writes);
      first_lines = λ counts rest Fs filled few there.
          rw (
            before.first_lines counts rest Fs filled few (omega (arith, there)),
            next.is_line counts rest Fs filled (omega (arith, there)) (every_at FewParts Fs n no_form (omega (arith, there)) few),
          )
          (text_more Fs n (omega (arith, there)));
    }

module _ {t : List ℕ} {o o₁ : Output} {n count : ℕ} (small : o₁.at ≤ Most.text + line_bytes) (so_far : SoFar t o o₁ n) where
  -- all lines
  pub all_written : LineCount t count → n ≡ count % 673 → WritesLines t o o₁
  all_written counted done = record { text = so_far.text; writes = so_far.writes; are_lines = all; most = small }
    where
      all : (counts rest : List ℕ) (Fs : List Form) → Filled t counts Fs rest → get_or counts 2 0 ≡ length Fs → Every FewParts Fs
          → o.at + length (join (map show Fs)) ≤ Most.text → so_far.text ≡ join (map show Fs)
      all counts rest Fs filled said few short =
          let lines_are : n ≡ length Fs = omega (arith, counted.is counts rest Fs filled, filled.lines) in
          so_far.first_lines counts rest Fs filled few (omega arith) ∙ ap text_of (take_all n Fs (omega arith)) ∙ text_of_lem Fs

  -- longer than a text may be, though lines are left
  pub too_long : LineCount t count → n < count % 673 → Most.text < o₁.at → WritesLines t o o₁
  too_long counted left long = record { text = so_far.text; writes = so_far.writes; are_lines = none; most = small }
    where
      none : (counts rest : List ℕ) (Fs : List Form) → Filled t counts Fs rest → get_or counts 2 0 ≡ length Fs → Every FewParts Fs
          → o.at + length (join (map show Fs)) ≤ Most.text → so_far.text ≡ join (map show Fs)
      none counts rest Fs filled said few short =
          let there : n ≤ length Fs = omega (arith, counted.is counts rest Fs filled, filled.lines) in
          let whole : o.at + length (text_of Fs) ≤ Most.text = rw (text_of_lem Fs) short in
          let ends : o₁.at ≡ o.at + length (text_of (take n Fs)) = rw (← so_far.first_lines counts rest Fs filled few there) so_far.writes.writes.end in
          absurd (omega (arith, ends, first_lines_shorter n Fs, whole, long))

-- ---- The script

-- what the edition's word says, and the lines after it, from the front of a buffer on
pub script_written : {t l l₁ : List ℕ} {k w : ℕ} {o o₁ o₂ : Output} → o.at ≡ 0 → o.buf.now ≡ l → l₁ ≡ o₂.buf.now
    → EditionIs t w → Wrote k o o₁ (head_text w) → WritesLines t o₁ o₂ → WritesScript t l l₁ o₂.at
script_written {t} {l} {l₁} {k} {w} {o} {o₁} {o₂} start content left told head lines = record { writes = whole; most = lines.most }
  where
    whole : (kinds blocks : ℕ) (d : Edition) (rest : List ℕ) (Fs : List Form) → Filled t (kinds ∷ blocks ∷ length Fs ∷ edition_word d ∷ []) Fs rest → Every FewParts Fs
        → length (head_of d ++ join (map show Fs)) ≤ Most.text → WroteAt (Most.text + line_bytes) l l₁ 0 o₂.at (head_of d ++ join (map show Fs))
    whole kinds blocks d rest Fs filled few short =
        let named : head_text w ≡ head_of d = ap head_text (told.is _ rest Fs filled) ∙ head_told d in
        let front = same_text k named (omega arith) head in
        let fits : o₁.at + length (join (map show Fs)) ≤ Most.text = omega (arith, start, front.writes.end, short, length-append (head_of d) (join (map show Fs))) in
        let after = same_text (Most.text + line_bytes) (lines.are_lines _ rest Fs filled refl few fits) (omega arith) lines.writes in
        at_front start content left (bounded (Most.text + line_bytes) (omega (arith, lines.most)) (front ▹ after))
