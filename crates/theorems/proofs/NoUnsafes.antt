-- An accepted text in which the word unsafe does not occur is read to a program with no K unsafe: the text is the printing of the program's lines, and
-- the line of a let with such a K has the word in it.
use Prim.Native.Nat.{ℕ}
use mathlib.Core.Path.{◌≡◌, refl, sym, ◌∙◌}
use mathlib.Core.Bool.{true, false, false≢true}
use mathlib.Core.List.{List, [], ◌∷◌, ◌++◌, map}
use lib.Dec.{eqb}
use Rattle.rules.specs.declared.Cap.TheVariants.{Imm, Iso, Local, Unsafe}
use Rattle.rules.specs.declared.Mosts.{Mosts}
use Rattle.rules.specs.Lists.{Every}
use Rattle.rules.specs.Text.{join}
use Rattle.rules.specs.Script.{Expr, value, field, swap, call, new, cast, spawn, send, recv, copy, bind, give, Block, Kind, Program, Form, line, let_lines, block_lines, kind_lines, lines_of}
use Rattle.rules.specs.Templates.{cap_word, print, show, head_of}
use Rattle.rules.specs.Reading.{accepted, script}
use Rattle.theorems.specs.NoUnsafe.{begins, occurs, no_unsafe, TameLet, Tame}
use Rattle.rules.proofs.ListLaws.{by_bool, or_false, and_true}
use Rattle.rules.proofs.Accepted.{accepted_prints}

-- ---- A word that does not occur in a text occurs in no part of it

module _ (w : List ℕ) where
  absent_after : (l k : List ℕ) → occurs w (l ++ k) ≡ false → occurs w k ≡ false
  unfolding occurs
  absent_after [] k none = none
  absent_after (x ∷ l) k none = absent_after l k (or_false (begins w (x ∷ l ++ k)) (occurs w (l ++ k)) none).1

begins_more : (w l k : List ℕ) → begins w l ≡ true → begins w (l ++ k) ≡ true
unfolding begins
begins_more [] l k is = refl
begins_more (c ∷ w) [] k is = absurd (false≢true is)
begins_more (c ∷ w) (x ∷ l) k is = let both = and_true (eqb x c) (begins w l) is in rw both.0 (begins_more w l k both.1)

begins_less : (w l k : List ℕ) → begins w (l ++ k) ≡ false → begins w l ≡ false
begins_less w l k none = by_bool (begins w l) (λ is. absurd (false≢true (sym none ∙ begins_more w l k is))) (λ not. not)

module _ (w : List ℕ) where
  absent_at : (l : List ℕ) → occurs w l ≡ false → begins w l ≡ false
  unfolding occurs
  absent_at [] none = none
  absent_at (x ∷ l) none = (or_false (begins w (x ∷ l)) (occurs w l) none).0

  absent_before : (l k : List ℕ) → occurs w (l ++ k) ≡ false → occurs w l ≡ false
  unfolding occurs
  absent_before [] k none = begins_less w [] k (absent_at k none)
  absent_before (x ∷ l) k none =
      let both = or_false (begins w (x ∷ l ++ k)) (occurs w (l ++ k)) none in
      rw (begins_less w (x ∷ l) k both.0) (absent_before l k both.1)

  absent_lines : (Fs : List Form) → occurs w (join (map show Fs)) ≡ false → Every (λ F. occurs w (show F) ≡ false) Fs
  unfolding join
  absent_lines [] none = tt
  absent_lines (F ∷ Fs) none = (absent_before (show F) (join (map show Fs)) none, absent_lines Fs (absent_after w (show F) (join (map show Fs)) none))

-- ---- The lines of a program

-- its line does not have the word in it
abbrev WordLess : Form → Type 0
WordLess F = no_unsafe (show F)

-- a let with K unsafe has it
tame_let : (e : Expr) → WordLess (line (bind e)) → TameLet e
unfolding show print begins occurs
tame_let (value w) none = tt
tame_let (field s f) none = tt
tame_let (swap s f w) none = tt
tame_let (call s i w) none = tt
tame_let (new Imm n ws) none = tt
tame_let (new Iso n ws) none = tt
tame_let (new Local n ws) none = tt
tame_let (new Unsafe n ws) none = absurd (false≢true (sym none))
tame_let (cast Imm w) none = tt
tame_let (cast Iso w) none = tt
tame_let (cast Local w) none = tt
tame_let (cast Unsafe w) none = absurd (false≢true (sym none))
tame_let (spawn b) none = tt
tame_let (send s w) none = tt
tame_let (recv s) none = tt
tame_let (copy Imm s) none = tt
tame_let (copy Iso s) none = tt
tame_let (copy Local s) none = tt
tame_let (copy Unsafe s) none = absurd (false≢true (sym none))

tame_lets : (es : List Expr) (Fs : List Form) → Every WordLess (let_lines es Fs) → Every TameLet es × Every WordLess Fs
unfolding let_lines
tame_lets [] Fs none = (tt, none)
tame_lets (e ∷ es) Fs none = let rest = tame_lets es Fs none.1 in ((tame_let e none.0, rest.0), rest.1)

tame_blocks : (Bs : List Block) → Every WordLess (block_lines Bs) → Every (λ (B : Block). Every TameLet B.lets) Bs
unfolding block_lines
tame_blocks [] none = tt
tame_blocks (B ∷ Bs) none = let parts = tame_lets B.lets (line (give B.result) ∷ block_lines Bs) none.1 in (parts.0, tame_blocks Bs parts.1.1)

past_kinds : (Ks : List Kind) (Fs : List Form) → Every WordLess (kind_lines Ks Fs) → Every WordLess Fs
unfolding kind_lines
past_kinds [] Fs none = none
past_kinds (K ∷ Ks) Fs none = past_kinds Ks Fs none.1

pub tame_program : (m : Mosts) (text : List ℕ) (P : Program) → script m text ≡ accepted P → no_unsafe text → Tame P
unfolding lines_of
tame_program m text P is-accepted none =
    let printed : no_unsafe (head_of P.edition ++ join (map show (lines_of P))) = rw (accepted_prints m text P is-accepted) at none in
    let lines = absent_lines (cap_word Unsafe) (lines_of P) (absent_after (cap_word Unsafe) (head_of P.edition) (join (map show (lines_of P))) printed) in
    record { lets = tame_blocks P.blocks (past_kinds P.kinds (block_lines P.blocks) lines) }
