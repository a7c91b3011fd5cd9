-- The stripped script's own text is accepted, and reads to its table, unless it is over 16,384 bytes: stripping changes nothing that a check of the
-- reader asks for but the capability of a copy, and a copy to unsafe passes where a copy passed.
use Prim.Native.Nat.{ℕ, ◌≤◌, ◌<◌}
use native.Mathlib.Omega.{arith}
use mathlib.Core.Path.{◌≡◌, refl, sym, ap, ap₂, ◌∙◌, subst}
use mathlib.Core.Bool.{Bool, true, false, not, ◌&&◌, false≢true}
use mathlib.Core.List.{List, [], ◌∷◌, map}
use lib.Dec.{ltb}
use lib.ListN.{length, length-map, get_or-map}
use lib.Seq.{take_all}
use borrow.Author.Tests.{ltb-false, le-ltb}
use Rattle.rules.specs.declared.Cap.{Cap}
use Rattle.rules.specs.declared.Cap.TheVariants.{Unsafe}
use Rattle.rules.specs.declared.Mosts.{Mosts}
use Rattle.rules.specs.Mosts as Most
use Rattle.rules.specs.Mosts.{mosts}
use Rattle.rules.specs.Lists.{any}
use Rattle.rules.specs.Script.{Expr, value, field, swap, call, new, cast, spawn, send, recv, copy, bind, give, Sort, thread, method, Kind, Form, kind, opens, line, Block, no_block, Edition, edition1, edition2, Program, kinds_of, program_of, let_lines, block_lines, kind_lines, lines_of, kind_at, block_at}
use Rattle.rules.specs.Reading.{targets_in, operands_in, numbers_in, slots_in, is_outside, may_copy, in_edition, in_place, over_most, over255, is_unbound, takes_self, read_on, Sofar, nothing, same_sort, is_sort, dangles, opened, accepted, link, lines_before, script}
use Rattle.rules.specs.Stripped.{strip_expr, strip_block, strip}
use Rattle.rules.specs.Tables.{program_words}
use Rattle.rules.specs.Calls.{long_text}
use Rattle.rules.specs.Writer.{ReadsTo, NoneReadsTo}
use Rattle.rules.proofs.ListLaws.{impossible, by_bool, below, other_arm}
use Rattle.rules.proofs.Scanned.{Passed, Scanned, ended, passed}
use Rattle.rules.proofs.Accepted.{accepted_scanned, accepted_prints}
use Rattle.rules.proofs.TableWords.{program_words_length}
use Rattle.rules.proofs.Writer.{reads_into}
use Rattle.table.specs.StrippedTables.{strip_form}
use Rattle.table.proofs.ProgramLines.{blocks_of_lines}
use Rattle.table.proofs.StrippedWords.{lines_stripped}
use Rattle.theorems.specs.StrippedScripts.{stripped_script}
use Rattle.theorems.proofs.ShownTexts.{shown_reads}

-- ---- Every line passes again

copy_allowed : (e : Edition) (k : Cap) → may_copy e k ≡ true → may_copy e Unsafe ≡ true
unfolding may_copy
copy_allowed edition1 k h = absurd (false≢true h)
copy_allowed edition2 k h = refl

copy_in_place : (outside may may₁ : Bool) → (may ≡ true → may₁ ≡ true) → (not outside && may) ≡ true → (not outside && may₁) ≡ true
copy_in_place true may may₁ h e = absurd (false≢true e)
copy_in_place false may may₁ h e = h e

passes_again : (m : Mosts) (r : Sofar) (F : Form) → Passed m r F → Passed m r (strip_form F)
unfolding strip_form strip_expr in_place in_edition over_most over255 is_unbound takes_self slots_in targets_in operands_in numbers_in
passes_again m r (kind K) x = x
passes_again m r (opens o) x = x
passes_again m r (line (give w)) x = x
passes_again m r (line (bind (value w))) x = x
passes_again m r (line (bind (field s f))) x = x
passes_again m r (line (bind (swap s f w))) x = x
passes_again m r (line (bind (call s i w))) x = x
passes_again m r (line (bind (new k n ws))) x =
    record { is_in_place = x.is_in_place; in_mosts = x.in_mosts; in_255 = x.in_255; bound = x.bound; not_self = x.not_self }
passes_again m r (line (bind (cast k w))) x =
    record { is_in_place = x.is_in_place; in_mosts = x.in_mosts; in_255 = x.in_255; bound = x.bound; not_self = x.not_self }
passes_again m r (line (bind (spawn b))) x = x
passes_again m r (line (bind (send s w))) x = x
passes_again m r (line (bind (recv s))) x = x
passes_again m r (line (bind (copy k s))) x =
    record {
      is_in_place = copy_in_place (is_outside r.place) (may_copy r.edition k) (may_copy r.edition Unsafe) (copy_allowed r.edition k) x.is_in_place;
      in_mosts = x.in_mosts;
      in_255 = x.in_255;
      bound = x.bound;
      not_self = x.not_self;
    }

reads_on : (r : Sofar) (F : Form) → read_on r F ≡ read_on r (strip_form F)
unfolding read_on strip_form
reads_on r (kind K) = refl
reads_on r (opens o) = refl
reads_on r (line (bind e)) = refl
reads_on r (line (give w)) = refl

scanned_again : {m : Mosts} {r : Sofar} {Fs : List Form} → Scanned m r Fs → Scanned m r (map strip_form Fs)
scanned_again (ended some closed) = ended some closed
scanned_again {m} {r} (passed {F} {Fs} x s) = passed (passes_again m r F x) (subst (λ (q : Sofar). Scanned m q (map strip_form Fs)) (reads_on r F) (scanned_again s))

-- ---- None dangles

module _ (P : Program) where
  same_sorts : (o : Sort) (b : ℕ) → is_sort (strip P) o b ≡ is_sort P o b
  unfolding is_sort strip strip_block block_at
  same_sorts o b =
      ap₂ (λ (k : ℕ) (s : Sort). ltb b k && same_sort s o) (length-map P.blocks strip_block)
      (ap (λ (B : Block). B.sort) (get_or-map strip_block P.blocks b no_block))

  same_methods : (bs : List ℕ) → any (λ b. not (is_sort (strip P) method b)) bs ≡ any (λ b. not (is_sort P method b)) bs
  unfolding any
  same_methods [] = refl
  same_methods (b ∷ bs) = rw (same_sorts method b, same_methods bs) refl

  dangles_too : (c : ℕ) (F : Form) → dangles (strip P) c (strip_form F) ≡ dangles P c F
  unfolding dangles strip_form strip_expr strip kind_at
  dangles_too c (kind K) = same_methods K.methods
  dangles_too c (opens thread) = refl
  dangles_too c (opens method) = refl
  dangles_too c (line (give w)) = refl
  dangles_too c (line (bind (value w))) = refl
  dangles_too c (line (bind (field s f))) = refl
  dangles_too c (line (bind (swap s f w))) = refl
  dangles_too c (line (bind (call s i w))) = refl
  dangles_too c (line (bind (new k n ws))) = refl
  dangles_too c (line (bind (cast k w))) = refl
  dangles_too c (line (bind (spawn b))) = ap not (same_sorts thread b)
  dangles_too c (line (bind (send s w))) = refl
  dangles_too c (line (bind (recv s))) = refl
  dangles_too c (line (bind (copy k s))) = refl

  opens_too : (F : Form) (c : ℕ) → opened (strip_form F) c ≡ opened F c
  unfolding opened strip_form
  opens_too (kind K) c = refl
  opens_too (opens o) c = refl
  opens_too (line (bind e)) c = refl
  opens_too (line (give w)) c = refl

  linked_again : (Fs : List Form) (c n : ℕ) → link P c n Fs ≡ accepted P → link (strip P) c n (map strip_form Fs) ≡ accepted (strip P)
  unfolding link
  linked_again [] c n h = refl
  linked_again (F ∷ Fs) c n h =
      let a = other_arm (dangles P c F) _ _ _ (λ e. impossible cc) h in
      rw (dangles_too c F, a.0, opens_too F c) (linked_again Fs (opened F c) _ a.1)

-- ---- The lines of a program tell it

no_kinds_past_lets : (es : List Expr) (Fs : List Form) → kinds_of (let_lines es Fs) ≡ kinds_of Fs
unfolding let_lines kinds_of
no_kinds_past_lets [] Fs = refl
no_kinds_past_lets (e ∷ es) Fs = no_kinds_past_lets es Fs

no_kinds : (Bs : List Block) → kinds_of (block_lines Bs) ≡ []
unfolding block_lines kinds_of
no_kinds [] = refl
no_kinds (B ∷ Bs) = no_kinds_past_lets B.lets (line (give B.result) ∷ block_lines Bs) ∙ no_kinds Bs

kinds_first : (Ks : List Kind) (Fs : List Form) → kinds_of Fs ≡ [] → kinds_of (kind_lines Ks Fs) ≡ Ks
unfolding kind_lines kinds_of
kinds_first [] Fs none = none
kinds_first (K ∷ Ks) Fs none = ap (K ∷◌) (kinds_first Ks Fs none)

lines_tell : (Q : Program) → program_of Q.edition (lines_of Q) ≡ Q
unfolding program_of lines_of
lines_tell Q =
    ap₂ (λ (ks : List Kind) (bs : List Block). let R : Program = record { edition = Q.edition; kinds = ks; blocks = bs } in R)
    (kinds_first Q.kinds (block_lines Q.blocks) (no_kinds Q.blocks)) (blocks_of_lines Q)

-- ---- The text

module _ (m : Mosts) (text : List ℕ) (P : Program) (read : script m text ≡ accepted P) where
  links : link P 0 (lines_before P.edition) (lines_of P) ≡ accepted P
  links =
      let shown = shown_reads m P.edition (lines_of P) (accepted_scanned m text P read) in
      rw (lines_tell P) at (sym shown ∙ sym (ap (script m) (accepted_prints m text P read)) ∙ read)

  pub stripped_accepted : script m (stripped_script P) ≡ accepted (strip P)
  unfolding stripped_script strip
  stripped_accepted =
      let scanned = subst (λ (Fs : List Form). Scanned m (nothing P.edition) Fs) (sym (lines_stripped P)) (scanned_again (accepted_scanned m text P read)) in
      let linked = subst (λ (Fs : List Form). link (strip P) 0 (lines_before P.edition) Fs ≡ accepted (strip P)) (sym (lines_stripped P)) (linked_again P (lines_of P) 0 _ links) in
      shown_reads m P.edition (lines_of (strip P)) scanned ∙ rw (lines_tell (strip P)) linked

-- 18 is for its length alone
module _ (text : List ℕ) (P : Program) (read : script mosts text ≡ accepted P) where
  pub stripped_reads : length (stripped_script P) ≤ Most.text → ReadsTo mosts (program_words (strip P)) (stripped_script P)
  unfolding long_text
  stripped_reads few =
      let long = program_words_length (strip P) in
      record {
        program = strip P;
        reads = reads_into mosts (stripped_script P) (strip P) (le-ltb Most.text (length (stripped_script P)) few) (stripped_accepted mosts text P read) (program_words (strip P)) (omega (arith, long));
        words = take_all Most.words (program_words (strip P)) (omega (arith, long));
      }

  pub none_is_long : NoneReadsTo mosts (program_words (strip P)) → Most.text < length (stripped_script P)
  none_is_long none =
      by_bool (ltb Most.text (length (stripped_script P))) below
      (λ few. absurd (none (stripped_script P) (stripped_reads (ltb-false Most.text (length (stripped_script P)) few))))
