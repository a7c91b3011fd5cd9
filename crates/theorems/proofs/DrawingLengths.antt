-- How long a drawing can be: a number below 1,000 has at most three digits, so that each line has a bound, and there are so many lines at most.
use Prim.Native.String as S
use Prim.Native.Nat.{ℕ, suc, ◌+◌, ◌*◌, ◌≤◌, ◌<◌}
use native.Mathlib.Nat.{suc-mul}
use native.Mathlib.Omega.{arith}
use mathlib.Core.List.{List, [], ◌∷◌, ◌++◌}
use lib.Dec.{ltb}
use lib.ListN.{length, length-append}
use borrow.Author.Tests.{lt-ltb}
use Rattle.rules.specs.declared.Cap.{Cap}
use Rattle.rules.specs.declared.Cap.TheVariants.{Imm, Iso, Local, Unsafe}
use Rattle.rules.specs.declared.Value.{Value}
use Rattle.rules.specs.declared.Value.TheVariants.{Absent, Obj, Chan}
use Rattle.rules.specs.Mosts.{mosts}
use Rattle.rules.specs.Lists.{Every}
use Rattle.rules.specs.Text.{bytes}
use Rattle.rules.specs.Templates.{digit_at, decimal, cap_word, print}
use Rattle.rules.specs.Script.{Program}
use Rattle.rules.specs.State.{Object, State}
use Rattle.rules.specs.Fits.{IsObject, ObjectFits, Fits}
use Rattle.rules.specs.Listing.{numbered}
use Rattle.rules.specs.Drawing.{opening, closing, look, node_t, node_line, edge_t, edge_line, edge_lines, drawing}
use Rattle.rules.proofs.ListLaws.{by_bool}

-- a text of at most k bytes
record AtMost (k : ℕ) (text : List ℕ) : Type 0 where
  few : length text ≤ k

-- a text, and one after it
infixr 5 ◌▹◌
◌▹◌ : {j k : ℕ} {s t : List ℕ} → AtMost j s → AtMost k t → AtMost (j + k) (s ++ t)
◌▹◌ {s = s} {t = t} a b = record { few = omega (arith, a.few, b.few, length-append s t) }

fixed : (s : S.String) → AtMost (length (bytes s)) (bytes s)
fixed s = record { few = omega arith }

byte : (b : ℕ) → AtMost 1 (b ∷ [])
byte b = record { few = omega arith }

-- ---- Numbers

digit_length : (place n : ℕ) → AtMost 1 (digit_at place n)
digit_length place n = by_bool (ltb n place) (λ e. rw e (record { few = omega arith })) (λ e. rw e (record { few = omega arith }))

module _ (n : ℕ) where
  three_digits : n < 1000 → AtMost 3 (decimal n)
  unfolding decimal
  three_digits low = rw (lt-ltb n 10000 (omega arith), lt-ltb n 1000 low) (digit_length 100 n ▹ digit_length 10 n ▹ byte _)

  one_digit : n < 10 → AtMost 1 (decimal n)
  unfolding decimal
  one_digit low =
      rw (lt-ltb n 10000 (omega arith), lt-ltb n 1000 (omega arith), lt-ltb n 100 (omega arith), lt-ltb n 10 low) (byte _)

-- ---- Lines

node_with : (n : ℕ) (k : Cap) (c l : ℕ) → n < 1000 → AtMost c (cap_word k) → AtMost l (look k)
    → AtMost (2 + (3 + (9 + (3 + (1 + (c + 3))))) + (l + 3)) (print node_t (n, (n, (k, tt))) ++ (look k ++ bytes "];\n"))
unfolding print
node_with n k c l low word shape =
    (fixed "  " ▹ three_digits n low ▹ fixed " [label=\"" ▹ three_digits n low ▹ fixed " " ▹ word ▹ fixed "\", ") ▹ shape ▹ fixed "];\n"

node_length : (n : ℕ) (o : Object) → n < 1000 → length (node_line n o) ≤ 61
unfolding node_line
node_length n o low = go o.cap
  where
    go : (k : Cap) → length (print node_t (n, (n, (k, tt))) ++ (look k ++ bytes "];\n")) ≤ 61
    go Imm = omega (arith, (node_with n Imm 3 30 low (fixed "imm") (fixed "shape=box, fillcolor=lightblue")).few)
    go Iso = (node_with n Iso 3 34 low (fixed "iso") (fixed "shape=ellipse, fillcolor=palegreen")).few
    go Local = omega (arith, (node_with n Local 5 28 low (fixed "local") (fixed "shape=house, fillcolor=khaki")).few)
    go Unsafe = (node_with n Unsafe 6 31 low (fixed "unsafe") (fixed "shape=octagon, fillcolor=salmon")).few

edge_length : (o n f : ℕ) (v : Value) → n < 1000 → f < 10 → IsObject o v → o ≤ 1000 → length (edge_line n f v) ≤ 26
unfolding edge_line print
edge_length o n f Absent low few is small = omega arith
edge_length o n f (Chan c) low few is small = omega arith
edge_length o n f (Obj m) low few is small = edge.few
  where
    edge : AtMost 26 (print edge_t (n, (m, (f, tt))))
    edge = fixed "  " ▹ three_digits n low ▹ fixed " -> " ▹ three_digits m (omega (arith, is)) ▹ fixed " [label=\"" ▹ one_digit f few ▹ fixed "\"];\n"

-- a row of lines, each of which has at most k bytes
numbered_length : {A : Type 0} (f : ℕ → A → List ℕ) (Q : A → Type 0) (k most n : ℕ) (xs : List A) → ((i : ℕ) (x : A) → i < most → Q x → length (f i x) ≤ k)
    → n + length xs ≤ most → Every Q xs → length (numbered f n xs) ≤ length xs * k
unfolding numbered
numbered_length f Q k most n [] line few all = omega arith
numbered_length f Q k most n (x ∷ xs) line few (first, others) =
    omega (
      arith,
      length-append (f n x) (numbered f (suc n) xs),
      suc-mul (length xs) k,
      line n x (omega arith) first,
      numbered_length f Q k most (suc n) xs line (omega arith) others,
    )

-- ---- The whole

module _ {P : Program} {n : ℕ} {S : State} (fits : Fits mosts P n S) where
  edges_length : (i : ℕ) (o : Object) → i < 256 → ObjectFits P (length S.objects) (length S.threads) o → length (edge_lines i o) ≤ 104
  unfolding edge_lines
  edges_length i o low of =
      omega (
        arith,
        of.few,
        numbered_length (edge_line i) (IsObject (length S.objects)) 26 4 0 o.fields
            (λ f v few is. edge_length (length S.objects) i f v (omega arith) (omega arith) is (omega (arith, fits.few_objects))) (omega (arith, of.few)) of.fields,
      )

  pub drawing_length : length (drawing S) ≤ 42283
  unfolding drawing
  drawing_length =
      let nodes = numbered node_line 0 S.objects in
      let edges = numbered edge_lines 0 S.objects in
      omega (
        arith,
        fits.few_objects,
        length-append opening (nodes ++ (edges ++ closing)),
        length-append nodes (edges ++ closing),
        length-append edges closing,
        numbered_length node_line (ObjectFits P (length S.objects) (length S.threads)) 61 256 0 S.objects (λ i o low of. node_length i o (omega arith))
            (omega (arith, fits.few_objects)) fits.objects,
        numbered_length edge_lines (ObjectFits P (length S.objects) (length S.threads)) 104 256 0 S.objects edges_length (omega (arith, fits.few_objects)) fits.objects,
      )
