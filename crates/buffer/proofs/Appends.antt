-- Laws of `Wrote`: nothing, a byte, one text after the other, the same text said otherwise, a text at the front.
use Rattle.std.proofs.Common.{ℕ, ◌+◌, ◌≤◌, ◌<◌, add-zero, zero-add, add_assoc, add-one, arith, ◌≡◌, refl, sym, ap, ◌∙◌, List, [], ◌∷◌, ◌++◌, append_assoc, length, take, drop, set, length-append, take-append-drop, length-take-le, drop-drop}
use borrow.Rule.Slice.PartMut.{put_mid}
use Rattle.std.proofs.Math.Seq.{take-append_seam, drop-append-add, set_split}
use Rattle.buffer.specs.Writing.{over, Wrote}

over_none : (l : List ℕ) (at : ℕ) → l ≡ over l at []
unfolding over
over_none l at = rw (add-zero at) (sym (take-append-drop at l))

over_byte : (l : List ℕ) (at b : ℕ) → at < length l → set l at b ≡ over l at (b ∷ [])
unfolding over
over_byte l at b there = rw (add-one at) (set_split l at b there)

over_range : (l ys t : List ℕ) (at k : ℕ) → ys ≡ t → k ≡ length t → put_mid at k l ys ≡ over l at t
unfolding over
over_range l ys t at k e p = rw (e, p, drop-drop (length t) at l) refl

over_past : (p q : List ℕ) (at : ℕ) → length p ≡ at → (t : List ℕ) → over (p ++ q) at t ≡ p ++ (t ++ drop (length t) q)
unfolding over
over_past p q at e t = rw (← e, take-append_seam p q, drop-append-add p q (length t))

over_over : (l : List ℕ) (at : ℕ) (s t : List ℕ) → at ≤ length l → over (over l at s) (at + length s) t ≡ over l at (s ++ t)
unfolding over
over_over l at s t there =
    ap (λ (k : List ℕ). over k (at + length s) t) (sym (append_assoc (take at l) s (drop (at + length s) l)))
    ∙ over_past (take at l ++ s) (drop (at + length s) l) (at + length s) (length-append (take at l) s ∙ ap (λ (k : ℕ). k + length s) (length-take-le at l there)) t
    ∙ rw (drop-drop (length t) (at + length s) l, length-append s t, add_assoc at (length s) (length t), append_assoc (take at l) s, append_assoc s t)

pub nothing : {l : List ℕ} {at : ℕ} (k : ℕ) → at ≤ length l → Wrote k l l at at []
nothing {l} {at} k there = record { is = over_none l at; end = omega arith; most = omega arith; from = there }

pub byte : {l : List ℕ} {at : ℕ} (b : ℕ) → at < length l → Wrote 1 l (set l at b) at (at + 1) (b ∷ [])
byte {l} {at} b there = record { is = over_byte l at b there; end = refl; most = omega arith; from = omega arith }

-- a range of the buffer set to a text
pub range : {l ys t : List ℕ} {at k : ℕ} → ys ≡ t → k ≡ length t → at ≤ length l → Wrote (length t) l (put_mid at k l ys) at (at + length t) t
range {l} {ys} {t} {at} {k} e p there = record { is = over_range l ys t at k e p; end = refl; most = omega arith; from = there }

infixr 5 ◌▹◌
pub ◌▹◌ : {j k : ℕ} {l l₁ l₂ : List ℕ} {at m r : ℕ} {s t : List ℕ} → Wrote j l l₁ at m s → Wrote k l₁ l₂ m r t → Wrote (j + k) l l₂ at r (s ++ t)
◌▹◌ {l = l} {at = at} {s = s} {t = t} a b =
    record {
      is = b.is ∙ rw (a.is, a.end) (over_over l at s t a.from);
      end = b.end ∙ rw (a.end, length-append s t) (omega arith);
      most = omega (arith, a.most, b.most);
      from = a.from;
    }

-- the same text said otherwise, and a larger bound
pub same_text : {j : ℕ} (k : ℕ) {l l₁ : List ℕ} {at r : ℕ} {s t : List ℕ} → s ≡ t → j ≤ k → Wrote j l l₁ at r s → Wrote k l l₁ at r t
same_text k e wide a = record { is = rw (← e) a.is; end = rw (← e) a.end; most = omega (arith, a.most); from = a.from }

-- a text at the front of the buffer: what stands there, and its end
pub front_is : {k r : ℕ} {l l₁ t : List ℕ} → Wrote k l l₁ 0 r t → (l₁ ≡ t ++ drop (length t) l) × (r ≡ length t)
unfolding over
front_is {t = t} w = (rw (zero-add (length t)) at w.is, rw (zero-add (length t)) at w.end)
