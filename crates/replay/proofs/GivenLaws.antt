-- What an input comes to, by what stands in it, and what boxrun prints of that.
use Prim.Native.Nat.{ℕ, ◌-◌, ◌≤◌, ◌<◌}
use native.Mathlib.Omega.{arith}
use mathlib.Core.Path.{◌≡◌, refl, sym, ap, ◌∙◌, subst}
use mathlib.Core.Bool.{Bool, true, false, cond}
use mathlib.Core.List.{List, ◌++◌}
use lib.Dec.{ltb}
use lib.ListN.{length, take, drop, take-append-drop, length-drop}
use lib.Seq.{take_all}
use borrow.Author.Tests.{lt-ltb, le-ltb, ltb-false}
use Rattle.rules.specs.Mosts as Most
use Rattle.rules.specs.Mosts.{mosts}
use Rattle.rules.specs.Numbers as No
use Rattle.rules.specs.Text.{lines, join}
use Rattle.rules.specs.Input.{last_line, lines_before, Turns, fault, turns, turns_of, turns_away, outcome_by, printed, outcome, boxrun}
use Rattle.listing.specs.Outputs.{run_text}
use Rattle.std.specs.Prelude.{None, Some, Result, Ok, Err}
use Rattle.rules.proofs.ListLaws.{by_bool, impossible}
use Rattle.rules.specs.declared.faults.Fault.{Fault}
use Rattle.rules.specs.declared.faults.Refusal.{Refusal}
use Rattle.rules.specs.declared.faults.Fault.TheVariants as F
use Rattle.replay.specs.declared.Parts.{Parts}
use Rattle.replay.specs.declared.Misfit.{Misfit}
use Rattle.replay.specs.Given.{Given, away, given_by, given_of, given_in, printed_given, told_of, cut_of, turns_in, Splits}

-- ---- What is printed

pub prints_given : (input : List ℕ) → boxrun mosts input ≡ printed_given (given_of input)
unfolding boxrun outcome given_of run_text
prints_given input = go (ltb Most.input (length input)) (turns_of (last_line (lines input)))
  where
    go : (b : Bool) (t : Turns)
        → printed (cond b (turns_away No.overlong 0) (outcome_by mosts (lines_before (lines input)) t)) ≡ printed_given (cond b (away No.overlong) (given_by (lines_before (lines input)) t))
    go true t = refl
    go false (fault k) = refl
    go false (turns ts) = refl

-- a list that is long enough changes nothing
pub given_whole : (input list : List ℕ) → Most.turns ≤ length list → given_in input list ≡ given_of input
unfolding given_in given_of
given_whole input list long = rw (le-ltb (length list) Most.turns long) (go (ltb Most.input (length input)) (given_by (lines_before (lines input)) (turns_of (last_line (lines input)))))
  where
    go : (b : Bool) (x : Given) → cond b (away No.overlong) (cond b (away No.overlong) x) ≡ cond b (away No.overlong) x
    go true x = refl
    go false x = refl

-- as the code answered it
module _ {input list list₁ : List ℕ} {r : Result Parts Misfit} (splits : Splits input list r list₁) (long : Most.turns ≤ length list) (x : Result Parts Misfit) (e : r ≡ x) where
  pub given_told : given_of input ≡ told_of x input list₁
  given_told = sym (given_whole input list long) ∙ splits.is ∙ ap (λ (r : Result Parts Misfit). told_of r input list₁) e

-- ---- What it comes to

module _ (input list : List ℕ) where
  -- an input over the most
  pub splits_overlong : {m : Misfit} → m.refusal.fault ≡ F.Overlong → m.refusal.line ≡ 0 → m.script ≡ None → Most.input < length input → Splits input list (Err m) list
  unfolding given_in
  splits_overlong why line none h =
      record { is = rw (lt-ltb Most.input (length input) h, none, why) refl; cut = rw none (omega arith); few = omega arith; line = rw (none, line) refl }

  module _ (h : length input ≤ Most.input) where
    -- a list that is too short
    pub splits_short : {m : Misfit} → m.refusal.fault ≡ F.ShortTable → m.refusal.line ≡ 0 → m.script ≡ None → length list < Most.turns → Splits input list (Err m) list
    unfolding given_in
    splits_short why line none short =
        record {
          is = rw (le-ltb Most.input (length input) h, lt-ltb (length list) Most.turns short, none, why) refl;
          cut = rw none (omega arith);
          few = omega arith;
          line = rw (none, line) refl;
        }

    -- the last line starts at a place, and its reading told this
    module _ (long : Most.turns ≤ length list) {list₁ : List ℕ} (same : length list₁ ≡ length list) {at : ℕ}
        (front : take at input ≡ join (lines_before (lines input))) (cut : drop at input ≡ last_line (lines input)) (within : at ≤ length input) where
      -- a fault of it
      pub splits_fault : {f : Fault} {r : Refusal} → turns_of (drop at input) ≡ fault (No.number f) → r.fault ≡ f → r.line ≡ length (lines_before (lines input))
          → Splits input list (Err (record { refusal = r; script = Some at })) list₁
      unfolding given_of
      splits_fault told why line = record {
        is = given_whole input list long ∙ rw (le-ltb Most.input (length input) h, ← cut, told, why, line, front) refl;
        cut = within;
        few = omega arith;
        line = tt;
      }

      -- the turns that it has
      pub splits_turns : {n : ℕ} → turns_of (drop at input) ≡ turns (take n list₁) → n ≤ Most.turns → Splits input list (Ok (record { script = at; turns = n })) list₁
      unfolding given_of
      splits_turns {n} told low =
          record { is = given_whole input list long ∙ rw (le-ltb Most.input (length input) h, ← cut, told, front) refl; cut = within; few = omega arith; line = tt }

-- ---- What lies in what

-- the parts are lent in full
pub whole_again : (input : List ℕ) (at : ℕ) → at ≤ length input → take at input ++ take (length input - at) (drop at input) ≡ input
whole_again input at h = rw (take_all (length input - at) (drop at input) (simp length-drop (omega arith))) (take-append-drop at input)

pub parts_fit : {input list list₁ : List ℕ} {r : Result Parts Misfit} → Splits input list r list₁ → {p : Parts} → r ≡ Ok p → (p.script ≤ length input) × (p.turns ≤ length list₁)
parts_fit {input} {list₁ = list₁} splits e =
    (subst (λ (r : Result Parts Misfit). cut_of r ≤ length input) e splits.cut, subst (λ (r : Result Parts Misfit). turns_in r ≤ length list₁) e splits.few)

-- and are those of an input that is not over the most
pub input_fits : {input list list₁ : List ℕ} {r : Result Parts Misfit} → Splits input list r list₁ → {p : Parts} → r ≡ Ok p → length input ≤ Most.input
unfolding given_in
input_fits {input} {list₁ = list₁} splits {p} e = by_bool (ltb Most.input (length input))
    (λ over. let turned : away No.overlong ≡ told_of (Ok p) input list₁ = rw over at (splits.is ∙ ap (λ (r : Result Parts Misfit). told_of r input list₁) e) in impossible cc)
    (ltb-false Most.input (length input))
