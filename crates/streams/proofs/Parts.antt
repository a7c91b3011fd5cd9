-- What is written to a stream in two parts is written as one.
use mathlib.Core.List.{append-nil}
use Rattle.std.proofs.Common.{ℕ, ◌≡◌, List, [], ◌++◌, length, take, drop, refl, sym, ap, ◌∙◌, append_assoc, take-append-drop, length-drop, ◌-◌, arith}
use lib.Seq.{take_all}
use Rattle.std.specs.Prelude.{Option, Some, None}
use Rattle.std.specs.Io.KnownBytes.{Appends, Keeps}

pub joined : (old mid new : Option (List ℕ)) (first second : List ℕ) → Appends old mid first → Appends mid new second → Appends old new (first ++ second)
joined None mid new first second h k = tt
joined (Some xs) None new first second h k = absurd h
joined (Some xs) (Some ys) None first second h k = absurd k
joined (Some xs) (Some ys) (Some zs) first second h k = k ∙ ap (λ (l : List ℕ). l ++ second) h ∙ append_assoc xs first second

nothing_more : (old mid new : Option (List ℕ)) (bytes : List ℕ) → Appends old mid bytes → Keeps mid new → Appends old new bytes
nothing_more None mid new bytes h k = tt
nothing_more (Some xs) None new bytes h k = absurd h
nothing_more (Some xs) (Some ys) None bytes h k = absurd k
nothing_more (Some xs) (Some ys) (Some zs) bytes h k = k ∙ h

none_yet : (old : Option (List ℕ)) → Appends old old []
none_yet None = tt
none_yet (Some xs) = sym (append-nil xs)

-- all of a text but a rest of it was appended
pub record Written (old new : Option (List ℕ)) (text rest : List ℕ) : Type 0 where
  pub done : List ℕ
  pub parts : text ≡ done ++ rest
  pub appended : Appends old new done

pub written_none : (old : Option (List ℕ)) (text : List ℕ) → Written old old text text
written_none old text = record { done = []; parts = refl; appended = none_yet old }

module _ {old mid : Option (List ℕ)} {text rest : List ℕ} (w : Written old mid text rest) {new : Option (List ℕ)} where
  -- a front of the rest, and then the slice behind it
  pub written_more : (n : ℕ) → Appends mid new (take n rest) → Written old new text (take (length rest - n) (drop n rest))
  written_more n more =
      rw (take_all (length rest - n) (drop n rest) (omega (arith, length-drop n rest)))
      (record {
        done = w.done ++ take n rest;
        parts = w.parts ∙ ap (w.done ++◌) (sym (take-append-drop n rest)) ∙ sym (append_assoc w.done (take n rest) (drop n rest));
        appended = joined old mid new w.done (take n rest) w.appended more;
      })

  pub written_same : Keeps mid new → Written old new text rest
  written_same kept = record { done = w.done; parts = w.parts; appended = nothing_more old mid new w.done w.appended kept }
