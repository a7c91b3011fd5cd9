-- Laws of `Writes`: those of `Wrote`, at each state that the table may hold.
use Rattle.std.proofs.Common.{ℕ, ◌+◌, ◌≤◌, arith, ◌≡◌, refl, ◌∙◌, List, [], ◌++◌, length}
use Rattle.rules.specs.Mosts.{mosts}
use Rattle.rules.specs.Script.{Program}
use Rattle.rules.specs.State.{State}
use Rattle.rules.specs.Fits.{Fits}
use Rattle.table.specs.StateTable.{Held, Sees}
use Rattle.buffer.specs.declared.Output.{Output}
use Rattle.buffer.specs.Outputs.{Wrote}
use Rattle.listing.specs.StateWriting.{Writes}
use Rattle.buffer.proofs.Outputs as O

module _ {s : List ℕ} {Q : State → Type 0} where
  -- a text that is the same for every state
  pub fixed : {k : ℕ} {o o₁ : Output} {t : List ℕ} → Wrote k o o₁ t → Writes k s o o₁ Q (λ S. t)
  fixed w = record { writes = λ P n S rest held fits q. w; most = w.most; length_same = w.length_same; buffer_same = w.buffer_same }

  -- the text of what was read of the state
  pub of_seen : {k : ℕ} {o o₁ : Output} {X : Type 0} {x : X} (T : X → List ℕ) {R : State → Type 0} {f : State → X}
      → ((P : Program) (n : ℕ) (S : State) → Fits mosts P n S → Q S → R S) → Sees s R f x → Wrote k o o₁ (T x) → Writes k s o o₁ Q (λ S. T (f S))
  of_seen T why seen w =
      record {
        writes = λ P n S rest held fits q. rw (seen.sees S rest held (why P n S fits q)) at w;
        most = w.most;
        length_same = w.length_same;
        buffer_same = w.buffer_same;
      }

  infixr 5 ◌▹◌
  pub ◌▹◌ : {j k : ℕ} {o o₁ o₂ : Output} {t u : State → List ℕ} → Writes j s o o₁ Q t → Writes k s o₁ o₂ Q u → Writes (j + k) s o o₂ Q (λ S. t S ++ u S)
  ◌▹◌ a b =
      record {
        writes = λ P n S rest held fits q. O.◌▹◌ (a.writes P n S rest held fits q) (b.writes P n S rest held fits q);
        most = omega (arith, a.most, b.most);
        length_same = b.length_same ∙ a.length_same;
        buffer_same = b.buffer_same ∙ a.buffer_same;
      }

  -- the same text said otherwise, and a larger bound
  pub same_texts : {j : ℕ} (k : ℕ) {o o₁ : Output} {t u : State → List ℕ}
      → ((P : Program) (n : ℕ) (S : State) (rest : List ℕ) → Held s S rest → Fits mosts P n S → Q S → t S ≡ u S) → j ≤ k → Writes j s o o₁ Q t → Writes k s o o₁ Q u
  same_texts k same wide a =
      record {
        writes = λ P n S rest held fits q. O.same_text k (same P n S rest held fits q) wide (a.writes P n S rest held fits q);
        most = omega (arith, wide, a.most);
        length_same = a.length_same;
        buffer_same = a.buffer_same;
      }

  -- nothing is written yet
  pub none_yet : {o : Output} (k : ℕ) (t : State → List ℕ) → ((S : State) → [] ≡ t S) → o.at ≤ length o.buf.now → Writes k s o o Q t
  none_yet k t same there =
      record { writes = λ P n S rest held fits q. O.same_text k (same S) (omega arith) (O.nothing 0 there); most = omega arith; length_same = refl; buffer_same = refl }

  -- a text that is known of the states of which R holds
  pub under : {k : ℕ} {o o₁ : Output} {t : State → List ℕ} {R : State → Type 0}
      → ((P : Program) (n : ℕ) (S : State) (rest : List ℕ) → Held s S rest → Fits mosts P n S → Q S → R S) → Writes k s o o₁ R t → Writes k s o o₁ Q t
  under why a =
      record {
        writes = λ P n S rest held fits q. a.writes P n S rest held fits (why P n S rest held fits q);
        most = a.most;
        length_same = a.length_same;
        buffer_same = a.buffer_same;
      }
