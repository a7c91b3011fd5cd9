-- `parts::items_at` meets its contract. The loop's invariant: the parts read so far run from the list's place to the place reached. The measure is what
-- is left of the text: the loop goes on at a space only, which lies inside the text, and each part ends past it.
use Rattle.std.proofs.Common.{Option, ℕ, ◌+◌, ◌-◌, ◌/◌, ◌≤◌, ◌≡◌, List, map, eqb, length}
use Rattle.rules.specs.Lists.{any}
use Rattle.grammar.specs.declared.parts.Part.{Part}
use Rattle.grammar.specs.declared.parts.Items.{Items}
use Rattle.grammar.specs.Items.{Listed, past, Run}
use Rattle.grammar.proofs.parts.items_at.Given as goal

-- what the loop has read of the list at a place
pub record ItemsTo (reads : ℕ → Option Part → Type 0) (per : ℕ) (s : List ℕ) (at : ℕ) (l : Items) : Type 0 where
  pub parts : List Part
  pub run : Run reads s at parts l.end
  pub listed : Listed l (map (λ p. p.word + 1) parts) (map (λ p. p.word / per) parts)
  pub need : l.need ≡ past (map (λ p. p.word / per) parts)
  pub own : l.own ≡ any (λ p. eqb p.word 1) parts
  pub start : at ≤ l.end
  pub limit : l.end ≤ 65800

abbrev pub invariant-loop-part : goal.invariant-loop-part
invariant-loop-part g l = ItemsTo (goal.F-post g l.part) l.per l.text.bytes.now l.at l.l

abbrev pub decreases-loop-part : goal.decreases-loop-part
decreases-loop-part g l = length l.text.bytes.now - l.l.end
