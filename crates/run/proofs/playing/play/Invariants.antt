-- Each stretch goes on where the one before it ended; past the last copy the run is the rules'.
use Prim.Native.Nat.{ℕ}
use mathlib.Core.List.{List}
use Rattle.std.specs.Prelude.{Ok}
use Rattle.run.specs.Played.{PlaysFrom}
use Rattle.run.proofs.TurnByTurn.{turns_left}
use Rattle.run.proofs.playing.play.Given as goal

-- what the first stretch comes to, this one does
abbrev pub invariant-loop-stretch : goal.invariant-loop-stretch
invariant-loop-stretch l = (s₀ : List ℕ) → PlaysFrom l.p s₀ l.turns 0 0 (Ok l.initial.stretch) l.initial.s → PlaysFrom l.p s₀ l.turns 0 0 (Ok l.stretch) l.s

abbrev pub decreases-loop-stretch : goal.decreases-loop-stretch
decreases-loop-stretch l = turns_left l.turns l.stretch
