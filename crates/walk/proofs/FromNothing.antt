-- A walk that starts from no object met ends with `met_from`'s list, in its order: a walk's list is determined by where it starts.
use Rattle.std.proofs.Common.{ℕ, ◌≤◌, arith, subst, List, [], ◌∷◌, replicate}
use Rattle.rules.specs.declared.Value.{Value}
use Rattle.rules.specs.Mosts.{mosts}
use Rattle.rules.specs.Script.{Program}
use Rattle.rules.specs.State.{State}
use Rattle.rules.specs.Fits.{Fits}
use Rattle.rules.specs.Walk.{met_from}
use Rattle.rules.proofs.Walks.{walked_one, met_walked}
use Rattle.table.specs.StateTable.{Held}
use Rattle.walk.specs.Walking.{Tally, tally, Numbered, Grows, Walks, Of}
use Rattle.walk.proofs.Numbers.{none_numbered, few_unmet}

pub walk_from_nothing : {s order : List ℕ} {v : Value} {w : Tally} {P : Program} {n : ℕ} {S : State} {rest : List ℕ}
    → Walks s (tally (replicate 256 0) order 0) (Of v) (λ S. v ∷ []) w → Held s S rest → Fits mosts P n S → Of v S → Numbered w (met_from S.objects (v ∷ []))
walk_from_nothing {s} {order} {v} {w} {P} {n} {S} {rest} whole held fits there =
    let so = whole.walks P n S rest [] held fits there (none_numbered 256 order) in
    subst (Numbered w) (walked_one S.objects so.walked (met_walked S.objects (v ∷ []))) so.numbered

pub met_few : {places order : List ℕ} {w : Tally} → Grows (tally places order 0) w → w.count ≤ 256
met_few {places} grows = omega (arith, grows.room, few_unmet 256 places)
