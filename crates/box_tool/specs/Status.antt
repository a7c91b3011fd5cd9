-- The exit status and its digit: 1 for a refusal or a failed tick, 2 for an error of the system or of usage, else 0.
use Rattle.std.specs.Prelude.{ℕ, ◌≡◌, Bool, cond, List, ◌⊎◌}
use Prim.Native.Char.{code}
use Rattle.rules.specs.Text.{bytes}
use Rattle.rules.specs.Input.{Outcome, turns_away, ran}
use Rattle.grammar.specs.Words.{begins}
use Rattle.box_tool.specs.declared.Status.{Status}
use Rattle.box_tool.specs.declared.Status.TheVariants.{Well, Refused, Fault}

abbrev pub digit : Status → ℕ
digit Well = code "0"
digit Refused = code "1"
digit Fault = code "2"

-- of what an input of boxrun comes to
abbrev pub status_by : Outcome → Status
status_by (turns_away k n) = Refused
status_by (ran a S) = Well

-- told by what was printed: a refusal begins with its word
unfoldable pub status_of : List ℕ → Status
status_of text = cond (begins (bytes "(refused") text) Refused Well

-- of a check sheet: 1 where a tick does not stand
abbrev pub status_of_sheet : (holds : Bool) → Status
status_of_sheet holds = cond holds Well Refused

-- a status that is right where the system did not fail
abbrev pub Unless : (status right : Status) → Type 0
Unless status right = (status ≡ Fault) ⊎ (status ≡ right)
