-- What is printed of an input, by what is asked of it.
use Rattle.std.specs.Prelude.{ℕ, ◌≡◌, List}
use Rattle.rules.specs.Mosts.{mosts}
use Rattle.rules.specs.Input.{boxrun}
use Rattle.stripping.specs.StrippedTexts.{StrippedInput}
use Rattle.reports.specs.ReachedLines.{reached_text}
use Rattle.reports.specs.DrawnTexts.{drawn_text}
use Rattle.save.specs.Saved.{saved}
use Rattle.box_tool.specs.declared.commands.Job.{Job}
use Rattle.box_tool.specs.declared.commands.Job.TheVariants.{Run, Save, Strip, Draw, Reached}
use Rattle.box_tool.specs.declared.Status.{Status}
use Rattle.box_tool.specs.Status.{status_of, Unless}

abbrev pub IsText : Job → (input text : List ℕ) → Type 0
IsText Run input text = text ≡ boxrun mosts input
IsText Save input text = text ≡ saved input
IsText Strip input text = StrippedInput input text
IsText Draw input text = text ≡ drawn_text input
IsText (Reached t) input text = text ≡ reached_text input t

-- such a text was printed, and the status is its, unless writing failed
pub record Finishes (job : Job) (input : List ℕ) (status : Status) : Type 0 where
  pub text : List ℕ
  pub such : IsText job input text
  pub told : Unless status (status_of text)
