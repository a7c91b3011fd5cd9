-- The stripped script as a text: its lines, as they are written.
use Rattle.std.specs.Prelude.{ℕ, List, ◌++◌, map}
use Rattle.rules.specs.Text.{join}
use Rattle.rules.specs.Script.{Program, lines_of}
use Rattle.rules.specs.Templates.{show, head_of}
use Rattle.rules.specs.Stripped.{strip}

unfoldable pub stripped_script : Program → List ℕ
stripped_script P = head_of P.edition ++ join (map show (lines_of (strip P)))
