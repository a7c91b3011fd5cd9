-- Document 02's answer to writing, from the code's.
use Rattle.std.specs.Prelude.{ℕ, Result, Ok, Err}
use Rattle.rules.specs.declared.faults.Fault.{Fault}
use Rattle.rules.specs.Numbers.{number}
use Rattle.rules.specs.Writer as Writer
use Rattle.rules.specs.Writer.{refused, wrote}

abbrev pub answer_of : Result ℕ Fault → Writer.Answer
answer_of (Err fault) = refused (number fault)
answer_of (Ok n) = wrote n
