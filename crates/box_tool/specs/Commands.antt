-- What the first word after the program's name commands, and how many words must and may follow it.
use Rattle.std.specs.Prelude.{ℕ, Bool, cond, List}
use Rattle.rules.specs.Text.{bytes}
use Rattle.std.specs.Str.{bytes_eq}
use Rattle.box_tool.specs.declared.commands.Command.{Command}
use Rattle.box_tool.specs.declared.commands.Command.TheVariants.{Print, Check, Reach, Explain, Version, Help, Unknown}
use Rattle.box_tool.specs.declared.commands.Job.TheVariants.{Run, Save, Strip, Draw}

-- the text is the word
abbrev pub is : (word text : List ℕ) → Bool
is word text = bytes_eq text word

-- on an input
unfoldable pub input_command_of : List ℕ → Command
input_command_of word =
    cond (is (bytes "run") word) (Print Run)
    (cond (is (bytes "save") word) (Print Save)
    (cond (is (bytes "strip") word) (Print Strip)
    (cond (is (bytes "draw") word) (Print Draw)
    (cond (is (bytes "reach") word) Reach Unknown))))

unfoldable pub command_of : List ℕ → Command
command_of word =
    cond (is (bytes "explain") word) Explain
    (cond (is (bytes "--version") word) Version
    (cond (is (bytes "--help") word) Help
    (cond (is (bytes "help") word) Help
    (cond (is (bytes "check") word) Check (input_command_of word)))))

abbrev pub least : Command → ℕ
least (Print j) = 0
least Check = 0
least Reach = 2
least Explain = 0
least Version = 0
least Help = 0
least Unknown = 0

abbrev pub most : Command → ℕ
most (Print j) = 1
most Check = 1
most Reach = 2
most Explain = 1
most Version = 0
most Help = 0
most Unknown = 0
