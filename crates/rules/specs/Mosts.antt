-- Document 01's mosts. The record holds those that two scripts on one box would share; the others are the same for every script.
use Rattle.std.specs.Prelude.{ℕ}
use Rattle.rules.specs.declared.Mosts.{Mosts}

-- "32 kinds, 64 blocks, .. 512 lets a script; .. in a run 256 objects, 16 threads"
abbrev pub mosts : Mosts
mosts = record { kinds = 32; blocks = 64; lets = 512; objects = 256; threads = 16 }

-- "text 16,384 bytes"
abbrev pub text : ℕ
text = 16384

-- "32,768 turns"
abbrev pub turns : ℕ
turns = 32768

-- "at most 255"
abbrev pub number : ℕ
number = 255

-- "F fields, 0 to 4, and up to four method blocks", "4 operands in a new"
abbrev pub fields : ℕ
fields = 4

abbrev pub methods : ℕ
methods = 4

abbrev pub operands : ℕ
operands = 4

-- "16 slots a block", "16 frames a thread"
abbrev pub slots : ℕ
slots = 16

abbrev pub frames : ℕ
frames = 16

-- "8,192 words of 16 bits each", "a list of 256 words"
abbrev pub words : ℕ
words = 8192

abbrev pub reach_list : ℕ
reach_list = 256

-- "at most 65,536 bytes": the input of boxrun
abbrev pub input : ℕ
input = 65536

-- document 02, L8: "a lent buffer of 65,536 bytes"
abbrev pub drawing : ℕ
drawing = 65536

-- document 02, L9: "at most 1,024 turns"
abbrev pub race_turns : ℕ
race_turns = 1024
