-- A form written as its line reads as that form, where its numbers have at most three digits: one line for each form.
use native.Mathlib.Omega.{arith}
use mathlib.Core.Path.{◌≡◌}
use mathlib.Core.List.{[]}
use Rattle.rules.specs.Lists.{Every}
use Rattle.rules.specs.Script.{value, field, swap, call, new, cast, spawn, send, recv, copy, bind, give, thread, method, Form, kind, opens, line}
use Rattle.rules.specs.Templates.{took, decode, show}
use Rattle.rules.specs.Reading.{slot_of, targets_in, operands_in, numbers_in, slots_in}
use Rattle.rules.proofs.ListLaws.{every_mapped}
use Rattle.rules.proofs.Printing.{Small}
use Rattle.rules.proofs.OneForm.{print_decodes}

pub decode_show : (F : Form) → Every Small (slots_in F) → Every Small (numbers_in F) → decode (show F) ≡ took F []
unfolding show slots_in targets_in operands_in numbers_in
decode_show (kind K) s n = print_decodes 0 (K.fields, (K.methods, tt)) (omega arith) (n.0, (n.1, tt))
decode_show (opens thread) s n = print_decodes 1 tt (omega arith) tt
decode_show (opens method) s n = print_decodes 2 tt (omega arith) tt
decode_show (line (give w)) s n = print_decodes 3 (w, tt) (omega arith) s
decode_show (line (bind (value w))) s n = print_decodes 4 (w, tt) (omega arith) s
decode_show (line (bind (field x f))) s n = print_decodes 5 (x, (f, tt)) (omega arith) (s.0, n)
decode_show (line (bind (swap x f w))) s n = print_decodes 6 (x, (f, (w, tt))) (omega arith) (s.0, (n.0, s.1))
decode_show (line (bind (call x i w))) s n = print_decodes 7 (x, (i, (w, tt))) (omega arith) (s.0, (n.0, s.1))
decode_show (line (bind (new k i ws))) s n = print_decodes 8 (k, (i, (ws, tt))) (omega arith) (n.0, (every_mapped Small slot_of ws s, tt))
decode_show (line (bind (cast k w))) s n = print_decodes 9 (k, (w, tt)) (omega arith) s
decode_show (line (bind (spawn b))) s n = print_decodes 10 (b, tt) (omega arith) n
decode_show (line (bind (send x w))) s n = print_decodes 11 (x, (w, tt)) (omega arith) s
decode_show (line (bind (recv x))) s n = print_decodes 12 (x, tt) (omega arith) s
decode_show (line (bind (copy k x))) s n = print_decodes 13 (k, (x, tt)) (omega arith) s
