-- What two forms share is read after a word, which tells the form.
use Rattle.std.proofs.Common.{Option, Some, None, ℕ, List}
use Rattle.rules.specs.declared.forms.Form.TheVariants as N
use Rattle.rules.specs.Text.{bytes}
use Rattle.rules.specs.Templates.{template}
use Rattle.grammar.specs.Decoded.{operand_rest, place_rest, FormAt, OpenerAt, OperandLineAt, PlaceLineAt}
use Rattle.grammar.specs.declared.forms.Line.{Line}
use Rattle.grammar.proofs.Told.{after_fits, after_fails}
use Rattle.grammar.proofs.Telling.{thread_tells, method_tells, give_tells, value_tells, swap_tells, call_tells}

module _ (s : List ℕ) (at : ℕ) where
  pub a_thread : (x : Option Line) → OpenerAt N.Thread (bytes "(thread") s at x → FormAt 1 s at x
  a_thread None h = after_fails (bytes "(thread") (template ")\n") s at h
  a_thread (Some r) R = record { parts = tt; fits = after_fits (bytes "(thread") (template ")\n") s at tt r.end R.fits; tells = thread_tells R }

  pub a_method : (x : Option Line) → OpenerAt N.Method (bytes "(method") s at x → FormAt 2 s at x
  a_method None h = after_fails (bytes "(method") (template ")\n") s at h
  a_method (Some r) R = record { parts = tt; fits = after_fits (bytes "(method") (template ")\n") s at tt r.end R.fits; tells = method_tells R }

  pub a_give : (x : Option Line) → OperandLineAt N.Give (bytes "(give ") s at x → FormAt 3 s at x
  a_give None h = after_fails (bytes "(give ") operand_rest s at h
  a_give (Some r) R = record { parts = (R.operand, tt); fits = after_fits (bytes "(give ") operand_rest s at (R.operand, tt) r.end R.fits; tells = give_tells R }

  pub a_value : (x : Option Line) → OperandLineAt N.Value (bytes "(let ") s at x → FormAt 4 s at x
  a_value None h = after_fails (bytes "(let ") operand_rest s at h
  a_value (Some r) R = record { parts = (R.operand, tt); fits = after_fits (bytes "(let ") operand_rest s at (R.operand, tt) r.end R.fits; tells = value_tells R }

  pub a_swap : (x : Option Line) → PlaceLineAt N.Swap (bytes "(let (swap ") s at x → FormAt 6 s at x
  a_swap None h = after_fails (bytes "(let (swap ") place_rest s at h
  a_swap (Some r) R = record { parts = (R.target, (R.number, (R.operand, tt))); fits = after_fits (bytes "(let (swap ") place_rest s at (R.target, (R.number, (R.operand, tt))) r.end R.fits; tells = swap_tells R }

  pub a_call : (x : Option Line) → PlaceLineAt N.Call (bytes "(let (call ") s at x → FormAt 7 s at x
  a_call None h = after_fails (bytes "(let (call ") place_rest s at h
  a_call (Some r) R = record { parts = (R.target, (R.number, (R.operand, tt))); fits = after_fits (bytes "(let (call ") place_rest s at (R.target, (R.number, (R.operand, tt))) r.end R.fits; tells = call_tells R }
