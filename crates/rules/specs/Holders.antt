-- Who holds an object. Document 02, L7: "The object's record gets the number of slots in all frames, fields and channel messages that hold it."
use Rattle.std.specs.Prelude.{ℕ, ◌+◌, List, [], ◌∷◌}
use Rattle.rules.specs.State.{Object, Thread, Channel, State}
use Rattle.rules.specs.Reach.{count_one, count, slots_of}

-- summed over a list
unfoldable pub total : {A : Type 0} → (A → ℕ) → List A → ℕ
total f [] = 0
total f (x ∷ xs) = f x + total f xs

-- "slots in all frames", self slots too
unfoldable pub in_slots : ℕ → Thread → ℕ
in_slots n t = count n (slots_of t.frames)

-- "fields"
unfoldable pub in_fields : ℕ → Object → ℕ
in_fields n o = count n o.fields

-- "and channel messages": an empty channel holds Absent
unfoldable pub in_message : ℕ → Channel → ℕ
in_message n c = count_one n c.message

-- how many of these hold object n
unfoldable pub holders : State → ℕ → ℕ
holders S n = total (in_slots n) S.threads + (total (in_fields n) S.objects + total (in_message n) S.channels)
