-- "The printed run": what boxrun prints for every answer, byte for byte.
use Rattle.std.specs.Prelude.{ℕ, suc, List, [], ◌∷◌, ◌++◌, map, drop}
use Prim.Native.String as S
use Rattle.rules.specs.declared.Value.{Value}
use Rattle.rules.specs.declared.Value.TheVariants.{Absent, Obj, Chan}
use Rattle.rules.specs.Text.{bytes}
use Rattle.rules.specs.Templates.{decimal, cap_word, print_many}
use Rattle.rules.specs.State.{Object, Frame, Sender, ready, waiting, Thread, Channel, State}
use Rattle.rules.specs.Run.{End, finished, stuck, open_end, Answer, refused, ended, halted}

-- a list in brackets: a word and its parts, each after a space
unfoldable pub bracket : S.String → List (List ℕ) → List ℕ
bracket w parts = bytes "(" ++ (bytes w ++ (print_many (λ p. p) parts ++ bytes ")"))

unfoldable pub a_line : S.String → List (List ℕ) → List ℕ
a_line w parts = bracket w parts ++ bytes "\n"

unfoldable pub end_word : End → List ℕ
end_word finished = bytes "finished"
end_word stuck = bytes "stuck"
end_word open_end = bytes "open"

-- "It prints (refused R L) .. Otherwise it prints (end WORD MOVES), or (stopped R THREAD BLOCK LINE MOVES)."
unfoldable pub answer_line : Answer → List ℕ
answer_line (refused k n) = a_line "refused" (decimal k ∷ decimal n ∷ [])
answer_line (ended e n) = a_line "end" (end_word e ∷ decimal n ∷ [])
answer_line (halted k t b l n) = a_line "stopped" (decimal k ∷ decimal t ∷ decimal b ∷ decimal l ∷ decimal n ∷ [])

unfoldable pub value_text : Value → List ℕ
value_text Absent = bytes "absent"
value_text (Obj n) = bracket "obj" (decimal n ∷ [])
value_text (Chan c) = bracket "chan" (decimal c ∷ [])

-- "objects, number, capability, kind, creator, fields"
unfoldable pub object_line : ℕ → Object → List ℕ
object_line n o = a_line "object" (decimal n ∷ cap_word o.cap ∷ decimal o.kind ∷ decimal o.creator ∷ map value_text o.fields)

-- "channels": empty, or the message
unfoldable pub message_text : Value → List ℕ
message_text Absent = bytes "empty"
message_text (Obj n) = value_text (Obj n)
message_text (Chan c) = value_text (Chan c)

unfoldable pub channel_line : ℕ → Channel → List ℕ
channel_line c ch = a_line "channel" (decimal c ∷ message_text ch.message ∷ [])

unfoldable pub sender_text : Sender → List ℕ
sender_text ready = bytes "ready"
sender_text (waiting i) = bytes "waiting"

-- "threads, number, ready, waiting (as sender) or finished. An unfinished thread adds its innermost block, line and filled slots."
unfoldable pub thread_parts : Sender → List Frame → List (List ℕ)
thread_parts d [] = bytes "finished" ∷ []
thread_parts d (f ∷ fs) = sender_text d ∷ decimal f.block ∷ decimal f.line ∷ map value_text f.slots

unfoldable pub thread_line : ℕ → Thread → List ℕ
thread_line t th = a_line "thread" (decimal t ∷ thread_parts th.sender th.frames)

-- "Objects, channels and started threads each go by rising number."
unfoldable pub numbered : {A : Type 0} → (ℕ → A → List ℕ) → ℕ → List A → List ℕ
numbered f n [] = []
numbered f n (x ∷ xs) = f n x ++ numbered f (suc n) xs

unfoldable pub state_lines : State → List ℕ
state_lines S = numbered object_line 0 S.objects ++ (numbered channel_line 1 (drop 1 S.channels) ++ numbered thread_line 0 S.threads)

-- the answer's line, and the state's after it; a refusal has no state (Input.printed)
unfoldable pub listing : Answer → State → List ℕ
listing a S = answer_line a ++ state_lines S
