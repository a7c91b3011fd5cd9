-- Document 02, L8, "Draw the table for support": the text to the byte, as docs/DRAWING.md has it; what the drawing answers and leaves in the buffer.
use Rattle.std.specs.Prelude.{ℕ, List, [], ◌++◌, ltb, length, drop}
use Rattle.rules.specs.declared.Cap.{Cap}
use Rattle.rules.specs.declared.Cap.TheVariants.{Imm, Iso, Local, Unsafe}
use Rattle.rules.specs.declared.Value.{Value}
use Rattle.rules.specs.declared.Value.TheVariants.{Absent, Obj, Chan}
use Rattle.rules.specs.declared.Mosts.{Mosts}
use Rattle.rules.specs.Mosts as Most
use Rattle.rules.specs.Text.{bytes}
use Rattle.rules.specs.Templates.{Part, template, print}
use Rattle.rules.specs.Reading.{Reading, turned_away, accepted}
use Rattle.rules.specs.State.{Object, State}
use Rattle.rules.specs.Run.{run}
use Rattle.rules.specs.Calls.{lent_inputs}
use Rattle.rules.specs.Listing.{numbered}

-- ---- "Write the objects of a run as a directed graph in its DOT language"

abbrev pub opening : List ℕ
opening = bytes "digraph objects {\n  node [style=filled];\n"

abbrev pub closing : List ℕ
closing = bytes "}\n"

-- how a node looks: by shape and by fill it tells its capability
abbrev pub look : Cap → List ℕ
look Imm = bytes "shape=box, fillcolor=lightblue"
look Iso = bytes "shape=ellipse, fillcolor=palegreen"
look Local = bytes "shape=house, fillcolor=khaki"
look Unsafe = bytes "shape=octagon, fillcolor=salmon"

-- "a node for each object, labelled with number and capability"
abbrev pub node_t : List Part
node_t = template "  N [label=\"N K\", "

unfoldable pub node_line : ℕ → Object → List ℕ
node_line n o = print node_t (n, (n, (o.cap, tt))) ++ (look o.cap ++ bytes "];\n")

-- "then an edge for each field that holds an object, labelled with the field's number"
abbrev pub edge_t : List Part
edge_t = template "  N -> N [label=\"F\"];\n"

unfoldable pub edge_line : (from field : ℕ) → Value → List ℕ
edge_line n f Absent = []
edge_line n f (Obj m) = print edge_t (n, (m, (f, tt)))
edge_line n f (Chan c) = []

unfoldable pub edge_lines : ℕ → Object → List ℕ
edge_lines n o = numbered (edge_line n) 0 o.fields

-- "nodes by rising object, edges by rising object and then field"
unfoldable pub drawing : State → List ℕ
drawing S = opening ++ (numbered node_line 0 S.objects ++ (numbered edge_lines 0 S.objects ++ closing))

-- ---- "The entry takes a run's inputs and a lent buffer of 65,536 bytes and gives the length", "A shorter buffer is 9."

unfoldable pub draw_call : Mosts → (text turns program state buffer : List ℕ) → Reading
draw_call m text turns program state buffer = lent_inputs m text turns program state (ltb (length buffer) Most.drawing)

pub data Drawn : Type 0 where
  undrawn : (number line : ℕ) → Drawn
  drawn : (text : List ℕ) → Drawn

abbrev pub drawn_of : Mosts → (turns : List ℕ) → Reading → Drawn
drawn_of m turns (turned_away k n) = undrawn k n
drawn_of m turns (accepted P) = drawn (drawing (run m P turns).state)

-- "Its other bytes stay."
abbrev pub buffer_after : Drawn → List ℕ → List ℕ
buffer_after (undrawn k n) buffer = buffer
buffer_after (drawn text) buffer = text ++ drop (length text) buffer
