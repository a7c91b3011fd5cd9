-- What the code keeps of a list of operands or numbers in a line.
use Rattle.std.specs.Prelude.{ℕ, suc, ◌+◌, max, min, ◌≡◌, ◌||◌, List, [], ◌∷◌, ◌++◌, Option, Some, None, map, eqb, ltb, length, drop, get_or, ◌/◌}
use Rattle.rules.specs.Mosts as Most
use Rattle.rules.specs.Lists.{any, pad}
use Rattle.rules.specs.Script.{Operand}
use Rattle.rules.specs.Templates.{took, unfit, number, operand, many}
use Rattle.rules.specs.Tables.{operand_item}
use Rattle.rules.specs.Reading.{slot_of, takes_first}
use Rattle.rules.specs.Text.{space}
use Rattle.grammar.specs.declared.parts.Part.{Part}
use Rattle.grammar.specs.declared.parts.Items.{Items}

-- the words of the items and their numbers: the first four words; over where there are more, or a number exceeds 255
pub record Listed (l : Items) (items numbers : List ℕ) : Type 0 where
  pub count : l.n ≡ min 4 (length items)
  pub words : l.a ∷ l.b ∷ l.c ∷ l.d ∷ [] ≡ pad 4 0 items
  pub over : l.over ≡ (ltb 4 (length items) || any (ltb Most.number) numbers)
  pub same : length numbers ≡ length items

-- one item more
pub record Adds (l : Items) (item number : ℕ) (r : Items) : Type 0 where
  pub adds : (items numbers : List ℕ) → Listed l items numbers → Listed r (items ++ (item ∷ [])) (numbers ++ (number ∷ []))

-- one more than the highest
unfoldable pub past : List ℕ → ℕ
past [] = 0
past (n ∷ ns) = max (n + 1) (past ns)

-- parts read one after the other from a place, each after a space, up to another place; `reads` says what is read where
pub data Run (reads : ℕ → Option Part → Type 0) (s : List ℕ) (at : ℕ) : List Part → ℕ → Type 0 where
  none : Run reads s at [] at
  more : {ps : List Part} {e : ℕ} (p : Part) → Run reads s at ps e → get_or s e 0 ≡ space → reads (e + 1) (Some p) → Run reads s at (ps ++ (p ∷ [])) p.end

-- all that are there; a part's number is its word by `per`
pub record ItemsRead (reads : ℕ → Option Part → Type 0) (per : ℕ) (s : List ℕ) (at : ℕ) (r : Items) : Type 0 where
  pub parts : List Part
  pub run : Run reads s at parts r.end
  pub ends : get_or s r.end 0 ≡ space → ⊥
  pub listed : Listed r (map (λ p. p.word + 1) parts) (map (λ p. p.word / per) parts)
  pub need : r.need ≡ past (map (λ p. p.word / per) parts)
  pub own : r.own ≡ any (λ p. eqb p.word 1) parts

-- or those before a space after which none is read
pub record ItemsEnd (reads : ℕ → Option Part → Type 0) (s : List ℕ) (at : ℕ) : Type 0 where
  pub parts : List Part
  pub end : ℕ
  pub run : Run reads s at parts end
  pub goes_on : get_or s end 0 ≡ space
  pub none : reads (end + 1) None

abbrev pub ItemsBy : (ℕ → Option Part → Type 0) → ℕ → List ℕ → ℕ → Option Items → Type 0
ItemsBy reads per s at None = ItemsEnd reads s at
ItemsBy reads per s at (Some r) = ItemsRead reads per s at r

-- " B ..", " W .." at a place
pub record Numbers (s : List ℕ) (at : ℕ) (r : Items) : Type 0 where
  pub items : List ℕ
  pub fits : many number (length (drop at s)) (drop at s) ≡ took items (drop r.end s)
  pub listed : Listed r (map suc items) items

abbrev pub NumbersAt : List ℕ → ℕ → Option Items → Type 0
NumbersAt s at None = many number (length (drop at s)) (drop at s) ≡ unfit
NumbersAt s at (Some r) = Numbers s at r

pub record Operands (s : List ℕ) (at : ℕ) (r : Items) : Type 0 where
  pub items : List Operand
  pub fits : many operand (length (drop at s)) (drop at s) ≡ took items (drop r.end s)
  pub listed : Listed r (map operand_item items) (map slot_of items)
  pub need : r.need ≡ past (map slot_of items)
  pub own : r.own ≡ any takes_first items

abbrev pub OperandsAt : List ℕ → ℕ → Option Items → Type 0
OperandsAt s at None = many operand (length (drop at s)) (drop at s) ≡ unfit
OperandsAt s at (Some r) = Operands s at r
