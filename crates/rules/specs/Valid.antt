-- What an accepted program guarantees: slots filled at their line, no method takes slot 0, numbers in range and of their sort.
use Rattle.std.specs.Prelude.{ℕ, suc, ◌+◌, ◌≤◌, ◌<◌, ◌≡◌, List, [], ◌∷◌, length}
use Rattle.rules.specs.declared.Cap.{Cap}
use Rattle.rules.specs.declared.Cap.TheVariants.{Imm, Iso, Local, Unsafe}
use Rattle.rules.specs.declared.Mosts.{Mosts}
use Rattle.rules.specs.Mosts as Most
use Rattle.rules.specs.Lists.{Every}
use Rattle.rules.specs.Script.{Operand, reads, takes, Expr, value, field, swap, call, new, cast, spawn, send, recv, copy, Sort, thread, method, Kind, Block, Program, kind_at, block_at}
use Rattle.rules.specs.Reading.{first_slots}

-- slot s of a block of this sort may be taken
abbrev pub NotSelf : Sort → ℕ → Type 0
NotSelf thread s = Unit {0}
NotSelf method s = 1 ≤ s

-- in a block of sort o, of which n slots are filled
abbrev pub OperandOk : Sort → ℕ → Operand → Type 0
OperandOk o n (reads s) = s < n
OperandOk o n (takes s) = (s < n) × NotSelf o s

-- a copy may have this capability
abbrev pub NotIso : Cap → Type 0
NotIso Imm = Unit {0}
NotIso Iso = ⊥
NotIso Local = Unit {0}
NotIso Unsafe = Unit {0}

-- block b is there and of sort o
pub record IsBlock (P : Program) (o : Sort) (b : ℕ) : Type 0 where
  pub there : b < length P.blocks
  pub sort : (block_at P b).sort ≡ o

pub record IsKind (P : Program) (n operands : ℕ) : Type 0 where
  pub there : n < length P.kinds
  pub fields : operands ≡ (kind_at P n).fields

abbrev pub ExprOk : Program → Sort → ℕ → Expr → Type 0
ExprOk P o n (value w) = OperandOk o n w
ExprOk P o n (field s f) = (s < n) × (f ≤ Most.number)
ExprOk P o n (swap s f w) = (s < n) × (f ≤ Most.number) × OperandOk o n w
ExprOk P o n (call s i w) = (s < n) × (i ≤ Most.number) × OperandOk o n w
ExprOk P o n (new k i ws) = IsKind P i (length ws) × Every (OperandOk o n) ws
ExprOk P o n (cast k w) = OperandOk o n w
ExprOk P o n (spawn b) = IsBlock P thread b
ExprOk P o n (send s w) = (s < n) × OperandOk o n w
ExprOk P o n (recv s) = s < n
ExprOk P o n (copy k s) = (s < n) × NotIso k

-- each let fills the next slot
abbrev pub LetsOk : Program → Sort → ℕ → List Expr → Type 0
LetsOk P o n [] = Unit {0}
LetsOk P o n (e ∷ es) = ExprOk P o n e × LetsOk P o (suc n) es

pub record BlockOk (P : Program) (B : Block) : Type 0 where
  pub few : first_slots B.sort + length B.lets ≤ Most.slots
  pub lets : LetsOk P B.sort (first_slots B.sort) B.lets
  pub result : OperandOk B.sort (first_slots B.sort + length B.lets) B.result

pub record KindOk (P : Program) (K : Kind) : Type 0 where
  pub few_fields : K.fields ≤ Most.fields
  pub few_methods : length K.methods ≤ Most.methods
  pub methods : Every (IsBlock P method) K.methods

-- the lets of a script
unfoldable pub let_count : List Block → ℕ
let_count [] = 0
let_count (B ∷ Bs) = length B.lets + let_count Bs

pub record Valid (m : Mosts) (P : Program) : Type 0 where
  pub kinds : Every (KindOk P) P.kinds
  pub blocks : Every (BlockOk P) P.blocks
  pub few_kinds : length P.kinds ≤ m.kinds
  pub few_blocks : length P.blocks ≤ m.blocks
  pub few_lets : let_count P.blocks ≤ m.lets
  pub first : IsBlock P thread 0
