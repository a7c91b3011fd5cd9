-- A script as values: the decoded form of each line, and the program that the lines make.
use Rattle.std.specs.Prelude.{ℕ, zero, suc, List, [], ◌∷◌, get_or}
use Rattle.rules.specs.declared.Cap.{Cap}
use Rattle.rules.specs.declared.Cap.TheVariants.{Imm, Iso, Local, Unsafe}

-- "Capabilities are ordered imm < iso < local < unsafe"
abbrev pub rank : Cap → ℕ
rank Imm = 0
rank Iso = 1
rank Local = 2
rank Unsafe = 3

-- "Operand W: (read S) or (take S)"
pub data Operand : Type 0 where
  reads takes : (slot : ℕ) → Operand

-- "E: a W; (field S F); (swap S F W); (call S M W); (new K N W ..); (cast K W); (spawn B); (send S W); (recv S)."
pub data Expr : Type 0 where
  value : Operand → Expr
  field : (slot number : ℕ) → Expr
  swap : (slot number : ℕ) → Operand → Expr
  call : (slot method : ℕ) → Operand → Expr
  new : Cap → (kind : ℕ) → List Operand → Expr
  cast : Cap → Operand → Expr
  spawn : (block : ℕ) → Expr
  send : (slot : ℕ) → Operand → Expr
  recv : (slot : ℕ) → Expr
  -- document 02, L6
  copy : Cap → (slot : ℕ) → Expr

-- "(let E) lines follow; (give W) closes it."
pub data Line : Type 0 where
  bind : Expr → Line
  give : Operand → Line

-- "(thread) or (method) opens a block"
pub data Sort : Type 0 where
  thread method : Sort

-- "F fields, 0 to 4, and up to four method blocks"
pub record Kind : Type 0 where
  pub fields : ℕ
  pub methods : List ℕ

-- the decoded form of a line
pub data Form : Type 0 where
  kind : Kind → Form
  opens : Sort → Form
  line : Line → Form

pub record Block : Type 0 where
  pub sort : Sort
  pub lets : List Expr
  pub result : Operand

-- Document 02, L6: "script form 2"; a text without the line that names it is of the first edition.
pub data Edition : Type 0 where
  edition1 edition2 : Edition

pub record Program : Type 0 where
  pub edition : Edition
  pub kinds : List Kind
  pub blocks : List Block

-- The program that decoded lines make: the kinds; and for each opener a block with the lets after it and the give after these.
unfoldable pub kinds_of : List Form → List Kind
kinds_of [] = []
kinds_of (kind K ∷ fs) = K ∷ kinds_of fs
kinds_of (opens o ∷ fs) = kinds_of fs
kinds_of (line x ∷ fs) = kinds_of fs

-- (in a closed block the give stands before the list's end and before any kind or opener)
unfoldable pub lets_of : List Form → List Expr
lets_of [] = []
lets_of (kind K ∷ fs) = []
lets_of (opens o ∷ fs) = []
lets_of (line (bind e) ∷ fs) = e ∷ lets_of fs
lets_of (line (give w) ∷ fs) = []

unfoldable pub result_of : List Form → Operand
result_of [] = reads 0
result_of (kind K ∷ fs) = reads 0
result_of (opens o ∷ fs) = reads 0
result_of (line (bind e) ∷ fs) = result_of fs
result_of (line (give w) ∷ fs) = w

unfoldable pub blocks_of : List Form → List Block
blocks_of [] = []
blocks_of (kind K ∷ fs) = blocks_of fs
blocks_of (opens o ∷ fs) = record { sort = o; lets = lets_of fs; result = result_of fs } ∷ blocks_of fs
blocks_of (line x ∷ fs) = blocks_of fs

unfoldable pub program_of : Edition → List Form → Program
program_of e fs = record { edition = e; kinds = kinds_of fs; blocks = blocks_of fs }

-- and back: the lines of a program
unfoldable pub let_lines : List Expr → List Form → List Form
let_lines [] fs = fs
let_lines (e ∷ es) fs = line (bind e) ∷ let_lines es fs

unfoldable pub block_lines : List Block → List Form
block_lines [] = []
block_lines (B ∷ Bs) = opens B.sort ∷ let_lines B.lets (line (give B.result) ∷ block_lines Bs)

unfoldable pub kind_lines : List Kind → List Form → List Form
kind_lines [] fs = fs
kind_lines (K ∷ Ks) fs = kind K ∷ kind_lines Ks fs

unfoldable pub lines_of : Program → List Form
lines_of P = kind_lines P.kinds (block_lines P.blocks)

-- "all from 0 in order of writing". What stands past the end of a list is never asked for in an accepted script.
abbrev pub no_kind : Kind
no_kind = record { fields = 0; methods = [] }

abbrev pub no_block : Block
no_block = record { sort = thread; lets = []; result = reads 0 }

unfoldable pub kind_at : Program → ℕ → Kind
kind_at P n = get_or P.kinds n no_kind

unfoldable pub block_at : Program → ℕ → Block
block_at P b = get_or P.blocks b no_block

-- "Lines in a block count from 0 after its opener."
unfoldable pub line_of : List Expr → Operand → ℕ → Line
line_of [] w l = give w
line_of (e ∷ es) w zero = bind e
line_of (e ∷ es) w (suc l) = line_of es w l

unfoldable pub line_at : Program → ℕ → ℕ → Line
line_at P b l = line_of (block_at P b).lets (block_at P b).result l
