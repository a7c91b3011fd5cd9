-- The written form: a template for each form of a line, one matcher and one printer that the templates drive.
use Prim.{Unit}
use Rattle.std.specs.Prelude.{ℕ, zero, suc, ◌+◌, ◌*◌, ◌/◌, ◌%◌, Bool, false, not, ◌&&◌, ◌||◌, cond, List, [], ◌∷◌, ◌++◌, map, ltb, leb, eqb, length, get_or}
use Prim.Native.String as S
use Rattle.rules.specs.declared.Cap.{Cap}
use Rattle.rules.specs.declared.Cap.TheVariants.{Imm, Iso, Local, Unsafe}
use Rattle.rules.specs.Lists.{among, place_of}
use Rattle.rules.specs.Text.{bytes, space}
use Rattle.rules.specs.Script.{Operand, reads, takes, value, field, swap, call, new, cast, spawn, send, recv, copy, bind, give, thread, method, Form, kind, opens, line, Edition, edition1, edition2}

-- What a part of a form takes from the front of a text: its value and the text that is left; or it does not fit.
pub data Taken (A : Type 0) : Type 0 where
  took : A → (left : List ℕ) → Taken A
  unfit : Taken A

-- one part after the other; and the first of two that fits
infixl 20 ◌>>=◌
unfoldable pub ◌>>=◌ : {A B : Type 0} → Taken A → (A → List ℕ → Taken B) → Taken B
took a l >>= f = f a l
unfit >>= f = unfit

unfoldable pub or_else : {A : Type 0} → Taken A → Taken A → Taken A
or_else (took a l) x = took a l
or_else unfit x = x

-- characters that stand for themselves
unfoldable pub literal : List ℕ → List ℕ → Taken (Unit {0})
literal [] l = took tt l
literal (c ∷ w) [] = unfit
literal (c ∷ w) (x ∷ l) = cond (eqb x c) (literal w l) unfit

-- ---- Numbers

abbrev pub digits : List ℕ
digits = bytes "0123456789"

-- the value of a digit, or 10 where the character is none
abbrev pub digit_of : ℕ → ℕ
digit_of c = place_of c digits

-- the digits at the front of a text, as values, and what is left
unfoldable pub digits_at : List ℕ → List ℕ × List ℕ
digits_at [] = ([], [])
digits_at (c ∷ l) = let r = digits_at l in cond (ltb (digit_of c) 10) (digit_of c ∷ r.0, r.1) ([], c ∷ l)

-- "A number is decimal, one to three digits, no needless leading zero"
unfoldable pub is_number : List ℕ → Bool
is_number [] = false
is_number (d ∷ ds) = leb (length ds) 2 && (eqb (length ds) 0 || not (eqb d 0))

unfoldable pub decimal_value : ℕ → List ℕ → ℕ
decimal_value n [] = n
decimal_value n (d ∷ ds) = decimal_value (n * 10 + d) ds

unfoldable pub number : List ℕ → Taken ℕ
number l = let r = digits_at l in cond (is_number r.0) (took (decimal_value 0 r.0) r.1) unfit

-- printed, below 100,000: the digit at a place, where the number is long enough to have one there
abbrev pub digit : ℕ → ℕ
digit d = get_or digits d 0

abbrev pub digit_at : ℕ → ℕ → List ℕ
digit_at place n = cond (ltb n place) [] (digit (n / place % 10) ∷ [])

unfoldable pub decimal : ℕ → List ℕ
decimal n = digit_at 10000 n ++ (digit_at 1000 n ++ (digit_at 100 n ++ (digit_at 10 n ++ (digit (n % 10) ∷ []))))

-- ---- Operands and capabilities

-- "Operand W: (read S) or (take S)"
unfoldable pub operand_by : List ℕ → (ℕ → Operand) → List ℕ → Taken Operand
operand_by w f l = literal w l >>= λ _ l₁. number l₁ >>= λ s l₂. literal (bytes ")") l₂ >>= λ _ l₃. took (f s) l₃

unfoldable pub operand : List ℕ → Taken Operand
operand l = or_else (operand_by (bytes "(read ") reads l) (operand_by (bytes "(take ") takes l)

unfoldable pub print_operand : Operand → List ℕ
print_operand (reads s) = bytes "(read " ++ (decimal s ++ bytes ")")
print_operand (takes s) = bytes "(take " ++ (decimal s ++ bytes ")")

-- "K is one of the words imm, iso, local, unsafe."
abbrev pub cap_word : Cap → List ℕ
cap_word Imm = bytes "imm"
cap_word Iso = bytes "iso"
cap_word Local = bytes "local"
cap_word Unsafe = bytes "unsafe"

unfoldable pub cap_by : Cap → List ℕ → Taken Cap
cap_by k l = literal (cap_word k) l >>= λ _ l₁. took k l₁

unfoldable pub capability : List ℕ → Taken Cap
capability l = or_else (cap_by Imm l) (or_else (cap_by Iso l) (or_else (cap_by Local l) (cap_by Unsafe l)))

-- "Parts are separated by one space": any number of parts, each after a space; k bounds how many
unfoldable pub many : {A : Type 0} → (List ℕ → Taken A) → (k : ℕ) → List ℕ → Taken (List A)
many p zero l = took [] l
many p (suc k) [] = took [] []
many p (suc k) (c ∷ l) = cond (eqb c space) (p l >>= λ a l₁. many p k l₁ >>= λ rest l₂. took (a ∷ rest) l₂) (took [] (c ∷ l))

unfoldable pub print_many : {A : Type 0} → (A → List ℕ) → List A → List ℕ
print_many f [] = []
print_many f (a ∷ rest) = space ∷ (f a ++ print_many f rest)

-- ---- Templates

-- A template is a text in which S, F, M, N and B stand for a number, W for an operand, K for a capability, D for document 01's
-- " B .." and " T ..", V for its " W ..", and every other character for itself.
pub data Part : Type 0 where
  character : ℕ → Part
  one_number one_operand one_cap many_numbers many_operands : Part

abbrev pub part : ℕ → Part
part c =
    cond (among c (bytes "SFMNB")) one_number
    (cond (among c (bytes "W")) one_operand
    (cond (among c (bytes "K")) one_cap
    (cond (among c (bytes "D")) many_numbers
    (cond (among c (bytes "V")) many_operands (character c)))))

abbrev pub template : S.String → List Part
template s = map part (bytes s)

-- what the letters of a template stand for, in order
abbrev pub Holds : List Part → Type 0
Holds [] = Unit {0}
Holds (character c ∷ t) = Holds t
Holds (one_number ∷ t) = ℕ × Holds t
Holds (one_operand ∷ t) = Operand × Holds t
Holds (one_cap ∷ t) = Cap × Holds t
Holds (many_numbers ∷ t) = List ℕ × Holds t
Holds (many_operands ∷ t) = List Operand × Holds t

-- the matcher
unfoldable pub fit : (t : List Part) → List ℕ → Taken (Holds t)
fit [] l = took tt l
fit (character c ∷ t) l = literal (c ∷ []) l >>= λ _ l₁. fit t l₁
fit (one_number ∷ t) l = number l >>= λ n l₁. fit t l₁ >>= λ p l₂. took (n, p) l₂
fit (one_operand ∷ t) l = operand l >>= λ w l₁. fit t l₁ >>= λ p l₂. took (w, p) l₂
fit (one_cap ∷ t) l = capability l >>= λ k l₁. fit t l₁ >>= λ p l₂. took (k, p) l₂
fit (many_numbers ∷ t) l = many number (length l) l >>= λ ns l₁. fit t l₁ >>= λ p l₂. took (ns, p) l₂
fit (many_operands ∷ t) l = many operand (length l) l >>= λ ws l₁. fit t l₁ >>= λ p l₂. took (ws, p) l₂

-- a whole line: nothing is left
abbrev pub whole : {A : Type 0} → Taken A → Taken A
whole (took a []) = took a []
whole (took a (c ∷ l)) = unfit
whole unfit = unfit

-- the printer
unfoldable pub print : (t : List Part) → Holds t → List ℕ
print [] p = []
print (character c ∷ t) p = c ∷ print t p
print (one_number ∷ t) p = decimal p.0 ++ print t p.1
print (one_operand ∷ t) p = print_operand p.0 ++ print t p.1
print (one_cap ∷ t) p = cap_word p.0 ++ print t p.1
print (many_numbers ∷ t) p = print_many decimal p.0 ++ print t p.1
print (many_operands ∷ t) p = print_many print_operand p.0 ++ print t p.1

-- ---- The forms of a line. "Every line ends in LF and holds one form."

abbrev pub kind_t : List Part
kind_t = template "(kind (fields F) (doesD))\n"

abbrev pub thread_t : List Part
thread_t = template "(thread)\n"

abbrev pub method_t : List Part
method_t = template "(method)\n"

abbrev pub give_t : List Part
give_t = template "(give W)\n"

abbrev pub value_t : List Part
value_t = template "(let W)\n"

abbrev pub field_t : List Part
field_t = template "(let (field S F))\n"

abbrev pub swap_t : List Part
swap_t = template "(let (swap S F W))\n"

abbrev pub call_t : List Part
call_t = template "(let (call S M W))\n"

abbrev pub new_t : List Part
new_t = template "(let (new K NV))\n"

abbrev pub cast_t : List Part
cast_t = template "(let (cast K W))\n"

abbrev pub spawn_t : List Part
spawn_t = template "(let (spawn B))\n"

abbrev pub send_t : List Part
send_t = template "(let (send S W))\n"

abbrev pub recv_t : List Part
recv_t = template "(let (recv S))\n"

-- document 02, L6: "(copy K S)"
abbrev pub copy_t : List Part
copy_t = template "(let (copy K S))\n"

-- a form's template, and the decoded form that its parts make
pub record Rule : Type 0 where
  pub template : List Part
  pub make : Holds template → Form

abbrev pub forms : List Rule
forms =
    record { template = kind_t; make = λ (f, (bs, _)). kind (record { fields = f; methods = bs }) }
    ∷ record { template = thread_t; make = λ _. opens thread }
    ∷ record { template = method_t; make = λ _. opens method }
    ∷ record { template = give_t; make = λ (w, _). line (give w) }
    ∷ record { template = value_t; make = λ (w, _). line (bind (value w)) }
    ∷ record { template = field_t; make = λ (s, (f, _)). line (bind (field s f)) }
    ∷ record { template = swap_t; make = λ (s, (f, (w, _))). line (bind (swap s f w)) }
    ∷ record { template = call_t; make = λ (s, (m, (w, _))). line (bind (call s m w)) }
    ∷ record { template = new_t; make = λ (k, (n, (ws, _))). line (bind (new k n ws)) }
    ∷ record { template = cast_t; make = λ (k, (w, _)). line (bind (cast k w)) }
    ∷ record { template = spawn_t; make = λ (b, _). line (bind (spawn b)) }
    ∷ record { template = send_t; make = λ (s, (w, _)). line (bind (send s w)) }
    ∷ record { template = recv_t; make = λ (s, _). line (bind (recv s)) }
    ∷ record { template = copy_t; make = λ (k, (s, _)). line (bind (copy k s)) }
    ∷ []

-- the i-th form; what stands past the last is never asked for
abbrev pub rule_at : ℕ → Rule
rule_at i = get_or forms i (record { template = []; make = λ _. opens thread })

-- the first form that fits a line (no other one does: proofs/OneForm)
unfoldable pub first_fit : List Rule → List ℕ → Taken Form
first_fit [] l = unfit
first_fit (r ∷ rs) l = or_else (whole (fit r.template l) >>= λ p l₁. took (r.make p) l₁) (first_fit rs l)

unfoldable pub decode : List ℕ → Taken Form
decode l = first_fit forms l

-- and a form written as its line
unfoldable pub show : Form → List ℕ
show (kind K) = print kind_t (K.fields, (K.methods, tt))
show (opens thread) = print thread_t tt
show (opens method) = print method_t tt
show (line (give w)) = print give_t (w, tt)
show (line (bind (value w))) = print value_t (w, tt)
show (line (bind (field s f))) = print field_t (s, (f, tt))
show (line (bind (swap s f w))) = print swap_t (s, (f, (w, tt)))
show (line (bind (call s m w))) = print call_t (s, (m, (w, tt)))
show (line (bind (new k n ws))) = print new_t (k, (n, (ws, tt)))
show (line (bind (cast k w))) = print cast_t (k, (w, tt))
show (line (bind (spawn b))) = print spawn_t (b, tt)
show (line (bind (send s w))) = print send_t (s, (w, tt))
show (line (bind (recv s))) = print recv_t (s, tt)
show (line (bind (copy k s))) = print copy_t (k, (s, tt))

-- Document 02, L6: the first line of a text in script form 2. No form of a line is written so.
abbrev pub script_t : List Part
script_t = template "(script 2)\n"

-- what stands before the lines of a script
abbrev pub head_of : Edition → List ℕ
head_of edition1 = []
head_of edition2 = print script_t tt
