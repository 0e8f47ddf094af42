-- The instructions of a function. Variables are registers, and values on the way are in those from `free` on.
use Rattle.std.specs.Prelude.{ℕ, ◌+◌, ◌==◌, nat_lt, pos, Bool, true, false, not, if◌then◌else◌, List, [], ◌∷◌, ◌++◌, length, Option, Some, None, slice_get}
use Rattle.job_language.specs.declared.instructions.Instr.{Instr}
use Rattle.job_language.specs.declared.instructions.Instr.TheVariants as instr
use Rattle.source_language.specs.declared.syntax.Operator.{Operator}
use Rattle.source_language.specs.declared.syntax.Operator.TheVariants.{Plus, Minus, Times, Over, Remainder, BitAnd, BitOr, BitXor, ShiftLeft, ShiftRight, Below, AtMost, Equal}
use Rattle.source_language.specs.declared.syntax.Expr.{Expr}
use Rattle.source_language.specs.declared.syntax.Expr.TheVariants.{Number, Variable, Slot, Width, Two'}
use Rattle.source_language.specs.declared.syntax.Test.{Test}
use Rattle.source_language.specs.declared.syntax.Test.TheVariants.{Holds, Not', Both', Either'}
use Rattle.source_language.specs.declared.syntax.Maker.{Maker}
use Rattle.source_language.specs.declared.syntax.Maker.TheVariants.{Spawn, Post, Isolate}
use Rattle.source_language.specs.declared.syntax.Question.{Question}
use Rattle.source_language.specs.declared.syntax.Question.TheVariants.{Cancelled, Cell, CellSum, CellCount}
use Rattle.source_language.specs.declared.syntax.Stmt.{Stmt}
use Rattle.source_language.specs.declared.syntax.Stmt.TheVariants.{Skip, Then', Assign, If', Loop', Repeat', Break, Continue, Return, Make, Wait, Cancel, Read, Store}
use Rattle.source_language.specs.declared.syntax.Function.{Function}
use Rattle.source_language.specs.Meaning.{is_nought}
use Rattle.job_compiler.specs.declared.labels.Label.{Label}
use Rattle.job_compiler.specs.declared.registers.TheConstants.{VIRTUAL_REGISTERS}

-- the instruction of an operator
abbrev pub op_instr : Operator → (d a b : ℕ) → Instr
op_instr Plus d a b = instr.Add d a b
op_instr Minus d a b = instr.Sub d a b
op_instr Times d a b = instr.Mul d a b
op_instr Over d a b = instr.Div d a b
op_instr Remainder d a b = instr.Rem d a b
op_instr BitAnd d a b = instr.And d a b
op_instr BitOr d a b = instr.Or d a b
op_instr BitXor d a b = instr.Xor d a b
op_instr ShiftLeft d a b = instr.Shl d a b
op_instr ShiftRight d a b = instr.Shr d a b
op_instr Below d a b = instr.Lt d a b
op_instr AtMost d a b = instr.Le d a b
op_instr Equal d a b = instr.Eq d a b

-- the register of an operand: a variable's own, and else the first free one
abbrev pub operand : Expr → (free : ℕ) → ℕ
operand (Variable x) t = x
operand e t = t

-- the first free register beside an operand
abbrev pub above : Expr → (free : ℕ) → ℕ
above (Variable x) t = t
above e t = t + 1

-- the code of an operand, of which a variable has none
abbrev pub brought : Expr → List Instr → List Instr
brought (Variable x) code = []
brought e code = code

-- one more, but not more than there are
abbrev pub one_more : ℕ → ℕ
one_more x = if nat_lt x VIRTUAL_REGISTERS then x + 1 else x

-- how many registers two operands take that take so many, if the one that takes more is first
abbrev pub need_of_both : (left right : ℕ) → ℕ
need_of_both x y = if x == y then one_more x else (if nat_lt x y then y else x)

-- how many registers an operand takes, of those from the first free one on
abbrev pub need : Expr → ℕ
need (Number n) = 1
need (Variable x) = 0
need Slot = 1
need Width = 1
need (Two' op p a q b) = need_of_both (need a) (need b)

-- Of two operands the one that takes more registers comes first.
abbrev pub is_right_first : (left right : Expr) → Bool
is_right_first a b = nat_lt (need a) (need b)

-- the first free register for the left one, and for the right one
abbrev pub left_free : (right_first : Bool) → (right : Expr) → (free : ℕ) → ℕ
left_free true b t = above b t
left_free false b t = t

abbrev pub right_free : (right_first : Bool) → (left : Expr) → (free : ℕ) → ℕ
right_free true a t = t
right_free false a t = above a t

abbrev pub in_order : (right_first : Bool) → (left right : List Instr) → List Instr
in_order true left right = right ++ left
in_order false left right = left ++ right

abbrev pub value_code : Expr → (into free : ℕ) → List Instr
value_code (Number n) d t = instr.Set d n ∷ []
value_code (Variable x) d t = instr.Or d x x ∷ []
value_code Slot d t = instr.Slot d ∷ []
value_code Width d t = instr.Width d ∷ []
value_code (Two' op p a q b) d t =
    let s = is_right_first a b in
    let ta = left_free s b t in
    let tb = right_free s a t in
    in_order s (brought a (value_code a ta ta)) (brought b (value_code b tb tb)) ++ op_instr op d (operand a ta) (operand b tb) ∷ []

abbrev pub operand_code : Expr → (free : ℕ) → List Instr
operand_code e t = brought e (value_code e t t)

-- two operands, and the registers in which they then are
abbrev pub both_code : (left right : Expr) → (free : ℕ) → List Instr
both_code a b t =
    let s = is_right_first a b in in_order s (operand_code a (left_free s b t)) (operand_code b (right_free s a t))

abbrev pub left_of : (left right : Expr) → (free : ℕ) → ℕ
left_of a b t = operand a (left_free (is_right_first a b) b t)

abbrev pub right_of : (left right : Expr) → (free : ℕ) → ℕ
right_of a b t = operand b (right_free (is_right_first a b) a t)

-- the register of a number that goes to a variable, or nowhere
abbrev pub register_for : Option ℕ → (free : ℕ) → ℕ
register_for None t = t
register_for (Some d) t = d

-- the operator that gives 0 for two numbers, exchanged, exactly if another one does not give 0 for them
abbrev pub opposite : Operator → Option Operator
opposite Below = Some AtMost
opposite AtMost = Some Below
opposite Equal = Some Minus
opposite Minus = Some Equal
opposite op = None

-- the same of the operator of an expression
abbrev pub opposed : Expr → Option Operator
opposed (Two' op p a q b) = opposite op
opposed e = None

-- both operands of an expression, exchanged, with another operator, into the first free register
abbrev pub opposed_code : Operator → Expr → (free : ℕ) → List Instr
opposed_code o (Two' op p a q b) t = both_code a b t ++ op_instr o t (right_of a b t) (left_of a b t) ∷ []
opposed_code o e t = operand_code e t

-- Jumps if an expression is 0, or if it is not: with its opposite, if it has one, and else past another jump.
abbrev pub jump_code : (want : Bool) → Option Operator → Expr → (to free at : ℕ) → List Instr
jump_code false o e to t at = operand_code e t ++ instr.Jz (operand e t) to ∷ []
jump_code true (Some o) e to t at = opposed_code o e t ++ instr.Jz t to ∷ []
jump_code true None e to t at = operand_code e t ++ instr.Jz (operand e t) (at + length (operand_code e t) + 2) ∷ instr.Jmp to ∷ []

abbrev pub jumps : (want : Bool) → Option Operator → ℕ
jumps false o = 1
jumps true (Some o) = 1
jumps true None = 2

abbrev pub is_zero : Expr → Bool
is_zero (Number z) = is_nought z
is_zero e = false

-- what is only compared with 0: that holds exactly if it is 0
abbrev pub compared : Expr → Option Expr
compared (Two' Equal p a q b) = if is_zero b then Some a else None
compared e = None

abbrev pub holds_size : Option Expr → Expr → (want : Bool) → (free : ℕ) → ℕ
holds_size (Some a) e w t = length (operand_code a t) + jumps (not w) (opposed a)
holds_size None e w t = length (operand_code e t) + jumps w (opposed e)

abbrev pub holds_code : Option Expr → Expr → (want : Bool) → (to free at : ℕ) → List Instr
holds_code (Some a) e w to t at = jump_code (not w) (opposed a) a to t at
holds_code None e w to t at = jump_code w (opposed e) e to t at

abbrev pub test_size : Test → (want : Bool) → (free : ℕ) → ℕ
test_size (Holds e) w t = holds_size (compared e) e w t
test_size (Not' p c) w t = test_size c (not w) t
test_size (Both' p a q b) w t = test_size a false t + test_size b w t
test_size (Either' p a q b) w t = test_size a true t + test_size b w t

-- jumps to `to` if the condition is as wanted, and goes on behind the code if not
abbrev pub test_code : Test → (want : Bool) → (to free at : ℕ) → List Instr
test_code (Holds e) w to t at = holds_code (compared e) e w to t at
test_code (Not' p c) w to t at = test_code c (not w) to t at
test_code (Both' p a q b) w to t at =
    let m = at + test_size a false t in test_code a false (if w then m + test_size b w t else to) t at ++ test_code b w to t m
test_code (Either' p a q b) w to t at =
    let m = at + test_size a true t in test_code a true (if w then to else m + test_size b w t) t at ++ test_code b w to t m

abbrev pub make_instr : Maker → (p a b : ℕ) → Instr
make_instr (Spawn g) p a b = instr.Spawn g p a b
make_instr Post p a b = instr.Post p a b
make_instr (Isolate d) p a b = instr.Isolate d p a b

abbrev pub make_code : Maker → (p : ℕ) → (a b : Expr) → (free : ℕ) → List Instr
make_code m p a b t = both_code a b t ++ make_instr m p (left_of a b t) (right_of a b t) ∷ []

abbrev pub read_instr : (d : ℕ) → Question → Instr
read_instr d Cancelled = instr.Ask d
read_instr d (Cell k) = instr.Load d k
read_instr d (CellSum k) = instr.Sum d k
read_instr d (CellCount k) = instr.Count d k

-- the jump over a side of a choice, if it has code
abbrev pub over_size : (size : ℕ) → ℕ
over_size size = if nat_lt 0 size then 1 else 0

abbrev pub over_code : (size to : ℕ) → List Instr
over_code size to = if nat_lt 0 size then instr.Jmp to ∷ [] else []

abbrev pub stmt_size : Stmt → (free : ℕ) → ℕ
stmt_size Skip t = 0
stmt_size (Then' p a q b) t = stmt_size a t + stmt_size b t
stmt_size (Assign x e) t = length (value_code e x t)
stmt_size (If' c p a q b) t = test_size c false t + stmt_size a t + over_size (stmt_size b t) + stmt_size b t
stmt_size (Loop' c p b q s) t = 1 + (stmt_size b t + stmt_size s t + test_size c true t)
stmt_size (Repeat' c p b q s) t = stmt_size b t + stmt_size s t + test_size c true t
stmt_size (Break k) t = 1
stmt_size (Continue k) t = 1
stmt_size (Return e) t = length (operand_code e t) + 1
stmt_size (Make m p a b) t = length (both_code a b t) + 1
stmt_size (Wait d e g) t = 1
stmt_size (Cancel g) t = 1
stmt_size (Read d q) t = 1
stmt_size (Store k e) t = length (operand_code e t) + 1

-- where the condition of a loop is whose body is at `at`, and what follows the loop
abbrev pub loop_test : (body step : Stmt) → (free at : ℕ) → ℕ
loop_test b s t at = at + stmt_size b t + stmt_size s t

abbrev pub loop_end : Test → (body step : Stmt) → (free at : ℕ) → ℕ
loop_end c b s t at = loop_test b s t at + test_size c true t

-- where `continue` and `break` lead in its body
abbrev pub loop_label : Test → (body step : Stmt) → (free at : ℕ) → Label
loop_label c b s t at = record { next = at + stmt_size b t; after = loop_end c b s t at }

-- where `break` leads, and `continue`: with no loop around, to the end
abbrev pub after_of : Option Label → (ret : ℕ) → ℕ
after_of None ret = ret
after_of (Some l) ret = l.after

abbrev pub next_of : Option Label → (ret : ℕ) → ℕ
next_of None ret = ret
next_of (Some l) ret = l.next

-- a body, a step, and a condition that jumps back to the body
abbrev pub loop_code : (body step test : List Instr) → List Instr
loop_code body step test = body ++ (step ++ test)

-- a statement's code at a place, with the labels of the loops around it, the innermost first, in a function whose end is at `ret`
abbrev pub stmt_code : Stmt → (free at : ℕ) → (labels : List Label) → (ret : ℕ) → List Instr
stmt_code Skip t at labels ret = []
stmt_code (Then' p a q b) t at labels ret = stmt_code a t at labels ret ++ stmt_code b t (at + stmt_size a t) labels ret
stmt_code (Assign x e) t at labels ret = value_code e x t
stmt_code (If' c p a q b) t at labels ret =
    let m = at + test_size c false t in
    let other = m + stmt_size a t + over_size (stmt_size b t) in
    test_code c false other t at ++ (stmt_code a t m labels ret ++ (over_code (stmt_size b t) (other + stmt_size b t) ++ stmt_code b t other labels ret))
stmt_code (Loop' c p b q s) t at labels ret =
    let k = at + 1 in
    instr.Jmp (loop_test b s t k)
    ∷ loop_code (stmt_code b t k (loop_label c b s t k ∷ labels) ret) (stmt_code s t (k + stmt_size b t) labels ret) (test_code c true k t (loop_test b s t k))
stmt_code (Repeat' c p b q s) t at labels ret =
    loop_code (stmt_code b t at (loop_label c b s t at ∷ labels) ret) (stmt_code s t (at + stmt_size b t) labels ret) (test_code c true at t (loop_test b s t at))
stmt_code (Break k) t at labels ret = instr.Jmp (after_of (slice_get labels k) ret) ∷ []
stmt_code (Continue k) t at labels ret = instr.Jmp (next_of (slice_get labels k) ret) ∷ []
stmt_code (Return e) t at labels ret = operand_code e t ++ instr.Ret (operand e t) ∷ []
stmt_code (Make m p a b) t at labels ret = make_code m p a b t
stmt_code (Wait d e g) t at labels ret = instr.Wait (register_for d t) (register_for e t) g ∷ []
stmt_code (Cancel g) t at labels ret = instr.Cancel g ∷ []
stmt_code (Read d q) t at labels ret = read_instr d q ∷ []
stmt_code (Store k e) t at labels ret = operand_code e t ++ instr.Store k (operand e t) ∷ []

-- the body, and then a return of 0
abbrev pub function_code : Function → List Instr
function_code f =
    let end = stmt_size f.body f.variables in stmt_code f.body f.variables 0 [] end ++ (instr.Set 0 (pos 0) ∷ instr.Ret 0 ∷ [])
