-- What a function of the source language does: a machine over its variables and what is left to be done, which stops at each shared operation.
use Rattle.std.specs.Prelude.{ℕ, zero, suc, ◌-◌, ◌%◌, ℤ, pos, int_lt, int_le, int_rem, Bool, true, false, not, if◌then◌else◌, List, [], ◌∷◌, slice_index_or, slice_set, replicate, Option, Some, None}
use Rattle.std.specs.Int.{int_wrapping_add, int_wrapping_sub, int_wrapping_mul, int_wrapping_div, int_bit_and, int_bit_or, int_bit_xor, int_shl, int_shr, cast_unsigned, w64}
use Rattle.std.specs.Ordering.{int_eq}
use Rattle.std.specs.Option.{option_map}
use Rattle.source_language.specs.declared.syntax.Operator.{Operator}
use Rattle.source_language.specs.declared.syntax.Operator.TheVariants.{Plus, Minus, Times, Over, Remainder, BitAnd, BitOr, BitXor, ShiftLeft, ShiftRight, Below, AtMost, Equal}
use Rattle.source_language.specs.declared.syntax.Expr.{Expr}
use Rattle.source_language.specs.declared.syntax.Expr.TheVariants.{Number, Variable, Slot, Width, Two'}
use Rattle.source_language.specs.declared.syntax.Test.{Test}
use Rattle.source_language.specs.declared.syntax.Test.TheVariants.{Holds, Not', Both', Either'}
use Rattle.source_language.specs.declared.syntax.Maker.{Maker}
use Rattle.source_language.specs.declared.syntax.Maker.TheVariants.{Spawn, Post, Isolate}
use Rattle.source_language.specs.declared.syntax.Question.{Question}
use Rattle.source_language.specs.declared.syntax.Question.TheVariants.{Cancelled, Cell, CellSum, CellCount}
use Rattle.source_language.specs.declared.syntax.Stmt.{Stmt}
use Rattle.source_language.specs.declared.syntax.Stmt.TheVariants.{Skip, Then', Assign, If', Loop', Repeat', Break, Continue, Return, Make, Wait, Cancel, Read, Store}
use Rattle.source_language.specs.declared.syntax.Function.{Function}

abbrev pub is_nought : ℤ → Bool
is_nought (pos zero) = true
is_nought (pos (suc n)) = false
is_nought z = false

-- by how many bits a number shifts another: its lowest six bits, in two's complement
abbrev pub shift_of : ℤ → ℕ
shift_of z = cast_unsigned w64 z % 64

-- the result of an operator on numbers of 64 bits; there is none for a division by 0
abbrev pub result_of : Operator → ℤ → ℤ → Option ℤ
result_of Plus x y = Some (int_wrapping_add w64 x y)
result_of Minus x y = Some (int_wrapping_sub w64 x y)
result_of Times x y = Some (int_wrapping_mul w64 x y)
result_of Over x y = if is_nought y then None else Some (int_wrapping_div w64 x y)
result_of Remainder x y = if is_nought y then None else Some (int_rem x y)
result_of BitAnd x y = Some (int_bit_and w64 x y)
result_of BitOr x y = Some (int_bit_or w64 x y)
result_of BitXor x y = Some (int_bit_xor w64 x y)
result_of ShiftLeft x y = Some (int_shl w64 x (shift_of y))
result_of ShiftRight x y = Some (int_shr x (shift_of y))
result_of Below x y = Some (if int_lt x y then pos 1 else pos 0)
result_of AtMost x y = Some (if int_le x y then pos 1 else pos 0)
result_of Equal x y = Some (if int_eq x y then pos 1 else pos 0)

abbrev pub on_both : (ℤ → ℤ → Option ℤ) → Option ℤ → Option ℤ → Option ℤ
on_both f None o = None
on_both f (Some x) None = None
on_both f (Some x) (Some y) = f x y

-- the value of an expression, unless it divides by 0
abbrev pub value_of : Expr → (slot width : ℕ) → (vars : List ℤ) → Option ℤ
value_of (Number n) slot width vars = Some n
value_of (Variable x) slot width vars = Some (slice_index_or vars x (pos 0))
value_of Slot slot width vars = Some (pos slot)
value_of Width slot width vars = Some (pos width)
value_of (Two' op p a q b) slot width vars = on_both (result_of op) (value_of a slot width vars) (value_of b slot width vars)

abbrev pub if_true : Option Bool → Option Bool → Option Bool
if_true None o = None
if_true (Some true) o = o
if_true (Some false) o = Some false

abbrev pub if_false : Option Bool → Option Bool → Option Bool
if_false None o = None
if_false (Some true) o = Some true
if_false (Some false) o = o

abbrev pub test_of : Test → (slot width : ℕ) → (vars : List ℤ) → Option Bool
test_of (Holds e) slot width vars = option_map (λ v. not (is_nought v)) (value_of e slot width vars)
test_of (Not' p t) slot width vars = option_map not (test_of t slot width vars)
test_of (Both' p a q b) slot width vars = if_true (test_of a slot width vars) (test_of b slot width vars)
test_of (Either' p a q b) slot width vars = if_false (test_of a slot width vars) (test_of b slot width vars)

-- A shared operation, with the numbers that it is given
pub data Operation : Type 0 where
  Spawns : (group procedure : ℕ) (first second : ℤ) → Operation
  Posts : (procedure : ℕ) (first second : ℤ) → Operation
  Isolates : (procedure : ℕ) (first second : ℤ) → Operation
  Waits : (group : ℕ) → Operation
  Cancels : (group : ℕ) → Operation
  Asks : Operation
  Loads : (key : ℕ) → Operation
  Sums : (key : ℕ) → Operation
  Counts : (key : ℕ) → Operation
  Stores : (key : ℕ) (value : ℤ) → Operation
  Returns : (value : ℤ) → Operation

-- what is left to be done: statements, loops that are at their condition, and loops that are at the end of their body
pub data Todo : Type 0 where
  Do : Stmt → Todo
  Turn : (condition : Test) (body step : Stmt) → Todo
  Next : (condition : Test) (body step : Stmt) → Todo

-- how far a function has come
pub record Point : Type 0 where
  pub vars : List ℤ
  pub todo : List Todo

-- what comes next
pub data Act : Type 0 where
  Goes : Point → Act
  Divides : Act
  Does : Operation → Act

-- the next turn of the loop around k others, or the end
abbrev pub next_turn : List Todo → (k : ℕ) → List Todo
next_turn [] k = []
next_turn (Do s ∷ todo) k = next_turn todo k
next_turn (Turn c b s ∷ todo) k = next_turn todo k
next_turn (Next c b s ∷ todo) zero = Next c b s ∷ todo
next_turn (Next c b s ∷ todo) (suc k) = next_turn todo k

-- what follows the loop around k others
abbrev pub past_loop : List Todo → (k : ℕ) → List Todo
past_loop [] k = []
past_loop (Do s ∷ todo) k = past_loop todo k
past_loop (Turn c b s ∷ todo) k = past_loop todo k
past_loop (Next c b s ∷ todo) zero = todo
past_loop (Next c b s ∷ todo) (suc k) = past_loop todo k

abbrev pub with_value : Option ℤ → (ℤ → Act) → Act
with_value None next = Divides
with_value (Some v) next = next v

abbrev pub with_test : Option Bool → Act → Act → Act
with_test None if_so if_not = Divides
with_test (Some true) if_so if_not = if_so
with_test (Some false) if_so if_not = if_not

abbrev pub goes : List ℤ → List Todo → Act
goes vars todo = Goes (record { vars = vars; todo = todo })

abbrev pub made_by : Maker → (procedure : ℕ) → ℤ → ℤ → Operation
made_by (Spawn g) p x y = Spawns g p x y
made_by Post p x y = Posts p x y
made_by (Isolate d) p x y = Isolates p x y

abbrev pub asked_by : Question → Operation
asked_by Cancelled = Asks
asked_by (Cell k) = Loads k
asked_by (CellSum k) = Sums k
asked_by (CellCount k) = Counts k

-- a statement, and then the rest
abbrev pub act_of : Stmt → (slot width : ℕ) → (vars : List ℤ) → (rest : List Todo) → Act
act_of Skip slot width vars rest = goes vars rest
act_of (Then' p a q b) slot width vars rest = goes vars (Do a ∷ Do b ∷ rest)
act_of (Assign x e) slot width vars rest = with_value (value_of e slot width vars) (λ v. goes (slice_set vars x v) rest)
act_of (If' c p a q b) slot width vars rest = with_test (test_of c slot width vars) (goes vars (Do a ∷ rest)) (goes vars (Do b ∷ rest))
act_of (Loop' c p b q s) slot width vars rest = goes vars (Turn c b s ∷ rest)
act_of (Repeat' c p b q s) slot width vars rest = goes vars (Do b ∷ Next c b s ∷ rest)
act_of (Break k) slot width vars rest = goes vars (past_loop rest k)
act_of (Continue k) slot width vars rest = goes vars (next_turn rest k)
act_of (Return e) slot width vars rest = with_value (value_of e slot width vars) (λ v. Does (Returns v))
act_of (Make m p a b) slot width vars rest = with_value (value_of a slot width vars) (λ x. with_value (value_of b slot width vars) (λ y. Does (made_by m p x y)))
act_of (Wait d e g) slot width vars rest = Does (Waits g)
act_of (Cancel g) slot width vars rest = Does (Cancels g)
act_of (Read d q) slot width vars rest = Does (asked_by q)
act_of (Store k e) slot width vars rest = with_value (value_of e slot width vars) (λ v. Does (Stores k v))

-- A function whose end is reached returns 0.
abbrev pub act_on : (slot width : ℕ) → (vars : List ℤ) → (todo : List Todo) → Act
act_on slot width vars [] = Does (Returns (pos 0))
act_on slot width vars (Do s ∷ rest) = act_of s slot width vars rest
act_on slot width vars (Turn c b s ∷ rest) = with_test (test_of c slot width vars) (goes vars (Do b ∷ Next c b s ∷ rest)) (goes vars rest)
act_on slot width vars (Next c b s ∷ rest) = goes vars (Do s ∷ Turn c b s ∷ rest)

abbrev pub act : (slot width : ℕ) → Point → Act
act slot width p = act_on slot width p.vars p.todo

-- the variables after a number was given to one of them, or to none
abbrev pub put_into : Option ℕ → ℤ → List ℤ → List ℤ
put_into None v vars = vars
put_into (Some d) v vars = slice_set vars d v

-- the variables after an operation that was answered by two numbers, of which most use one or none
abbrev pub vars_answered : Stmt → ℤ → ℤ → List ℤ → List ℤ
vars_answered (Make (Isolate d) p a b) x y vars = slice_set vars d x
vars_answered (Wait d e g) x y vars = put_into e y (put_into d x vars)
vars_answered (Read d q) x y vars = slice_set vars d x
vars_answered s x y vars = vars

abbrev pub answered_on : List ℤ → List Todo → ℤ → ℤ → Point
answered_on vars (Do s ∷ rest) x y = record { vars = vars_answered s x y vars; todo = rest }
answered_on vars todo x y = record { vars = vars; todo = todo }

-- where a function goes on after a shared operation
abbrev pub answered : Point → ℤ → ℤ → Point
answered p x y = answered_on p.vars p.todo x y

-- a function at its start, with its two arguments
abbrev pub start : Function → ℤ → ℤ → Point
start f x y = record { vars = x ∷ y ∷ replicate (f.variables - 2) (pos 0); todo = Do f.body ∷ [] }
