-- A function whose code is a procedure keeps to the virtual registers.
use Rattle.std.proofs.Common.{ℕ, suc, ◌+◌, ◌<◌, Bool, true, false, not, if◌then◌else◌, List, [], ◌∷◌, ◌++◌, length, Option, Some, None, Box, Global, arith, All}
use Rattle.std.specs.List.{AllByRecursion}
use Rattle.job_language.specs.declared.instructions.Instr.{Instr}
use Rattle.job_language.specs.Program.{IsInRange, IsValidProc}
use Rattle.source_language.specs.declared.syntax.Operator.{Operator}
use Rattle.source_language.specs.declared.syntax.Operator.TheVariants.{Plus, Minus, Times, Over, Remainder, BitAnd, BitOr, BitXor, ShiftLeft, ShiftRight, Below, AtMost, Equal}
use Rattle.source_language.specs.declared.syntax.Expr.{Expr}
use Rattle.source_language.specs.declared.syntax.Expr.TheVariants.{Number, Variable, Slot, Width, Two'}
use Rattle.source_language.specs.declared.syntax.Test.{Test}
use Rattle.source_language.specs.declared.syntax.Test.TheVariants.{Holds, Not', Both', Either'}
use Rattle.source_language.specs.declared.syntax.Maker.{Maker}
use Rattle.source_language.specs.declared.syntax.Maker.TheVariants.{Spawn, Post, Isolate}
use Rattle.source_language.specs.declared.syntax.Question.{Question}
use Rattle.source_language.specs.declared.syntax.Question.TheVariants.{Cancelled, Cell, CellSum, CellCount}
use Rattle.source_language.specs.declared.syntax.Stmt.{Stmt}
use Rattle.source_language.specs.declared.syntax.Stmt.TheVariants.{Skip, Then', Assign, If', Loop', Repeat', Break, Continue, Return, Make, Wait, Cancel, Read, Store}
use Rattle.source_language.specs.declared.syntax.Function.{Function}
use Rattle.job_compiler.specs.declared.labels.Label.{Label}
use Rattle.job_compiler.specs.Code.{op_instr, operand, above, is_right_first, left_free, right_free, in_order, register_for}
use Rattle.job_compiler.specs.Code.{operand_code, value_code, both_code, left_of, right_of, opposed, opposed_code}
use Rattle.job_compiler.specs.Code.{jump_code, compared, holds_code, over_size, over_code, test_size}
use Rattle.job_compiler.specs.Code.{test_code, make_instr}
use Rattle.job_compiler.specs.Code.{read_instr, stmt_size, stmt_code, loop_test}
use Rattle.job_compiler.specs.Code.{loop_label, function_code}
use Rattle.job_compiler.specs.Registers.{IsOperandLow, AreBothLow, IsValueLow, IsHeldLow, IsTestLow, IsMakerLow, IsStmtLow, FitsVirtualRegisters}

pub all_of : {X : Type 0} (P : X → Type 0) (xs : List X) → All P xs → AllByRecursion P xs
all_of P [] h = tt
all_of P (x ∷ xs) h = (h 0 x (omega arith), all_of P xs (λ k d low. h (suc k) d (omega (arith, low))))

module _ (len : ℕ) where
  abbrev Good : List Instr → Type 0
  Good code = AllByRecursion (IsInRange len) code

  front : (a b : List Instr) → Good (a ++ b) → Good a
  front [] b h = tt
  front (i ∷ a) b h = (h.0, front a b h.1)

  back : (a b : List Instr) → Good (a ++ b) → Good b
  back [] b h = h
  back (i ∷ a) b h = back a b h.1

  up : (x : ℕ) → x < 8 → x < 255
  up x low = omega (arith, low)

  op_low : (op : Operator) (d a b : ℕ) → Good (op_instr op d a b ∷ []) → (d < 8) × (a < 8) × (b < 8)
  op_low Plus d a b h = h.0
  op_low Minus d a b h = h.0
  op_low Times d a b h = h.0
  op_low Over d a b h = h.0
  op_low Remainder d a b h = h.0
  op_low Below d a b h = h.0
  op_low BitAnd d a b h = h.0
  op_low BitOr d a b h = h.0
  op_low BitXor d a b h = h.0
  op_low ShiftLeft d a b h = h.0
  op_low ShiftRight d a b h = h.0
  op_low AtMost d a b h = h.0
  op_low Equal d a b h = h.0

  abbrev Low : Expr → Type 0
  Low e = (t : ℕ) → Good (operand_code e t) → operand e t < 8 → IsOperandLow 255 e t

  in_order_low : (right_first : Bool) (a b : Expr) (t : ℕ) → Low a → Low b → Good (in_order right_first (operand_code a (left_free right_first b t)) (operand_code b (right_free right_first a t)))
      → operand a (left_free right_first b t) < 8 → operand b (right_free right_first a t) < 8
      → IsOperandLow 255 a (left_free right_first b t) × IsOperandLow 255 b (right_free right_first a t)
  in_order_low false a b t la lb h ra rb = let ca = operand_code a t in (la t (front ca _ h) ra, lb (above a t) (back ca _ h) rb)
  in_order_low true a b t la lb h ra rb = let cb = operand_code b t in (la (above b t) (back cb _ h) ra, lb t (front cb _ h) rb)

  operand_low : (e : Expr) → Low e
  operand_low (Number z) t h low = up t low
  operand_low (Variable x) t h low = up x low
  operand_low Slot t h low = up t low
  operand_low Width t h low = up t low
  operand_low (Two' op p a q b) t h low =
      let code = both_code a b t in
      let o = op_low op t (left_of a b t) (right_of a b t) (back code _ h) in
      let both = in_order_low (is_right_first a b) a b t (operand_low a) (operand_low b) (front code _ h) o.1 o.2 in
      (both.0, both.1, up t low)

  both_low : (a b : Expr) (t : ℕ) → Good (both_code a b t) → left_of a b t < 8 → right_of a b t < 8 → AreBothLow 255 a b t
  both_low a b t h ra rb = in_order_low (is_right_first a b) a b t (operand_low a) (operand_low b) h ra rb

  value_low : (e : Expr) (d t : ℕ) → Good (value_code e d t) → (d < 255) × IsValueLow 255 e t
  value_low (Number z) d t h = (up d h.0.0, tt)
  value_low (Variable x) d t h = (up d h.0.0, up x h.0.1)
  value_low Slot d t h = (up d h.0, tt)
  value_low Width d t h = (up d h.0, tt)
  value_low (Two' op p a q b) d t h =
      let code = both_code a b t in
      let o = op_low op d (left_of a b t) (right_of a b t) (back code _ h) in
      (up d o.0, both_low a b t (front code _ h) o.1 o.2)

  past_low : (e : Expr) (to t at : ℕ) → Good (jump_code true None e to t at) → IsOperandLow 255 e t
  past_low e to t at h = let ce = operand_code e t in operand_low e t (front ce _ h) (back ce _ h).0.0

  two_low : (o : Option Operator) (op : Operator) (p : Box (Unit {0}) Global) (a : Expr) (q : Box (Unit {0}) Global) (b : Expr) (to t at : ℕ) → Good (jump_code true o (Two' op p a q b) to t at)
      → IsOperandLow 255 (Two' op p a q b) t
  two_low None op p a q b to t at h = past_low (Two' op p a q b) to t at h
  two_low (Some o) op p a q b to t at h =
      let code = both_code a b t in
      let all = front (opposed_code o (Two' op p a q b) t) _ h in
      let r = op_low o t (right_of a b t) (left_of a b t) (back code _ all) in
      let both = both_low a b t (front code _ all) r.2 r.1 in
      (both.0, both.1, up t r.0)

  so_low : (e : Expr) (to t at : ℕ) → Good (jump_code true (opposed e) e to t at) → IsOperandLow 255 e t
  so_low (Number z) to t at h = past_low (Number z) to t at h
  so_low (Variable x) to t at h = past_low (Variable x) to t at h
  so_low Slot to t at h = past_low Slot to t at h
  so_low Width to t at h = past_low Width to t at h
  so_low (Two' op p a q b) to t at h = two_low (opposed (Two' op p a q b)) op p a q b to t at h

  jump_low : (e : Expr) (w : Bool) (to t at : ℕ) → Good (jump_code w (opposed e) e to t at) → IsOperandLow 255 e t
  jump_low e true to t at h = so_low e to t at h
  jump_low e false to t at h = let ce = operand_code e t in operand_low e t (front ce _ h) (back ce _ h).0.0

  held_low : (o : Option Expr) (e : Expr) (w : Bool) (to t at : ℕ) → Good (holds_code o e w to t at) → IsHeldLow 255 o e t
  held_low (Some a) e w to t at h = jump_low a (not w) to t at h
  held_low None e w to t at h = jump_low e w to t at h

  test_low : (c : Test) (w : Bool) (to t at : ℕ) → Good (test_code c w to t at) → IsTestLow 255 c t
  test_low (Holds e) w to t at h = held_low (compared e) e w to t at h
  test_low (Not' p c) w to t at h = test_low c (not w) to t at h
  test_low (Both' p a q b) w to t at h =
      let m = at + test_size a false t in
      let ta = if w then m + test_size b w t else to in
      let ca = test_code a false ta t at in
      (test_low a false ta t at (front ca _ h), test_low b w to t m (back ca _ h))
  test_low (Either' p a q b) w to t at h =
      let m = at + test_size a true t in
      let ta = if w then to else m + test_size b w t in
      let ca = test_code a true ta t at in
      (test_low a true ta t at (front ca _ h), test_low b w to t m (back ca _ h))

  make_low : (m : Maker) (p a b : ℕ) → IsInRange len (make_instr m p a b) → IsMakerLow 255 m × (a < 8) × (b < 8)
  make_low (Spawn g) p a b h = (tt, h.1, h.2)
  make_low Post p a b h = (tt, h.0, h.1)
  make_low (Isolate d) p a b h = (up d h.0, h.1, h.2)

  read_low : (d : ℕ) (q : Question) → IsInRange len (read_instr d q) → d < 255
  read_low d Cancelled h = up d h
  read_low d (Cell k) h = up d h.0
  read_low d (CellSum k) h = up d h.0
  read_low d (CellCount k) h = up d h.0

  stmt_low : (s : Stmt) (t at : ℕ) (labels : List Label) (ret : ℕ) → Good (stmt_code s t at labels ret) → IsStmtLow 255 s t
  stmt_low Skip t at labels ret h = tt
  stmt_low (Then' p a q b) t at labels ret h =
      let ca = stmt_code a t at labels ret in
      (stmt_low a t at labels ret (front ca _ h), stmt_low b t (at + stmt_size a t) labels ret (back ca _ h))
  stmt_low (Assign x e) t at labels ret h = value_low e x t h
  stmt_low (If' c p a q b) t at labels ret h =
      let m = at + test_size c false t in
      let other = m + stmt_size a t + over_size (stmt_size b t) in
      let ct = test_code c false other t at in
      let ca = stmt_code a t m labels ret in
      let h2 = back ct _ h in (
        test_low c false other t at (front ct _ h),
        stmt_low a t m labels ret (front ca _ h2),
        stmt_low b t other labels ret (back (over_code (stmt_size b t) (other + stmt_size b t)) _ (back ca _ h2)),
      )
  stmt_low (Loop' c p b q s) t at labels ret h =
      let k = at + 1 in
      let cb = stmt_code b t k (loop_label c b s t k ∷ labels) ret in
      let cs = stmt_code s t (k + stmt_size b t) labels ret in
      let h2 = back cb _ h.1 in
      (test_low c true k t (loop_test b s t k) (back cs _ h2), stmt_low b t k (loop_label c b s t k ∷ labels) ret (front cb _ h.1), stmt_low s t (k + stmt_size b t) labels ret (front cs _ h2))
  stmt_low (Repeat' c p b q s) t at labels ret h =
      let cb = stmt_code b t at (loop_label c b s t at ∷ labels) ret in
      let cs = stmt_code s t (at + stmt_size b t) labels ret in
      let h2 = back cb _ h in
      (test_low c true at t (loop_test b s t at) (back cs _ h2), stmt_low b t at (loop_label c b s t at ∷ labels) ret (front cb _ h), stmt_low s t (at + stmt_size b t) labels ret (front cs _ h2))
  stmt_low (Break k) t at labels ret h = tt
  stmt_low (Continue k) t at labels ret h = tt
  stmt_low (Return e) t at labels ret h = let ce = operand_code e t in operand_low e t (front ce _ h) (back ce _ h).0
  stmt_low (Make m p a b) t at labels ret h =
      let code = both_code a b t in
      let r = make_low m p (left_of a b t) (right_of a b t) (back code _ h).0 in
      (r.0, both_low a b t (front code _ h) r.1 r.2)
  stmt_low (Wait d e g) t at labels ret h = (up (register_for d t) h.0.0, up (register_for e t) h.0.1)
  stmt_low (Cancel g) t at labels ret h = tt
  stmt_low (Read d q) t at labels ret h = read_low d q h.0
  stmt_low (Store k e) t at labels ret h = let ce = operand_code e t in operand_low e t (front ce _ h) (back ce _ h).0.1

pub valid_is_low : (f : Function) → IsValidProc (function_code f) → FitsVirtualRegisters f
valid_is_low f valid =
    let end = stmt_size f.body f.variables in
    let code = stmt_code f.body f.variables 0 [] end in
    stmt_low (length (function_code f)) f.body f.variables 0 [] end (front (length (function_code f)) code _ (all_of (IsInRange (length (function_code f))) (function_code f) valid.each))
