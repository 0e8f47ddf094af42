-- The values of expressions fit 64 bits.
use Rattle.std.proofs.Common.{ℕ, ◌<◌, ◌^◌, zero, suc, ℤ, pos, negsuc, Bool, true, false, if◌then◌else◌, List, get_or, Option, Some, None, arith, FitsSigned}
use Rattle.std.specs.Prelude.{int_lt, int_le}
use Rattle.std.specs.Int.{cast_signed, w64}
use Rattle.std.specs.Ordering.{int_eq}
use borrow.Author.Differences.{fits_in, read_fits}
use Rattle.source_language.specs.declared.syntax.Operator.{Operator}
use Rattle.source_language.specs.declared.syntax.Operator.TheVariants.{Plus, Minus, Times, Over, Remainder, BitAnd, BitOr, BitXor, ShiftLeft, ShiftRight, Below, AtMost, Equal}
use Rattle.source_language.specs.declared.syntax.Expr.{Expr}
use Rattle.source_language.specs.declared.syntax.Expr.TheVariants.{Number, Variable, Slot, Width, Two'}
use Rattle.source_language.specs.Meaning.{shift_of, result_of, on_both, value_of}
use Rattle.job_compiler.specs.Within.{IsWithin}
use Rattle.job_compiler.proofs.Numbers.{small_fits, remainder_fits, shifted_fits}

abbrev pub FitsIf : Option ℤ → Type 0
FitsIf None = Unit {0}
FitsIf (Some v) = FitsSigned w64 v

bit_fits : (b : Bool) → FitsSigned w64 (if b then pos 1 else pos 0)
bit_fits true = small_fits 1 (omega arith)
bit_fits false = small_fits 0 (omega arith)

pub wrapped_fits : (n : ℕ) → FitsSigned w64 (cast_signed w64 n)
wrapped_fits n = omega (arith, fits_in, read_fits w64 n)

result_fits : (op : Operator) (x y : ℤ) → FitsSigned w64 x → FitsSigned w64 y → FitsIf (result_of op x y)
result_fits Plus x y fx fy = wrapped_fits _
result_fits Minus x y fx fy = wrapped_fits _
result_fits Times x y fx fy = wrapped_fits _
result_fits Over x (pos zero) fx fy = tt
result_fits Over x (pos (suc n)) fx fy = wrapped_fits _
result_fits Over x (negsuc n) fx fy = wrapped_fits _
result_fits Remainder x (pos zero) fx fy = tt
result_fits Remainder x (pos (suc n)) fx fy = remainder_fits x (pos (suc n)) fy (omega arith)
result_fits Remainder x (negsuc n) fx fy = remainder_fits x (negsuc n) fy (omega arith)
result_fits BitAnd x y fx fy = wrapped_fits _
result_fits BitOr x y fx fy = wrapped_fits _
result_fits BitXor x y fx fy = wrapped_fits _
result_fits ShiftLeft x y fx fy = wrapped_fits _
result_fits ShiftRight x y fx fy = shifted_fits x (shift_of y) fx
result_fits Below x y fx fy = bit_fits (int_lt x y)
result_fits AtMost x y fx fy = bit_fits (int_le x y)
result_fits Equal x y fx fy = bit_fits (int_eq x y)

both_fit : (op : Operator) (oa ob : Option ℤ) → FitsIf oa → FitsIf ob → FitsIf (on_both (result_of op) oa ob)
both_fit op None ob fx fy = tt
both_fit op (Some x) None fx fy = tt
both_fit op (Some x) (Some y) fx fy = result_fits op x y fx fy

pub value_fits : (e : Expr) (n slot width : ℕ) (vars : List ℤ) → slot < 2 ^ 8 → width < 2 ^ 8 → IsWithin n e →
    ((x : ℕ) → FitsSigned w64 (get_or vars x (pos 0))) → FitsIf (value_of e slot width vars)
value_fits (Number z) n slot width vars ls lw h fit = h
value_fits (Variable x) n slot width vars ls lw h fit = fit x
value_fits Slot n slot width vars ls lw h fit = small_fits slot (omega (arith, ls))
value_fits Width n slot width vars ls lw h fit = small_fits width (omega (arith, lw))
value_fits (Two' op p a q b) n slot width vars ls lw h fit =
    both_fit op (value_of a slot width vars) (value_of b slot width vars) (value_fits a n slot width vars ls lw h.0 fit) (value_fits b n slot width vars ls lw h.1 fit)
