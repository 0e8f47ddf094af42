-- Expressions that have a value whatever the variables are.
use Rattle.std.proofs.Common.{◌≡◌, ◌≢◌, ℕ, zero, suc, ℤ, pos, Bool, false, Some, refl, sym, ap, ap₂, subst, ◌∙◌}
use Rattle.std.specs.Prelude.{Box, slice_index_or, if◌then◌else◌, None}
use Rattle.std.specs.Int.{int_wrapping_div, w64}
use Rattle.std.specs.Prelude.{int_rem}
use Rattle.std.specs.Global.{Global}
use Rattle.source_language.specs.declared.syntax.Expr.{Expr}
use Rattle.source_language.specs.declared.syntax.Expr.TheVariants.{Number, Variable, Slot, Width, Two'}
use Rattle.source_language.specs.declared.syntax.Operator.{Operator}
use Rattle.source_language.specs.declared.syntax.Operator.TheVariants.{Plus, Minus, Times, Over, Remainder, BitAnd, BitOr, BitXor, ShiftLeft, ShiftRight, Below, AtMost, Equal}
use Rattle.source_language.specs.Meaning.{is_nought, result_of, on_both}
use Rattle.kept_values.specs.Given.{HasValue, HasResult, IsDivisor}

pub variable_has : (e : Expr) (x : ℕ) → e ≡ Variable x → HasValue e
variable_has e x is = subst HasValue (sym is) (λ slot width vars. (slice_index_or vars x (pos 0), refl))

pub slot_has : (e : Expr) → e ≡ Slot → HasValue e
slot_has e is = subst HasValue (sym is) (λ slot width vars. (pos slot, refl))

pub width_has : (e : Expr) → e ≡ Width → HasValue e
width_has e is = subst HasValue (sym is) (λ slot width vars. (pos width, refl))

pub two_has : (e : Expr) (op : Operator) (p q : Box (Unit {0}) Global) (a b : Expr) → e ≡ Two' op p a q b → HasValue a → HasValue b → HasResult op b → HasValue e
two_has e op p q a b is one two result = subst HasValue (sym is) (λ slot width vars.
    let x = one slot width vars in
    let y = two slot width vars in
    let z = result slot width vars x.0 y.0 y.1 in
    (z.0, ap₂ (on_both (result_of op)) x.1 y.1 ∙ z.1))

pub total_result : (op : Operator) (b : Expr) → op ≢ Over → op ≢ Remainder → HasResult op b
total_result Plus b h g slot width vars x y is = (_, refl)
total_result Minus b h g slot width vars x y is = (_, refl)
total_result Times b h g slot width vars x y is = (_, refl)
total_result Over b h g slot width vars x y is = absurd (h refl)
total_result Remainder b h g slot width vars x y is = absurd (g refl)
total_result BitAnd b h g slot width vars x y is = (_, refl)
total_result BitOr b h g slot width vars x y is = (_, refl)
total_result BitXor b h g slot width vars x y is = (_, refl)
total_result ShiftLeft b h g slot width vars x y is = (_, refl)
total_result ShiftRight b h g slot width vars x y is = (_, refl)
total_result Below b h g slot width vars x y is = (_, refl)
total_result AtMost b h g slot width vars x y is = (_, refl)
total_result Equal b h g slot width vars x y is = (_, refl)

not_nought : (z : ℤ) → z ≢ pos 0 → is_nought z ≡ false
not_nought (pos zero) h = absurd (h refl)
not_nought (pos (suc n)) h = refl
not_nought z h = refl

some_same : {x y : ℤ} → Some x ≡ Some y → x ≡ y
some_same e = cc

by_divisor : (op : Operator) (x y : ℤ) → is_nought y ≡ false → (z : ℤ) × (result_of op x y ≡ Some z)
by_divisor Plus x y h = (_, refl)
by_divisor Minus x y h = (_, refl)
by_divisor Times x y h = (_, refl)
by_divisor Over x y h = (int_wrapping_div w64 x y, ap (λ (b : Bool). if b then None else Some (int_wrapping_div w64 x y)) h)
by_divisor Remainder x y h = (int_rem x y, ap (λ (b : Bool). if b then None else Some (int_rem x y)) h)
by_divisor BitAnd x y h = (_, refl)
by_divisor BitOr x y h = (_, refl)
by_divisor BitXor x y h = (_, refl)
by_divisor ShiftLeft x y h = (_, refl)
by_divisor ShiftRight x y h = (_, refl)
by_divisor Below x y h = (_, refl)
by_divisor AtMost x y h = (_, refl)
by_divisor Equal x y h = (_, refl)

pub divisor_result : (op : Operator) (b : Expr) → IsDivisor b → HasResult op b
divisor_result op (Number n) h slot width vars x y is = by_divisor op x y (subst (λ k. is_nought k ≡ false) (some_same is) (not_nought n h))
divisor_result op (Variable v) h slot width vars x y is = absurd h
divisor_result op Slot h slot width vars x y is = absurd h
divisor_result op Width h slot width vars x y is = absurd h
divisor_result op (Two' o p a q b) h slot width vars x y is = absurd h
