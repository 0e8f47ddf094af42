-- Only one reason holds, and none if the function compiles.
use Rattle.std.proofs.Common.{Bool, true, false, ◌≡◌, ◌↔◌, Result, Ok, Err, refl, ap, subst, arith}
use Rattle.source_language.specs.declared.syntax.Function.{Function}
use Rattle.job_compiler.specs.declared.errors.Refusal.{Refusal}
use Rattle.job_compiler.specs.declared.errors.Refusal.TheVariants.{NoFunction, TooManyValues, TooLong, TooManyRegisters}
use Rattle.job_compiler.specs.Refusals.{HasCode, Compiles, IsRefused}
use Rattle.job_compiler.proofs.FewRegisters.{valid_is_low}

one_reason : (f : Function) (r e : Refusal) → IsRefused f r → IsRefused f e → r ≡ e
one_reason f NoFunction NoFunction h g = refl
one_reason f NoFunction TooManyValues h g = absurd (h g.0)
one_reason f NoFunction TooLong h g = absurd (h g.0)
one_reason f NoFunction TooManyRegisters h g = absurd (h g.0.function)
one_reason f TooManyValues NoFunction h g = absurd (g h.0)
one_reason f TooManyValues TooManyValues h g = refl
one_reason f TooManyValues TooLong h g = absurd (h.1 g.1)
one_reason f TooManyValues TooManyRegisters h g = absurd (h.1 g.0.values)
one_reason f TooLong NoFunction h g = absurd (g h.0)
one_reason f TooLong TooManyValues h g = absurd (g.1 h.1)
one_reason f TooLong TooLong h g = refl
one_reason f TooLong TooManyRegisters h g = absurd (omega (arith, h.2, g.0.short))
one_reason f TooManyRegisters NoFunction h g = absurd (g h.0.function)
one_reason f TooManyRegisters TooManyValues h g = absurd (g.1 h.0.values)
one_reason f TooManyRegisters TooLong h g = absurd (omega (arith, g.2, h.0.short))
one_reason f TooManyRegisters TooManyRegisters h g = refl

pub has_code : (f : Function) → Compiles f → HasCode f
has_code f h = record { function = h.function; values = valid_is_low f h.valid; short = h.valid.most }

pub not_refused : (f : Function) (e : Refusal) → Compiles f → IsRefused f e → ⊥
not_refused f NoFunction h g = g h.function
not_refused f TooManyValues h g = g.1 (has_code f h).values
not_refused f TooLong h g = omega (arith, g.2, h.valid.most)
not_refused f TooManyRegisters h g = g.1 h.valid

pub refused_exactly : {A : Type 0} (f : Function) (r : Refusal) → IsRefused f r → (e : Refusal) → ◌≡◌ {A = Result A Refusal} (Err r) (Err e) ↔ IsRefused f e
refused_exactly f r h e = (λ is. let same : r ≡ e = cc in subst (IsRefused f) same h, λ g. ap Err (one_reason f r e h g))

pub accepted_exactly : {A : Type 0} (f : Function) (a : A) → Compiles f → (e : Refusal) → ◌≡◌ {A = Result A Refusal} (Ok a) (Err e) ↔ IsRefused f e
accepted_exactly f a h e = (λ is. cc, λ g. absurd (not_refused f e h g))

pub refused_all : (f : Function) (r : Refusal) → IsRefused f r → (◌≡◌ {A = Bool} false true → Compiles f) × (Compiles f → ◌≡◌ {A = Bool} false true)
refused_all f r h = (λ never. cc, λ good. absurd (not_refused f r good h))
