-- One step of reading the parameters of an inline function.
use Rattle.std.proofs.Common.{◌≡◌, ℕ, zero, suc, ◌-◌, ◌<◌, List, Err, refl, ap, arith}
use Rattle.source_tokens.specs.declared.tokens.Token.{Token}
use Rattle.source_reader.specs.declared.faults.Wrong.TheVariants as wrong
use Rattle.source_reader.specs.Names.{Scope}
use Rattle.source_reader.specs.Faults.{fault_at}
use Rattle.source_reader.specs.Parameters.{one_parameter, parameters_from}

pub parameters_none : (left : ℕ) (names : Scope) (n : ℕ) (ts : List Token) → left ≡ 0 → parameters_from left names n ts ≡ Err (fault_at ts wrong.TooLong)
unfolding parameters_from
parameters_none zero names n ts e = refl
parameters_none (suc left) names n ts e = absurd (omega arith)

pub parameters_some : (left : ℕ) (names : Scope) (n : ℕ) (ts : List Token) → 0 < left → parameters_from left names n ts ≡ one_parameter (parameters_from (left - 1)) names n ts
unfolding parameters_from
parameters_some zero names n ts h = absurd (omega arith)
parameters_some (suc left) names n ts h =
    let e : left ≡ suc left - 1 = omega arith in
    ap (λ (k : ℕ). one_parameter (parameters_from k) names n ts) e

pub ruleset parameter_steps = (parameters_none, parameters_some)
