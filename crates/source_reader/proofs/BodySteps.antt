-- One step of reading the parameters of a function.
use Rattle.std.proofs.Common.{◌≡◌, ℕ, zero, suc, ◌-◌, ◌<◌, Bool, List, Err, refl, ap, arith}
use Rattle.source_tokens.specs.declared.tokens.Token.{Token}
use Rattle.source_reader.specs.declared.faults.Wrong.TheVariants as wrong
use Rattle.source_reader.specs.declared.layouts.Taken.{Taken}
use Rattle.source_reader.specs.Names.{Scope}
use Rattle.source_reader.specs.Faults.{fault_at}
use Rattle.source_reader.specs.Bodies.{one_parameter, parameters_from}

pub body_none : (left : ℕ) (root : Bool) (names : Scope) (v : ℕ) (t : Taken) (ts : List Token) → left ≡ 0 →
    parameters_from left root names v t ts ≡ Err (fault_at ts wrong.TooManyParameters)
unfolding parameters_from
body_none zero root names v t ts e = refl
body_none (suc left) root names v t ts e = absurd (omega arith)

pub body_some : (left : ℕ) (root : Bool) (names : Scope) (v : ℕ) (t : Taken) (ts : List Token) → 0 < left →
    parameters_from left root names v t ts ≡ one_parameter (parameters_from (left - 1) root) root names v t ts
unfolding parameters_from
body_some zero root names v t ts h = absurd (omega arith)
body_some (suc left) root names v t ts h =
    let e : left ≡ suc left - 1 = omega arith in
    ap (λ (k : ℕ). one_parameter (parameters_from k root) root names v t ts) e

pub ruleset body_steps = (body_none, body_some)
