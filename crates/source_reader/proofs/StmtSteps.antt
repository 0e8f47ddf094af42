-- One step of reading statements.
use Rattle.std.proofs.Common.{◌≡◌, ℕ, zero, suc, ◌-◌, ◌<◌, List, Err, refl, ap, arith}
use Rattle.source_tokens.specs.declared.tokens.Token.{Token}
use Rattle.source_reader.specs.declared.faults.Wrong.TheVariants as wrong
use Rattle.source_reader.specs.Names.{Scope}
use Rattle.source_reader.specs.Faults.{fault_at}
use Rattle.source_reader.specs.Statements.{Part, stmt_step, stmt_at}

pub stmt_none : (n : ℕ) (names : Scope) (p : Part) (ts : List Token) → n ≡ 0 → stmt_at n names p ts ≡ Err (fault_at ts wrong.TooLong)
unfolding stmt_at
stmt_none zero names p ts e = refl
stmt_none (suc n) names p ts e = absurd (omega arith)

pub stmt_some : (n : ℕ) (names : Scope) (p : Part) (ts : List Token) → 0 < n → stmt_at n names p ts ≡ stmt_step (stmt_at (n - 1)) names p ts
unfolding stmt_at
stmt_some zero names p ts h = absurd (omega arith)
stmt_some (suc n) names p ts h =
    let e : n ≡ suc n - 1 = omega arith in
    ap (λ (k : ℕ). stmt_step (stmt_at k) names p ts) e

pub ruleset stmt_steps = (stmt_none, stmt_some)
