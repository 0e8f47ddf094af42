-- One step of reading functions.
use Rattle.std.proofs.Common.{◌≡◌, ℕ, zero, suc, ◌-◌, ◌<◌, List, [], Option, Ok, refl, ap, arith}
use Rattle.source_tokens.specs.declared.tokens.Token.{Token}
use Rattle.source_reader.specs.Names.{Scope}
use Rattle.source_reader.specs.Trees.{FunctionTree}
use Rattle.source_reader.specs.Lines.{after_line_ends}
use Rattle.source_reader.specs.Functions.{one_more, no_more, functions_from}

pub functions_none : (n : ℕ) (names : Scope) (known : List (Option ℕ)) (before : List FunctionTree) (ts : List Token) → n ≡ 0 →
    functions_from n names known before ts ≡ no_more before (after_line_ends ts)
unfolding functions_from
functions_none zero names known before ts e = refl
functions_none (suc n) names known before ts e = absurd (omega arith)

pub functions_some : (n : ℕ) (names : Scope) (known : List (Option ℕ)) (before : List FunctionTree) (ts : List Token)
    → 0 < n → functions_from n names known before ts ≡ one_more (functions_from (n - 1) names) names known before (after_line_ends ts)
unfolding functions_from
functions_some zero names known before ts h = absurd (omega arith)
functions_some (suc n) names known before ts h =
    let e : n ≡ suc n - 1 = omega arith in
    ap (λ (k : ℕ). one_more (functions_from k names) names known before (after_line_ends ts)) e

pub functions_empty : (n : ℕ) (names : Scope) (known : List (Option ℕ)) (before : List FunctionTree) (ts : List Token)
    → after_line_ends ts ≡ [] → functions_from n names known before ts ≡ Ok before
unfolding functions_from
functions_empty zero names known before ts e = rw e refl
functions_empty (suc n) names known before ts e = rw e refl

pub ruleset function_steps = (functions_none, functions_some, functions_empty)
