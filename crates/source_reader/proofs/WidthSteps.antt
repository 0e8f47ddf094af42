-- One step of finding the widths of parameters.
use Rattle.std.proofs.Common.{◌≡◌, ℕ, zero, suc, ◌-◌, ◌<◌, List, drop, refl, ap, arith}
use Rattle.source_tokens.specs.declared.tokens.Token.{Token}
use Rattle.source_reader.specs.Widths.{width_or_none, one_width, widths_from}

pub widths_none : (left : ℕ) (before : List ℕ) (ts : List Token) → left ≡ 0 → widths_from left before ts ≡ before
unfolding widths_from
widths_none zero before ts e = refl
widths_none (suc left) before ts e = absurd (omega arith)

pub widths_some : (left : ℕ) (before : List ℕ) (ts : List Token) → 0 < left →
    widths_from left before ts ≡ one_width (widths_from (left - 1)) before (width_or_none (drop 1 ts))
unfolding widths_from
widths_some zero before ts h = absurd (omega arith)
widths_some (suc left) before ts h =
    let e : left ≡ suc left - 1 = omega arith in
    ap (λ (k : ℕ). one_width (widths_from k) before (width_or_none (drop 1 ts))) e

pub ruleset width_steps = (widths_none, widths_some)
