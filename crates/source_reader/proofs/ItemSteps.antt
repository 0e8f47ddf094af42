-- One step of reading constants, cells and inline functions.
use Rattle.std.proofs.Common.{◌≡◌, ℕ, zero, suc, ◌-◌, ◌<◌, List, [], false, refl, ap, arith}
use Rattle.source_tokens.specs.declared.tokens.Token.{Token}
use Rattle.source_reader.specs.Names.{Scope}
use Rattle.source_reader.specs.declared.functions.TheConstants.{FUNCTIONS}
use Rattle.source_reader.specs.declared.items.TheConstants.{INLINES}
use Rattle.source_reader.specs.Faults.{◌>>=◌}
use Rattle.source_reader.specs.Gathering.{gatherings_from}
use Rattle.source_reader.specs.Lines.{after_line_ends}
use Rattle.source_reader.specs.Functions.{functions_from}
use Rattle.source_reader.specs.Items.{is_item, is_inline, inline_or_fn, one_inline, inlines_from, item_at, one_item, no_item, items_from}

pub items_none : (n : ℕ) (names : Scope) (ts : List Token) → n ≡ 0 → items_from n names ts ≡ item_at no_item names (after_line_ends ts)
unfolding items_from
items_none zero names ts e = refl
items_none (suc n) names ts e = absurd (omega arith)

pub items_some : (n : ℕ) (names : Scope) (ts : List Token) → 0 < n → items_from n names ts ≡ item_at (one_item (items_from (n - 1))) names (after_line_ends ts)
unfolding items_from
items_some zero names ts h = absurd (omega arith)
items_some (suc n) names ts h =
    let e : n ≡ suc n - 1 = omega arith in
    ap (λ (k : ℕ). item_at (one_item (items_from k)) names (after_line_ends ts)) e

pub items_below : (n : ℕ) (names : Scope) (ts : List Token) → is_item (after_line_ends ts) ≡ false → items_from n names ts ≡ inlines_from INLINES names (after_line_ends ts)
unfolding items_from
items_below zero names ts e = rw e refl
items_below (suc n) names ts e = rw e refl

pub inlines_none : (n : ℕ) (names : Scope) (ts : List Token) → n ≡ 0 → inlines_from n names ts ≡ inline_or_fn no_item names (after_line_ends ts)
unfolding inlines_from
inlines_none zero names ts e = refl
inlines_none (suc n) names ts e = absurd (omega arith)

pub inlines_some : (n : ℕ) (names : Scope) (ts : List Token) → 0 < n → inlines_from n names ts ≡ inline_or_fn (one_inline (inlines_from (n - 1))) names (after_line_ends ts)
unfolding inlines_from
inlines_some zero names ts h = absurd (omega arith)
inlines_some (suc n) names ts h =
    let e : n ≡ suc n - 1 = omega arith in
    ap (λ (k : ℕ). inline_or_fn (one_inline (inlines_from k)) names (after_line_ends ts)) e

pub inlines_below : (n : ℕ) (names : Scope) (ts : List Token)
    → is_inline (after_line_ends ts) ≡ false
    → inlines_from n names ts ≡ (functions_from FUNCTIONS names [] [] (after_line_ends ts) >>= λ fs. gatherings_from names fs (after_line_ends ts))
unfolding inlines_from
inlines_below zero names ts e = rw e refl
inlines_below (suc n) names ts e = rw e refl

pub ruleset inline_steps = (inlines_none, inlines_some, inlines_below)

pub ruleset item_steps = (items_none, items_some, items_below)
