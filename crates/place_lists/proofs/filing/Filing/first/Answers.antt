use Rattle.std.proofs.Common.{◌≡◌, ℕ, Option, Some, None, refl, sym, ap, ◌∙◌}
use Rattle.std.specs.Prelude.{IfSome}
use Rattle.place_lists.specs.Lists.{list_in}
use Rattle.place_lists.specs.Filing.{Filing, filed_in}
use Rattle.place_lists.proofs.Filed.{first-in, first-none}
use Rattle.place_lists.proofs.filing.Filing.first.Goals as goal

pub returns-clause-none : goal.returns-clause-none
returns-clause-none c none p here =
    first-none (list_in c.self.inside.lists c.args.list) p (sym c.first.ensures ∙ none) (c.self.invariant.0.held c.args.list p (ap (λ (f : Filing). filed_in f p) c.self.view_is ∙ here))

if_some : (o : Option ℕ) (P : ℕ → Type 0) → ((p : ℕ) → o ≡ Some p → P p) → IfSome o P
if_some None P each = tt
if_some (Some p) P each = each p refl

pub returns-clause-some : goal.returns-clause-some
returns-clause-some c = if_some c.first.result (λ p. filed_in c.args.self.now p ≡ Some c.args.list) (λ p some.
    ap (λ (f : Filing). filed_in f p) (sym c.self.view_is) ∙ c.self.invariant.0.noted c.args.list p (first-in (list_in c.self.inside.lists c.args.list) p (sym c.first.ensures ∙ some)))
