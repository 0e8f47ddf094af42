use Rattle.std.proofs.Common.{subst, sym, not}
use Rattle.term_life.specs.Lives.{Follow, has_number}
use Rattle.term_life.proofs.Orders.{filtered}
use Rattle.term_life.proofs.terms.Terms.end.Goals as goal

pub invariant_of-self : goal.invariant_of-self
invariant_of-self c =
    let before = c.self.invariant in
    (subst (λ ts. Follow 0 ts c.self.inside.base) (sym c.forget.ensures) (filtered (λ t. not (has_number c.args.number t)) 0 c.self.inside.terms.items c.self.inside.base before.0), before.1)
