use Rattle.std.proofs.Common.{subst, sym}
use Rattle.term_life.specs.Lives.{Follow}
use Rattle.term_life.proofs.Orders.{closing_follow}
use Rattle.term_life.proofs.terms.Terms.close.Goals as goal

pub invariant_of-self : goal.invariant_of-self
invariant_of-self c =
    let before = c.self.invariant in
    (subst (λ ts. Follow 0 ts c.self.inside.base) (sym c.close_all.ensures) (closing_follow c.args.number 0 c.self.inside.terms.items c.self.inside.base before.0), before.1)
