use Rattle.std.proofs.Common.{◌∙◌}
use Rattle.term_life.proofs.Orders.{sole}
use Rattle.term_life.proofs.terms.Terms.owner.Goals as goal

pub returns-clause-sole : goal.returns-clause-sole
returns-clause-sole c = λ k d low is.
    let life = c.args.self.now in
    c.first_owner.ensures.value ∙ sole c.args.job 0 life.terms life.base c.first_owner.ensures.order.0 k d low is
