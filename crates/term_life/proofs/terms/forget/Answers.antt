use Rattle.std.proofs.Common.{not, rules}
use Rattle.std.proofs.lemmas.Fn.{filter_same}
use Rattle.term_life.specs.Lives.{has_number}
use Rattle.term_life.proofs.terms.forget.Goals as goal

pub returns : goal.returns
returns c = filter_same _ (λ t. not (has_number c.args.number t)) _ (λ x b q called. search rules) _ _ c.retain.ensures.filtered
