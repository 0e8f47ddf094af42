use Rattle.std.proofs.Common.{rules}
use Rattle.std.proofs.lemmas.Fn.{filter_same}
use Rattle.term_life.specs.Outcomes.{is_from}
use Rattle.term_life.proofs.outcomes.clear_before.Goals as goal

pub returns : goal.returns
returns c = filter_same _ (is_from c.args.number) _ (λ x b q called. search rules) _ _ c.retain.ensures.filtered
