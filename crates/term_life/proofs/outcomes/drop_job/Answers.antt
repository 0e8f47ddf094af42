use Rattle.std.proofs.Common.{not, rules}
use Rattle.std.proofs.lemmas.Fn.{filter_same}
use Rattle.term_life.specs.Outcomes.{is_of}
use Rattle.term_life.proofs.outcomes.drop_job.Goals as goal

pub returns : goal.returns
returns c = filter_same _ (λ o. not (is_of c.args.job o)) _ (λ x b q called. search rules) _ _ c.retain.ensures.filtered
