use Rattle.std.proofs.Common.{◌==◌, not, rules}
use Rattle.std.proofs.lemmas.Fn.{filter_same}
use Rattle.term_life.proofs.dumps.remove_all.Goals as goal

pub returns : goal.returns
returns c = filter_same _ (λ m. not (m == c.args.number)) _ (λ x b q called. search rules) _ _ c.retain.ensures.filtered
