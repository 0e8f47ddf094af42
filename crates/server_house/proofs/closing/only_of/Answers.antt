use Rattle.std.proofs.Common.{rules}
use Rattle.std.proofs.lemmas.Fn.{filter_same}
use Rattle.server_house.specs.Houses.{is_of}
use Rattle.server_house.proofs.closing.only_of.Goals as goal

pub returns : goal.returns
returns c = filter_same _ (is_of c.args.tenant) _ (λ x b q called. search rules) _ _ c.retain.ensures.filtered
