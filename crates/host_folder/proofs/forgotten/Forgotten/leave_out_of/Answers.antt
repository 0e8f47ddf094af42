use Rattle.std.proofs.Common.{rules}
use Rattle.std.proofs.lemmas.Fn.{filter_same}
use Rattle.host_folder.specs.Results.{is_kept}
use Rattle.host_folder.proofs.forgotten.Forgotten.leave_out_of.Goals as goal

pub returns : goal.returns
returns c = filter_same _ (is_kept c.args.self.now) _ (λ x b q called. search rules) _ _ c.retain.ensures.filtered
