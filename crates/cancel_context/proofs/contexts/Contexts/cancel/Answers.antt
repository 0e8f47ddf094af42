use Rattle.std.proofs.Common.{ap, ◌∙◌}
use Rattle.cancel_context.specs.Forest.{is_cancelled}
use Rattle.cancel_context.proofs.Requests.{is_cancelled-with_request}
use Rattle.cancel_context.proofs.contexts.Contexts.cancel.Goals as goal

pub returns-clause-reaches : goal.returns-clause-reaches
returns-clause-reaches c d = ap (λ forest. is_cancelled forest d) c.set_request.ensures.set ∙ is_cancelled-with_request c.args.self.now c.args.context c.requires d
