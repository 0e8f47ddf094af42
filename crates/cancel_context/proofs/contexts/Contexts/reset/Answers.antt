use Rattle.std.proofs.Common.{false, sym, ap, ◌∙◌}
use Rattle.cancel_context.specs.Forest.{is_cancelled}
use Rattle.cancel_context.proofs.Requests.{is_cancelled-elsewhere, is_cancelled-taken_back}
use Rattle.cancel_context.proofs.contexts.Contexts.reset.Goals as goal

pub returns-clause-others : goal.returns-clause-others
returns-clause-others c d out = ap (λ forest. is_cancelled forest d) c.set_request.ensures.set ∙ is_cancelled-elsewhere c.args.self.now c.args.context false c.requires d out

pub returns-clause-no_more : goal.returns-clause-no_more
returns-clause-no_more c d cancelled = is_cancelled-taken_back c.args.self.now c.args.context c.requires d (ap (λ forest. is_cancelled forest d) (sym c.set_request.ensures.set) ∙ cancelled)
