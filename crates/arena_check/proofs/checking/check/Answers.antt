use Rattle.tenant_model.specs.State.{empty}
use Rattle.arena_check.proofs.checking.check.Goals as goal

pub returns-clause-verdict : goal.returns-clause-verdict
returns-clause-verdict c = c.check_all.ensures.verdict (empty c.args.config) c.in_ok-arena.ensures
