use Rattle.std.proofs.Common.{rules}
use Rattle.tenant_lock.proofs.Watching.{goes_before, told_open}
use Rattle.tenant_lock.proofs.held.Held.commit.Goals as goal

pub invariant_of-self-2 : goal.invariant_of-self-2
invariant_of-self-2 g c =
    let h = c.self.inside in
    let moved = c.commit-advanced.ensures.moved in (
      record {
        slots = search rules;
        jobs = told_open _ _ _ _ _ _ c.made.ensures.jobs;
        attended = λ goes. c.commit-advanced.ensures.attended (search rules)
            (c.self.invariant.0.attended (goes_before h.is_stopped h.cell c.commit-advanced.new.self _ moved.history moved.config goes));
      },
      search rules,
    )
