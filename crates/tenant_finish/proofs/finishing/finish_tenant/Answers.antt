use Rattle.std.proofs.Common.{sym, subst}
use Rattle.job_language.specs.Tenant.{IsValidTenant}
use Rattle.tenant_finish.proofs.Finished.{done_at_rest, still_workers}
use Rattle.tenant_finish.proofs.finishing.finish_tenant.Goals as goal
use Rattle.tenant_record.specs.History.{steps_of}
use Rattle.tenant_record.specs.Replayed.{state_of}

pub returns : goal.returns
returns c =
    let old = c.args.replay.now in
    let new = c.finish.new.replay in
    let is = c.history.ensures.right in
    let goes = c.finish.ensures.goes in
    let law = c.quiet_tenants_are_done.ensures in
    let valid : IsValidTenant new.config = subst IsValidTenant (sym goes.config) c.config.ensures.valid in
    record {
      goes = goes;
      right = is;
      done = λ workers. done_at_rest (state_of new) (law.none_live new.config (steps_of new.history) valid.most_slots valid.reserved) (law.closed (state_of new)) (law.outcomes (state_of new))
          c.finish.ensures.rests (still_workers old new goes.config is workers);
      serial = c.serial_values.ensures.keeps new.config (steps_of new.history) valid.most_slots;
    }
