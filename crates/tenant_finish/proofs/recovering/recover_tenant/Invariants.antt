use Rattle.std.proofs.Common.{◌≡◌, ◌++◌}
use Rattle.tenant_record.specs.Replayed.{Replayed}
use Rattle.tenant_finish.proofs.recovering.recover_tenant.Given as goal

abbrev pub invariant-loop-entry : goal.invariant-loop-entry
invariant-loop-entry l =
    let so_far : Replayed = record { config = l.fn.config; history = l.yielded } in
    record {
      taken : l.replay ≡ so_far;
      parted : l.fn.entries.items ≡ l.yielded ++ l.entry-iterator.rest.items;
    }
