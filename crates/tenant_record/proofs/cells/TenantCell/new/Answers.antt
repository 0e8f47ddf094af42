use Rattle.tenant_record.proofs.Kept.{first_right, first_counted}
use Rattle.tenant_record.proofs.cells.TenantCell.new.Goals as goal

pub invariant_of-result : goal.invariant_of-result
invariant_of-result c = record {
  right = rw (c.in_ok-new.ensures, c.in_ok-with_capacity.ensures.items, c.in_ok-new-2.ensures.home, c.in_ok-new-2.ensures.idle_since) (first_right c.args.tenant c.args.config c.tenant.ensures.valid);
  counts = rw (c.in_ok-new.ensures, c.in_ok-new-2.ensures.counts) first_counted;
  valid = rw c.in_ok-new.ensures c.tenant.ensures.valid;
  room = rw c.in_ok-new.ensures (rw (← c.tenant.ensures.value) c.in_ok-with_capacity.ensures.capacity);
}
