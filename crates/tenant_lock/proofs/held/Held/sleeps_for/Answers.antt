use Rattle.std.proofs.Common.{sym, ◌∙◌}
use Rattle.tenant_lock.specs.Pauses.{has_to_stop}
use Rattle.tenant_lock.proofs.Waiters.{added_open}
use Rattle.tenant_lock.proofs.held.Held.sleeps_for.Goals as goal

pub invariant_of-self : goal.invariant_of-self
invariant_of-self g c =
    let h = c.self.inside in
    let waits = rw (c.is_over.ensures, ← c.self.view_is) at (sym c.is_open-sleeps.ensures ∙ c.if-sleeps.true) in (
      record {
        slots = c.self.invariant.0.slots;
        jobs = rw c.note.ensures (added_open h.cell (has_to_stop h.is_stopped h.cell) h.awaited c.number.result c.args.job c.self.invariant.0.jobs waits);
        attended = c.self.invariant.0.attended;
      },
      c.self.invariant.1,
    )
