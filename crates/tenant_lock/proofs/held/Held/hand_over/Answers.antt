use Rattle.std.proofs.Common.{rules, ◌≡◌, false}
use Rattle.tenant_model.specs.Walks.{height}
use Rattle.tenant_record.specs.Cell.{state_of}
use Rattle.tenant_record.proofs.Attending.{handed_attended}
use Rattle.tenant_lock.specs.HeldFields.{held_data}
use Rattle.tenant_lock.specs.Pauses.{has_to_stop}
use Rattle.tenant_lock.specs.Sleepers.{must_stop}
use Rattle.tenant_lock.proofs.held.Held.hand_over.Goals as goal

pub invariant_of-self : goal.invariant_of-self
invariant_of-self g c =
    let h = c.self.inside in
    let is = c.hand_over-due.ensures in
    let empty : must_stop (held_data h.whole.life h.cell h.is_stopped h.waiting h.awaited) ≡ false → height (state_of h.cell).rows c.args.pass.slot ≡ 0 =
    rw (← c.self.view_is) at c.requires.may.empty in (
      record {
        slots = rw is.cell c.self.invariant.0.slots;
        jobs = rw is.cell c.self.invariant.0.jobs;
        attended = λ goes.
            let goes_on : has_to_stop h.is_stopped h.cell ≡ false = rw is.cell at goes in
            handed_attended h.cell c.hand_over-due.new.self c.args.pass c.hand_over-due.result is (empty goes_on) (c.self.invariant.0.attended goes_on);
      },
      search rules,
    )
