use Rattle.std.proofs.Common.{sym, ◌∙◌}
use Rattle.std.proofs.lemmas.Bool.{both_ways}
use Rattle.tenant_lock.specs.Pauses.{has_to_stop}
use Rattle.tenant_lock.specs.Sleepers.{marks}
use Rattle.tenant_lock.proofs.Telling.{noted_more}
use Rattle.tenant_lock.proofs.held.Held.sleeps_at.Goals.{then-has_slot_of, else-has_slot_of}
use Rattle.tenant_lock.proofs.held.Held.sleeps_at.Goals as goal

pub note-requires : goal.note-requires
note-requires g c = elim c.if-has_slot_of.branch [
  | then-has_slot_of w ↦ rw c.slot-slot.ensures (c.has_slot_of.ensures.few w.if-has_slot_of.true)
  | else-has_slot_of w ↦ absurd (both_ways _ (w.sleeps-is ∙ w.if-has_slot_of.false) c.if-sleeps.true)
]

pub invariant_of-self : goal.invariant_of-self
invariant_of-self g c = elim c.if-has_slot_of.branch [
  | then-has_slot_of w ↦
      let h = c.self.inside in
      let idle = rw (← c.self.view_is) at (w.is_idle-sleeps.ensures.waits (sym w.sleeps-is ∙ c.if-sleeps.true)) in (
        record {
          slots = rw c.note.ensures (noted_more h.cell (has_to_stop h.is_stopped h.cell) (marks h.waiting.noted) c.slot-slot.result c.self.invariant.0.slots idle);
          jobs = c.self.invariant.0.jobs;
          attended = c.self.invariant.0.attended;
        },
        c.self.invariant.1,
      )
  | else-has_slot_of w ↦ absurd (both_ways _ (w.sleeps-is ∙ w.if-has_slot_of.false) c.if-sleeps.true)
]
