-- Who may go on after a call.
use Rattle.std.specs.Prelude.{◌≡◌, Bool, false}
use Rattle.job_language.specs.Recorded.{is_entry}
use Rattle.job_language.specs.declared.answers.Answer.TheVariants as answer
use Rattle.tenant_record.specs.Cell.{IsRight, has_slot_of}
use Rattle.tenant_record.specs.PassData.{PassData}
use Rattle.tenant_record.specs.declared.slots.Advanced.{Advanced}
use Rattle.tenant_lock.specs.Awaited.{AreWaitersTold}
use Rattle.tenant_lock.specs.Doors.{ComesBack}
use Rattle.tenant_lock.specs.Sleepers.{AreTold, HeldData, marks, must_stop}
use Rattle.tenant_lock.specs.declared.news.ToWake.{ToWake}

-- After a call that made an entry, or none, those may go on who have something to do, at slots and for jobs. Nobody is asked to stop.
pub record KeepsWatch (before after : HeldData) (is_entry : Bool) (news : ToWake) : Type 0 where
  pub slots : AreTold after.cell (must_stop after) before.noted (marks news.at_slots.slots) after.noted
  pub jobs : AreWaitersTold after.cell (must_stop after) is_entry before.awaited news.for_jobs.are_told after.awaited
  pub stopped : after.is_stopped ≡ before.is_stopped

-- What a move of the slot of a pass leaves: the pass comes back unless it went home, the cell was right and still is, nothing
-- changes for a pass of another slot, and those may go on who have something to do.
pub record IsTurn (p : PassData) (a : Advanced) (before after : HeldData) (news : ToWake) : Type 0 where
  pub back : ComesBack p a.moved a.pass
  pub right : IsRight before.cell
  pub still_right : IsRight after.cell
  pub kept : has_slot_of before.cell p ≡ false → after ≡ before
  pub watch : KeepsWatch before after (is_entry (answer.Moved a.moved)) news
