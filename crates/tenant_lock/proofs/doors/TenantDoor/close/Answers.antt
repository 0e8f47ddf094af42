use Rattle.std.proofs.Common.{◌≡◌, List, Result, Ok, Err, Some, ap, subst, sym, ◌∙◌}
use Rattle.std.specs.Prelude.{IfErr, IfOk, slice_index_or}
use Rattle.job_language.specs.declared.steps.Entry.{Entry}
use Rattle.tenant_book.specs.Fronts.{BeginsIn}
use Rattle.tenant_record.specs.Cell.{CellData}
use Rattle.tenant_record.specs.SeatData.{SeatData}
use Rattle.tenant_lock.specs.Closing.{Agree, IsFault}
use Rattle.tenant_lock.specs.Doors.{DoorData, door_of}
use Rattle.tenant_lock.proofs.doors.TenantDoor.close.Goals as goal

if_err : {T E : Type 0} (r : Result T E) (P Q : E → Type 0) → ((e : E) → P e → Q e) → IfErr r P → IfErr r Q
if_err (Ok it) P Q maps is = is
if_err (Err e) P Q maps is = maps e is

pub returns-clause-refused : goal.returns-clause-refused
returns-clause-refused g c = if_err c.close.result _ _ (λ fault is. record {
  cell = c.into_cell-cell.result;
  right = c.close.ensures.right;
  fault_is = subst (λ (d : DoorData). IsFault c.into_cell-cell.result c.args.seats.items d (Some fault)) c.self.view_is
      (subst (λ (seats : List SeatData). IsFault c.into_cell-cell.result seats (door_of c.self.inside.first.life c.self.inside.tenant c.self.inside.config c.self.inside.seats) (Some fault))
      c.as_slice.ensures.value is);
}) (c.close.ensures.refused c.self.inside.first.life)

if_both : {T E : Type 0} (r : Result T E) (P Q S : T → Type 0) → ((t : T) → P t → Q t → S t) → IfOk r P → IfOk r Q → IfOk r S
if_both (Ok it) P Q S maps p q = maps it p q
if_both (Err e) P Q S maps p q = p

pub returns-clause-closed : goal.returns-clause-closed
returns-clause-closed g c = if_both c.close.result _ _ _ (λ closed agree history. record {
  cell = c.into_cell-cell.result;
  right = c.close.ensures.right;
  history_is = history;
  agree = subst (λ (d : DoorData). Agree c.into_cell-cell.result c.args.seats.items d) c.self.view_is
      (subst (λ (seats : List SeatData). Agree c.into_cell-cell.result seats (door_of c.self.inside.first.life c.self.inside.tenant c.self.inside.config c.self.inside.seats)) c.as_slice.ensures.value
      agree);
}) (c.close.ensures.agree c.self.inside.first.life) c.close.ensures.history

if_ok : {T E : Type 0} (r : Result T E) (P Q : T → Type 0) → ((t : T) → P t → Q t) → IfOk r P → IfOk r Q
if_ok (Ok it) P Q maps is = maps it is
if_ok (Err e) P Q maps is = is

pub returns-clause-seen : goal.returns-clause-seen
returns-clause-seen g c =
    let life : c.args.self.life ≡ c.of_life-held.result.life = sym (ap (λ (d : DoorData). d.life) c.self.view_is) ∙ sym c.life.ensures.life ∙ sym c.of_life-held.ensures.life in
    if_ok c.close.result _ _ (λ closed is k d low same.
    subst (λ (h : List Entry). BeginsIn (slice_index_or c.args.fronts.now k d) h) (sym (is ∙ ap (λ (x : CellData). x.history) c.into_cell-cell.ensures))
    (c.meet_all.ensures k d low (same ∙ life))) c.close.ensures.history
