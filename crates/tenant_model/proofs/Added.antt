-- A row that is added before its maker pays and moves on.
use Rattle.std.proofs.Common.{◌≡◌, ℕ, ◌-◌, ◌≤◌, List, [], ◌∷◌, ◌++◌, length, refl, ap, ◌∙◌}
use Rattle.job_step.specs.declared.frames.Frame.{Frame}
use Rattle.tenant_model.specs.declared.rows.Row.{Row}
use Rattle.tenant_model.specs.State.{State, row, job, with_at_number}
use Rattle.tenant_model.specs.Advance.{is_poor, with_fuel_paid}
use Rattle.tenant_model.specs.Changes.{add_row, with_frame}
use Rattle.tenant_model.proofs.Changed.{row-push_old, with_at_number-append}

module _ (s : State) (n cost : ℕ) (r : Row) (to : n ≤ length s.rows) where
  -- The fuel is the same.
  pub is_poor-add_row : is_poor (add_row s r) n cost ≡ is_poor s n cost
  is_poor-add_row = rw (row-push_old s.rows n r to) refl

  -- What is done to the maker leaves the new row as it is.
  pub add_row-first : (f : Frame) → with_frame (with_fuel_paid (add_row s r) n cost) n f ≡ add_row (with_frame (with_fuel_paid s n cost) n f) r
  add_row-first f =
      let done : Row → List Row → State = λ q rows. record s { rows = rows; jobs = with_at_number s.jobs q.job (record (job s.jobs q.job) { fuel = (job s.jobs q.job).fuel - cost }) } in
      let here = row-push_old s.rows n r to in
      ap (λ q. done q (with_at_number (s.rows ++ r ∷ []) n (record q { frame = f }))) here ∙
      ap (done (row s.rows n)) (with_at_number-append s.rows (r ∷ []) n (record (row s.rows n) { frame = f }) to)
