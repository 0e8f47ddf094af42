-- A fault of a slot's job, from which its rows go down.
use Rattle.std.proofs.Common.{◌≡◌, ℕ, ◌==◌, ◌&&◌, ◌<◌, nat_lt, length, Option, Some, None, IsSome, true, refl, sym, ap, ◌∙◌, arith}
use Rattle.std.specs.Prelude.{is_some}
use Rattle.job_language.specs.declared.errors.JobFault.{JobFault}
use Rattle.nest_stack.specs.Nest.{stack}
use Rattle.tenant_model.specs.State.{State, row, job}
use Rattle.tenant_model.specs.Walks.{top, height}
use Rattle.tenant_model.specs.Changes.{on_job, first_fault}
use Rattle.tenant_model.proofs.Changed.{at_number-with_same}
use Rattle.arena_rows.specs.Held.{Held}
use Rattle.arena_rows.specs.HeldChanges.{with_fault}
use Rattle.arena_rows.specs.Represents.{Holds}
use Rattle.arena_rows.specs.Endings.{HasFaulty, faulted_rows}
use Rattle.arena_rows.proofs.Tops.{height_is}
use Rattle.arena_rows.proofs.TopRows.{top_job, on_slot}
use Rattle.arena_rows.proofs.JobPlaces.{held_there}

pub some_fault : (o : Option JobFault) (fault : JobFault) → is_some (first_fault o fault) ≡ true
some_fault None fault = refl
some_fault (Some f) fault = refl

module _ (a : Held) (s : State) (is : Holds a s) (slot n : ℕ) (on_top : top s.rows slot ≡ Some n) (fault : JobFault) where
  abbrev pub faulty : State
  faulty = on_job s (row s.rows n).job (with_fault fault)

  pub now_faulty : IsSome (job faulty.jobs (row s.rows n).job).fault
  now_faulty =
      let j = (row s.rows n).job in
      let there = held_there a s is j (top_job a s is slot n on_top) in
      ap (λ w. is_some w.fault) (at_number-with_same s.jobs _ j (with_fault fault (job s.jobs j)) there.0 there.1) ∙ some_fault (job s.jobs j).fault fault

  pub has_faulty : (b : Held) → Holds b faulty → HasFaulty b slot
  has_faulty b holds = (faulty, n, holds, on_top, now_faulty)

  -- Such changes keep what the tenant is given, and the count of entries.
  pub same_slots : (c : Held) → Holds c (faulted_rows faulty slot) → slot < c.config.slots
  same_slots c holds = let same = holds.config ∙ sym is.config in rw same (on_slot a s is slot n on_top)

  pub same_room : (c : Held) → Holds c (faulted_rows faulty slot) → a.entries < a.config.steps → c.entries < c.config.steps
  same_room c holds room =
      let same = holds.config ∙ sym is.config in
      let entries = holds.entries ∙ sym is.entries in
      rw (same, entries) room

-- whether a slot is a reserved one with nothing on it
pub freed_told : (a : Held) (s : State) (is : Holds a s) (slot high : ℕ) → slot < a.config.reserved → high ≡ length (stack a.nests slot) →
    (high == 0) ≡ (nat_lt slot s.config.reserved && (height s.rows slot == 0))
freed_told a s is slot high low told =
    let same : high ≡ height s.rows slot = told ∙ height_is s.rows is.places a.config.slots a.nests is.steady.formed.stacked is.nests slot in
    let its : nat_lt slot s.config.reserved ≡ true = ap (λ t. nat_lt slot t.reserved) (sym is.config) ∙ grind (arith, low) in
    rw (its, same) refl
