-- What the counters of an entry say of its row's groups, and what its contexts say.
use Rattle.std.proofs.Common.{◌≡◌, ℕ, ◌+◌, ◌<◌, List, [], ◌∷◌, length, Some, None, Bool, false, ◌||◌, nat_lt, refl, sym, ap, ◌∙◌, arith, inl, inr}
use Rattle.std.specs.Prelude.{count_by, slice_index_or}
use Rattle.std.specs.List.{list_any}
use Rattle.job_language.specs.declared.instructions.TheConstants.{GROUPS}
use Rattle.cancel_context.specs.Forest.{IsHeld, is_cancelled, IsForest}
use Rattle.task_group.specs.Groups.{group}
use Rattle.tenant_model.specs.State.{State, row, job}
use Rattle.tenant_model.specs.Walks.{NumberedRow, is_open, is_pending, members, mark, top, is_context_cancelled}
use Rattle.tenant_model.specs.Shared.{has_used_group}
use Rattle.tenant_model.proofs.Within.{either_way}
use Rattle.arena_rows.specs.declared.rows.OpenRow.{OpenRow}
use Rattle.arena_rows.specs.declared.rows.CurrentJob.{CurrentJob}
use Rattle.arena_rows.specs.Held.{Held}
use Rattle.arena_rows.specs.HeldChanges.{index_of}
use Rattle.arena_rows.specs.Represents.{IsGroupContext, IsRow, Holds}
use Rattle.arena_rows.proofs.Alike.{count_cons}
use Rattle.arena_rows.proofs.Contexts.{context_is, group_is}
use Rattle.arena_rows.proofs.Grouped.{IsEntry}
use Rattle.arena_rows.proofs.JobPlaces.{held_work}
use Rattle.arena_rows.proofs.RowHeld.{row_held}
use Rattle.arena_rows.proofs.TopRows.{top_job}
use Rattle.tenant_model.proofs.AttendedSteps.{open_there}
use Rattle.tenant_model.proofs.Stacking.{one_if}

-- Some item passes where at least one is counted.
pub any_counted : {A : Type 0} (p : A → Bool) (xs : List A) → list_any p xs ≡ nat_lt 0 (count_by p xs)
any_counted p [] = refl
any_counted p (x ∷ xs) = elim (either_way (p x)) [
  | inl is ↦
      let one : one_if (p x) ≡ 1 = rw is refl in
      let some : 0 < count_by p (x ∷ xs) = omega (arith, count_cons p x xs, one) in
      grind (arith, is, some)
  | inr not_so ↦
      let nothing : one_if (p x) ≡ 0 = rw not_so refl in
      let same : count_by p (x ∷ xs) ≡ count_by p xs = omega (arith, count_cons p x xs, nothing) in
      ap (λ b. b || list_any p xs) not_so ∙ any_counted p xs ∙ ap (nat_lt 0) (sym same)
]

module _ (a : Held) (s : State) (is : Holds a s) (n : ℕ) (e : OpenRow) (its : IsRow s.rows is.places n e) where
  pub pending_told : (g : ℕ) → g < GROUPS → nat_lt 0 (group e.groups g).pending ≡ is_pending s.rows n g
  pending_told g few = ap (nat_lt 0) (its.groups g few).pending ∙ sym (any_counted (λ (p : NumberedRow). is_open p.1.phase) (members s.rows n g))

  pub used_told : has_used_group s n ≡ ((group e.groups 0).is_used || (group e.groups 1).is_used || (group e.groups 2).is_used || (group e.groups 3).is_used)
  used_told = rw ((its.groups 0 (omega arith)).used, (its.groups 1 (omega arith)).used, (its.groups 2 (omega arith)).used, (its.groups 3 (omega arith)).used) refl

  pub none_pending : (g : ℕ) → g < GROUPS → is_pending s.rows n g ≡ false → (group e.groups g).pending ≡ 0
  none_pending g few none = let told = pending_told g few in grind (arith, told, none)

-- what is held for the contexts of an entry
module _ (a : Held) (s : State) (is : Holds a s) (n : ℕ) (e : OpenRow) (entry : IsEntry a s is n e) where
  pub context_of_entry : e.context ≡ is.assigned.of_row n
  context_of_entry = (is.contexts.in_table (is.places n) e entry.there).0 ∙ ap is.assigned.of_row entry.its.number

  pub entry_held : IsHeld a.contexts e.context
  entry_held = let context = context_of_entry in rw context (row_held a s is n entry.opened)

  pub group_of_entry : (g : ℕ) → g < GROUPS → is.assigned.of_group n g ≡ slice_index_or e.group_contexts g None
  group_of_entry g few = ap (λ k. is.assigned.of_group k g) (sym entry.its.number) ∙ sym ((is.contexts.in_table (is.places n) e entry.there).1 g few)

  pub given_held : (g c : ℕ) → g < GROUPS → slice_index_or e.group_contexts g None ≡ Some c → IsHeld a.contexts c
  given_held g c few some =
      let given = group_of_entry g few ∙ some in
      let its : IsGroupContext s a.contexts is.assigned n g (Some c) = rw given at (is.contexts.of_groups n g entry.opened few) in
      rw its.1 refl

  -- They are cancelled where the definitions say so.
  module _ (forest : IsForest a.contexts) where
    own : is_cancelled a.contexts (is.assigned.of_row n) ≡ is_context_cancelled s n
    own =
        let there = open_there s.rows n entry.opened in
        context_is s (length a.jobs) a.table a.contexts is.assigned is.steady is.jobs.later is.contexts forest n there.0 there.1 entry.opened

    pub own_told : is_cancelled a.contexts e.context ≡ is_context_cancelled s n
    own_told = ap (is_cancelled a.contexts) context_of_entry ∙ own

    pub given_told : (g c : ℕ) → g < GROUPS → slice_index_or e.group_contexts g None ≡ Some c → is_cancelled a.contexts c ≡ ((mark s.rows n g).cancelled || is_context_cancelled s n)
    given_told g c few some =
        group_is s (length a.jobs) a.table a.contexts is.assigned is.steady is.jobs.later is.contexts forest n g c entry.opened few (group_of_entry g few ∙ some) own

    pub bare_told : (g : ℕ) → g < GROUPS → slice_index_or e.group_contexts g None ≡ None → is_cancelled a.contexts e.context ≡ ((mark s.rows n g).cancelled || is_context_cancelled s n)
    bare_told g few none =
        let bare = group_of_entry g few ∙ none in
        let its : IsGroupContext s a.contexts is.assigned n g None = rw bare at (is.contexts.of_groups n g entry.opened few) in
        let unmarked = its.1 in
        rw unmarked own_told

-- The work of the topmost row's job.
pub work_told : (a : Held) (s : State) (is : Holds a s) (slot n : ℕ) → top s.rows slot ≡ Some n → (d : CurrentJob) →
    (slice_index_or a.jobs (index_of a (row s.rows n).job) d).work ≡ job s.jobs (row s.rows n).job
work_told a s is slot n on_top d =
    sym (held_work a s is (row s.rows n).job (top_job a s is slot n on_top) d)
