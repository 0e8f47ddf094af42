-- A job that changes.
use Rattle.std.proofs.Common.{◌≡◌, ◌||◌, ℕ, ◌+◌, ◌-◌, ◌<◌, ◌≤◌, length, Some, true, false, refl, sym, ap, ◌∙◌, arith, length-set, subst, inl, inr}
use Rattle.cancel_context.proofs.Chains.{IsHeld-within}
use Rattle.std.specs.Prelude.{slice_index_or, IsSome, None}
use Rattle.std.proofs.lemmas.List.{get_or-set_same, get_or-set_other}
use Rattle.cancel_context.specs.Forest.{binding, IsHeld, held_count, with_request, asking}
use Rattle.tenant_model.specs.State.{State, row, job}
use Rattle.tenant_model.specs.declared.works.Work.{Work}
use Rattle.std.specs.List.{list_any}
use Rattle.std.proofs.lemmas.Bool.{cases_eq}
use Rattle.tenant_model.specs.Sound.{IsSettled}
use Rattle.tenant_model.specs.Walks.{top, chain, is_group_cancelled, is_job_cancelled}
use Rattle.tenant_model.proofs.Changed.{at_number-with_same, at_number-with_other}
use Rattle.tenant_model.specs.Changes.{on_job}
use Rattle.tenant_model.specs.Advance.{with_fuel}
use Rattle.tenant_model.proofs.Steady.{steady_job}
use Rattle.arena_rows.specs.declared.rows.CurrentJob.{CurrentJob}
use Rattle.arena_rows.specs.Held.{Held}
use Rattle.arena_rows.specs.Represents.{Holds}
use Rattle.arena_rows.specs.HeldChanges.{index_of, job_changed, job_asked, with_fuel_left}
use Rattle.arena_rows.specs.HeldJobs.{IsCurrent}
use Rattle.arena_rows.specs.Represents.{IsKept}
use Rattle.arena_rows.proofs.JobChanged.{IsAsked, job_changed_holds}
use Rattle.arena_rows.proofs.JobPlaces.{held_there, held_work, held_is, held_kept}
use Rattle.arena_rows.proofs.TopRows.{top_job}

-- A job that is cancelled, by its context as well.
module _ (a : Held) (s : State) (is : Holds a s) (j : ℕ) (current : IsCurrent a.jobs j) where
  abbrev kept : IsKept s.jobs j
  kept = held_kept a s is j current

  pub job_there : j ≤ length s.jobs
  job_there = (held_there a s is j current).1

  pub context_told : (d : CurrentJob) → (slice_index_or a.jobs (index_of a j) d).context ≡ is.assigned.of_job j
  context_told d = (held_is a s is j current d).context

  pub job_held : (d : CurrentJob) → IsHeld a.contexts (slice_index_or a.jobs (index_of a j) d).context
  job_held d = let there = (is.contexts.of_jobs j kept job_there).1 in rw (context_told d, there) refl

  pub asked_holds : (f : Work → Work) (d : CurrentJob) → held_count (job_asked a j d).contexts ≡ held_count a.contexts → is_job_cancelled (f (job s.jobs j)) ≡ true →
      (f (job s.jobs j)).program ≡ (job s.jobs j).program → (f (job s.jobs j)).root ≡ (job s.jobs j).root → (f (job s.jobs j)).retired ≡ (job s.jobs j).retired →
      (IsSome (job s.jobs j).fault → IsSome (f (job s.jobs j)).fault) →
      Holds (job_changed (job_asked a j d) j f d) (on_job s j f)
  asked_holds f d count cancelled program root retired fault =
      let c = is.assigned.of_job j in
      let there = (is.contexts.of_jobs j kept job_there).1 in
      let inside : c < length a.contexts = IsHeld-within a.contexts c (rw there refl) in
      let same : binding (with_request a.contexts c true) c ≡ Some (record { parent = None; is_asked = true; is_orphan = false }) =
      get_or-set_same a.contexts c (asking true (binding a.contexts c)) None inside ∙ ap (asking true) there in
      let told = context_told d in
      let counted : held_count (with_request a.contexts c true) ≡ held_count a.contexts = rw told at count in
      let asked : IsAsked a.contexts (with_request a.contexts c true) c (f (job s.jobs j)) = record {
        long = length-set a.contexts c (asking true (binding a.contexts c));
        here = rw cancelled same;
        others = λ x other. get_or-set_other a.contexts c x (asking true (binding a.contexts c)) None other;
        held = counted;
      } in
      let holds = job_changed_holds a s is j f d (with_request a.contexts c true) current asked root retired (steady_job s is.steady j f kept.from job_there program root fault) in
      subst (λ x. Holds (record (job_changed a j f d) { contexts = with_request a.contexts x true }) (on_job s j f)) (sym told) holds

module _ (a : Held) (s : State) (is : Holds a s) (slot n : ℕ) (on_top : top s.rows slot ≡ Some n) where
  abbrev j : ℕ
  j = (row s.rows n).job

  current : IsCurrent a.jobs j
  current = top_job a s is slot n on_top

  pub fuel_told : (d : CurrentJob) → (slice_index_or a.jobs (index_of a j) d).work.fuel ≡ (job s.jobs j).fuel
  fuel_told d = ap (λ w. w.fuel) (sym (held_work a s is j current d))

  pub paid_holds : (fuel : ℕ) (d : CurrentJob) → Holds (job_changed a j (with_fuel_left fuel) d) (with_fuel s n fuel)
  paid_holds fuel d =
      let there = held_there a s is j current in
      job_changed_holds a s is j (with_fuel_left fuel) d a.contexts current
      (record { long = refl; here = (is.contexts.of_jobs j (held_kept a s is j current) there.1).1; others = λ x other. refl; held = refl }) refl refl
      (steady_job s is.steady j (with_fuel_left fuel) there.0 there.1 refl refl (λ some. some))

-- Fuel cancels nothing.
pub settled_fuel : (s : State) (j fuel : ℕ) → 1 ≤ j → j ≤ length s.jobs → IsSettled s → IsSettled (on_job s j (with_fuel_left fuel))
settled_fuel s j fuel from to settled n waits =
    let same : is_job_cancelled (job (on_job s j (with_fuel_left fuel)).jobs (row s.rows n).job) ≡ is_job_cancelled (job s.jobs (row s.rows n).job) = elim (cases_eq (row s.rows n).job j) [
      | inl here ↦ ap (λ k. is_job_cancelled (job (on_job s j (with_fuel_left fuel)).jobs k)) here ∙ ap is_job_cancelled (at_number-with_same s.jobs _ j (with_fuel_left fuel (job s.jobs j)) from to) ∙
          sym (ap (λ k. is_job_cancelled (job s.jobs k)) here)
      | inr other ↦ ap is_job_cancelled (at_number-with_other s.jobs _ j (row s.rows n).job (with_fuel_left fuel (job s.jobs j)) from other)
    ] in
    ap (λ b. b || list_any (λ m. is_group_cancelled s.rows (row s.rows m).kind) (chain s.rows n)) same ∙ settled n waits
