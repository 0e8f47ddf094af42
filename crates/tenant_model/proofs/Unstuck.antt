-- Changes that leave no row stuck.
use Rattle.std.proofs.Common.{◌≡◌, ℕ, zero, suc, ◌+◌, ◌≤◌, List, [], ◌∷◌, ◌++◌, length, Option, Some, None, refl, ap, ◌∙◌, arith, inl, inr, map, pos}
use Rattle.std.specs.Prelude.{slice_index_or, slice_get, unwrap_or}
use Rattle.std.specs.Option.{option_map}
use Rattle.std.proofs.lemmas.Option.{slice_get-map}
use Rattle.std.proofs.lemmas.Bool.{cases_eq, cases_lt}
use Rattle.std.proofs.lemmas.List.{length_push, length-map}
use Rattle.job_language.specs.declared.instructions.Instr.{Instr}
use Rattle.job_language.specs.declared.jobs.Job.{Job}
use Rattle.job_language.specs.Program.{IsValidProgram}
use Rattle.job_step.specs.Frame.{new_frame}
use Rattle.tenant_model.specs.declared.rows.Kind.TheVariants.{Root}
use Rattle.tenant_model.specs.declared.rows.Phase.{Phase}
use Rattle.tenant_model.specs.declared.rows.Row.{Row}
use Rattle.tenant_model.specs.declared.works.Work.{Work}
use Rattle.tenant_model.specs.State.{State, row, job, with_at_number}
use Rattle.tenant_model.specs.Walks.{settle}
use Rattle.tenant_model.specs.Changes.{on_row, on_job, add_row, entry, new_row, faulted_row}
use Rattle.tenant_model.specs.Asks.{add_job, new_job, retired_work}
use Rattle.tenant_model.specs.Linked.{IsLinked}
use Rattle.tenant_model.specs.Naming.{Stands, IsUnstuck}
use Rattle.tenant_model.proofs.Changed.{row-with_same, row-with_other, row-push_old, row-push_new, row-map, at_number-with_same, at_number-with_other, at_number-push_old, at_number-push_new}
use Rattle.tenant_model.proofs.Changed.{length-with}
use Rattle.tenant_model.proofs.Parts.{SameSources-settle, row-settle}
use Rattle.tenant_model.proofs.Standing.{stands_new}

-- the program of a row
abbrev pub program_of : State → ℕ → List (List Instr)
program_of s n = (job s.jobs (row s.rows n).job).program

-- the state settles
pub settle_unstuck : (s : State) → IsUnstuck s → IsUnstuck (settle s)
settle_unstuck s is = record {
  programs = is.programs;
  frames = λ n from to.
      let within : n ≤ length s.rows = omega (arith, to, (SameSources-settle s).long) in
      rw (row-settle s n from within) (is.frames n from within);
}

pub entry_unstuck : (s : State) → IsUnstuck s → IsUnstuck (entry s)
entry_unstuck s is = settle_unstuck (record s { entries = s.entries + 1 }) (record { programs = is.programs; frames = is.frames })

-- a job changed, with the same program
pub on_job_unstuck : (s : State) (j : ℕ) (f : Work → Work) → 1 ≤ j → j ≤ length s.jobs → (f (job s.jobs j)).program ≡ (job s.jobs j).program → IsUnstuck s → IsUnstuck (on_job s j f)
on_job_unstuck s j f from to same is =
    let programs : (k : ℕ) → (job (with_at_number s.jobs j (f (job s.jobs j))) k).program ≡ (job s.jobs k).program = λ k. elim (cases_eq k j) [
      | inl here ↦ rw here (ap (λ (w : Work). w.program) (at_number-with_same s.jobs _ j (f (job s.jobs j)) from to) ∙ same)
      | inr other ↦ ap (λ (w : Work). w.program) (at_number-with_other s.jobs _ j k (f (job s.jobs j)) from other)
    ] in
    record {
      programs = λ k least most. rw (programs k) (is.programs k least (omega (arith, most, length-with s.jobs j (f (job s.jobs j)))));
      frames = λ n least most. rw (programs (row s.rows n).job) (is.frames n least most);
    }

-- a row changed, with the same job, whose frame stands
pub on_row_unstuck : (s : State) (n : ℕ) (f : Row → Row) → 1 ≤ n → n ≤ length s.rows → (f (row s.rows n)).job ≡ (row s.rows n).job → Stands (program_of s n) (f (row s.rows n)).frame → IsUnstuck s →
    IsUnstuck (on_row s n f)
on_row_unstuck s n f from to same stands is =
    let r = f (row s.rows n) in
    record {
      programs = is.programs;
      frames = λ m least most. elim (cases_eq m n) [
        | inl here ↦ rw (here, row-with_same s.rows n r from to, same) stands
        | inr other ↦ rw (row-with_other s.rows n m r from other) (is.frames m least (omega (arith, most, length-with s.rows n r)))
      ];
    }

-- a new row, whose frame stands
pub add_row_unstuck : (s : State) (r : Row) → Stands (job s.jobs r.job).program r.frame → IsUnstuck s → IsUnstuck (add_row s r)
add_row_unstuck s r stands is = record {
  programs = is.programs;
  frames = λ m least most. elim (cases_lt (length s.rows) m) [
    | inl after ↦
        let new : row (s.rows ++ r ∷ []) m ≡ r = row-push_new s.rows m r (omega (arith, after, most, length_push s.rows r)) in
        rw new stands
    | inr before ↦ rw (row-push_old s.rows m r before) (is.frames m least before)
  ];
}

-- rows faulted
pub faulted_unstuck : (s : State) (slot from : ℕ) → IsUnstuck s → IsUnstuck (record s { rows = map (faulted_row slot from) s.rows })
faulted_unstuck s slot from is = record {
  programs = is.programs;
  frames = λ n least most.
      let within : n ≤ length s.rows = omega (arith, most, length-map s.rows (faulted_row slot from)) in
      rw (row-map (faulted_row slot from) s.rows n least within) (is.frames n least within);
}

-- a new job, with its root
pub add_job_unstuck : (s : State) (j : Job) (phase : Phase) → IsLinked s → IsValidProgram j.program → IsUnstuck s → IsUnstuck (add_job s j phase)
add_job_unstuck s j phase linked valid is =
    let w = new_job s j in
    let jobs = s.jobs ++ w ∷ [] in
    let new : job jobs (length s.jobs + 1) ≡ w = at_number-push_new s.jobs _ (length s.jobs + 1) w refl in
    let t = record s { jobs = jobs } in
    let more : IsUnstuck t = record {
      programs = λ k least most. elim (cases_lt (length s.jobs) k) [
        | inl after ↦
            let here : job jobs k ≡ w = at_number-push_new s.jobs _ k w (omega (arith, after, most, length_push s.jobs w)) in
            rw here valid
        | inr before ↦ rw (at_number-push_old s.jobs _ k w before) (is.programs k least before)
      ];
      frames = λ n least most. rw (at_number-push_old s.jobs _ (row s.rows n).job w (linked.jobs n least most).1) (is.frames n least most);
    } in
    add_row_unstuck t (new_row Root (length s.jobs + 1) None (new_frame 0 (slice_index_or j.args 0 (pos 0)) (slice_index_or j.args 1 (pos 0))) phase)
    (rw new (stands_new j.program valid 0 _ _ valid.some)) more

retired_or : (o : Option Work) → (unwrap_or (option_map retired_work o) (job [] 0)).program ≡ (unwrap_or o (job [] 0)).program
retired_or None = refl
retired_or (Some w) = refl

retired_program : (jobs : List Work) (k : ℕ) → (job (map retired_work jobs) k).program ≡ (job jobs k).program
retired_program jobs zero = refl
retired_program jobs (suc k) = ap (λ o. (unwrap_or o (job [] 0)).program) (slice_get-map retired_work jobs k) ∙ retired_or (slice_get jobs k)

-- all jobs retired
pub retired_unstuck : (s : State) → IsUnstuck s → IsUnstuck (record s { jobs = map retired_work s.jobs })
retired_unstuck s is =
    let programs : (k : ℕ) → (job (map retired_work s.jobs) k).program ≡ (job s.jobs k).program = retired_program s.jobs in
    record {
      programs = λ k least most. rw (programs k) (is.programs k least (omega (arith, most, length-map s.jobs retired_work)));
      frames = λ n least most. rw (programs (row s.rows n).job) (is.frames n least most);
    }
