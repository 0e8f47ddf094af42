-- What the jobs that are held tell of the state.
use Rattle.std.proofs.Common.{◌≡◌, ◌⊎◌, ℕ, zero, suc, ◌+◌, ◌==◌, ◌<◌, ◌≤◌, nat_lt, nat_le, not, ℤ, List, [], ◌∷◌, length, Option, Some, None, Bool, true, false, ◌&&◌, ◌||◌, if◌then◌else◌, refl, sym}
use Rattle.std.proofs.Common.{ap, ◌∙◌, arith, inl, inr, get_or}
use Rattle.std.specs.Prelude.{slice_get, IsSome, is_some}
use Rattle.std.specs.List.{list_any}
use Rattle.std.specs.Option.{option_map, option_map_or, option_and_then}
use Rattle.std.proofs.lemmas.Bool.{cases_lt}
use Rattle.std.proofs.lemmas.Option.{slice_get-get_or, slice_get_past, slice_get_within, unwrap_or-slice_get}
use Rattle.job_language.specs.declared.answers.Status.{Status}
use Rattle.job_language.specs.declared.answers.Status.TheVariants.{Running, Cancelled, Complete, Fault}
use Rattle.tenant_model.specs.declared.rows.Row.{Row}
use Rattle.tenant_model.specs.declared.works.Work.{Work}
use Rattle.tenant_model.specs.State.{State, job}
use Rattle.tenant_model.specs.Walks.{is_open, is_job_cancelled}
use Rattle.tenant_model.specs.Asks.{has_outcome, known_job, outcome, status}
use Rattle.arena_rows.specs.declared.rows.CurrentJob.{CurrentJob}
use Rattle.arena_rows.specs.Held.{Held}
use Rattle.arena_rows.specs.HeldReads.{held_status, of_number, known_current, known_status, is_first_cancel, cancels, known_cancels}
use Rattle.arena_rows.specs.HeldChanges.{index_of, no_job}
use Rattle.arena_rows.specs.HeldJobs.{IsCurrent}
use Rattle.arena_rows.specs.Represents.{IsKept, IsJob, Holds}
use Rattle.arena_rows.proofs.JobPlaces.{current_told, held_there, held_work, held_is}
use Rattle.arena_rows.proofs.Started.{some_is}
use Rattle.tenant_model.proofs.Within.{either_way}
use Rattle.arena_rows.proofs.Counters.{any_counted}

abbrev unless_retired : Work → Option Work
unless_retired w = if w.retired then None else Some w

swapped : {A : Type 0} (b : Bool) (x y : A) → (if not b then x else y) ≡ (if b then y else x)
swapped true x y = refl
swapped false x y = refl

same_number : (x y : ℕ) → (x == y) ≡ true → x ≡ y
same_number x y same = grind (arith, same)

there_is : {A : Type 0} (o : Option A) → IsSome o → is_some o ≡ true
there_is None some = grind (arith, some)
there_is (Some x) some = refl

neither : (b c : Bool) → not (b || not c) ≡ (c && not b)
neither true true = refl
neither true false = refl
neither false true = refl
neither false false = refl

module _ (a : Held) (s : State) (is : Holds a s) where
  -- the job of a number, by what stands at its place
  known : (j : ℕ) (w : Work) → 1 ≤ j → j ≤ length s.jobs → job s.jobs j ≡ w → known_job s j ≡ unless_retired w
  known zero w from to its = absurd (omega (arith, from))
  known (suc n) w from to its =
      let none : Work = job [] 0 in
      let there : slice_get s.jobs n ≡ Some (get_or s.jobs n none) = slice_get-get_or s.jobs n none (omega (arith, to)) in
      let item : get_or s.jobs n none ≡ w = sym (unwrap_or-slice_get s.jobs n none) ∙ its in
      ap (option_and_then unless_retired) (there ∙ ap Some item)

  -- A job that is held is known,
  module _ (j : ℕ) (current : IsCurrent a.jobs j) where
    abbrev it : CurrentJob
    it = get_or a.jobs (index_of a j) no_job

    its : IsJob s.rows is.assigned j it
    its = held_is a s is j current no_job

    pub known_here : known_job s j ≡ Some it.work
    known_here =
        let there = held_there a s is j current in
        known j it.work there.0 there.1 (held_work a s is j current no_job) ∙ rw its.current refl

    found_here : known_current a j ≡ Some it
    found_here =
        let number : (it.number == j) ≡ true = let same = current.number no_job in grind (arith, same) in
        ap (option_and_then (of_number j)) (slice_get-get_or a.jobs (index_of a j) no_job current.within) ∙ rw number refl

    abbrev by_fault : ℤ → Status
    by_fault v = option_map_or (λ fault. Fault fault) it.work.fault (if it.work.cancelled then Cancelled else Complete v)

    pub opened : list_any (λ (r : Row). (r.job == j) && is_open r.phase) s.rows ≡ nat_lt 0 it.open_rows
    opened = any_counted (λ (r : Row). (r.job == j) && is_open r.phase) s.rows ∙ ap (nat_lt 0) (sym its.opened)

    status_is : status s.rows j it.work ≡ held_status it
    status_is =
        let value = its.value in
        rw opened (swapped (nat_lt 0 it.open_rows) (outcome s.rows it.work) Running ∙ ap (λ (x : Status). if nat_lt 0 it.open_rows then Running else x) (ap by_fault (sym value)))

    cancel_is : is_first_cancel s.rows j it.work ≡ cancels it
    cancel_is = rw opened (neither (is_job_cancelled it.work) (nat_lt 0 it.open_rows))

    cancel_now : known_cancels a j ≡ option_map (is_first_cancel s.rows j) (known_job s j)
    cancel_now = rw (found_here, known_here) (ap Some (sym cancel_is))

    now_told : known_status a j ≡ option_map (status s.rows j) (known_job s j)
    now_told = rw (found_here, known_here) (ap Some (sym status_is))

  -- and no other is.
  module _ (j : ℕ) (missing : IsKept s.jobs j → j ≤ length s.jobs → ⊥) where
    unknown_by : (n : ℕ) (b : Bool) → n ≡ j → 1 ≤ n → n ≤ length s.jobs → (job s.jobs n).retired ≡ b → known_job s n ≡ None
    unknown_by n true same from to gone = known n (job s.jobs n) from to refl ∙ rw gone refl
    unknown_by n false same from to gone = absurd (missing (record { from = omega (arith, same, from); kept = ap (λ k. (job s.jobs k).retired) (sym same) ∙ gone }) (omega (arith, same, to)))

    unknown_at : (n : ℕ) → n ≡ j → known_job s n ≡ None
    unknown_at zero same = refl
    unknown_at (suc n) same = elim (cases_lt (length s.jobs) (suc n)) [
      | inl past ↦ ap (option_and_then unless_retired) (slice_get_past s.jobs n (omega (arith, past)))
      | inr within ↦ unknown_by (suc n) (job s.jobs (suc n)).retired same (omega arith) (omega (arith, within)) refl
    ]

    pub unknown : known_job s j ≡ None
    unknown = unknown_at j refl

    not_held : (o : Option CurrentJob) → slice_get a.jobs (index_of a j) ≡ o → option_and_then (of_number j) o ≡ None
    not_held None found = refl
    not_held (Some x) found = elim (either_way (x.number == j)) [
      | inr other ↦ rw other refl
      | inl same ↦
          let within : index_of a j < length a.jobs = slice_get_within a.jobs (index_of a j) x found in
          let here : get_or a.jobs (index_of a j) x ≡ x = some_is (get_or a.jobs (index_of a j) x) x (sym (slice_get-get_or a.jobs (index_of a j) x within) ∙ found) in
          let own : x.number ≡ j = same_number x.number j same in
          let known_x = is.jobs.there (index_of a j) x within in
          let kept_x = ap (λ (w : Work). w.retired) (is.jobs.works (index_of a j) x within) ∙ (is.jobs.each (index_of a j) x within).current in
          let number : (get_or a.jobs (index_of a j) x).number ≡ j = ap (λ (y : CurrentJob). y.number) here ∙ own in
          absurd (missing (record { from = omega (arith, known_x, number); kept = ap (λ k. (job s.jobs k).retired) (sym number) ∙ kept_x }) (omega (arith, known_x, number)))
    ]

    none_current : known_current a j ≡ None
    none_current = not_held (slice_get a.jobs (index_of a j)) refl

    none_told : known_status a j ≡ option_map (status s.rows j) (known_job s j)
    none_told = rw (none_current, unknown) refl

    none_cancels : known_cancels a j ≡ option_map (is_first_cancel s.rows j) (known_job s j)
    none_cancels = rw (none_current, unknown) refl

  -- whether a job is held
  is_held : (j : ℕ) → IsCurrent a.jobs j ⊎ (IsKept s.jobs j → j ≤ length s.jobs → ⊥)
  is_held j = elim (cases_lt (length s.jobs) j) [
    | inl past ↦ inr (λ kept to. omega (arith, past, to))
    | inr within ↦ elim (cases_lt 0 j) [
      | inr none ↦ inr (λ kept to. let from = kept.from in omega (arith, none, from))
      | inl from ↦ elim (either_way (job s.jobs j).retired) [
        | inl gone ↦ inr (λ kept to. let its = kept.kept in grind (arith, gone, its))
        | inr kept ↦ inl (current_told a s is j (record { from = omega (arith, from); kept = kept }) (omega (arith, within)))
      ]
    ]
  ]

  pub status_told : (j : ℕ) → known_status a j ≡ option_map (status s.rows j) (known_job s j)
  status_told j = elim (is_held j) [ inl current ↦ now_told j current | inr missing ↦ none_told j missing ]

  pub cancel_told : (j : ℕ) → known_cancels a j ≡ option_map (is_first_cancel s.rows j) (known_job s j)
  cancel_told j = elim (is_held j) [ inl current ↦ cancel_now j current | inr missing ↦ none_cancels j missing ]

  -- A job that is known is held.
  pub known_held : (j : ℕ) → IsSome (known_job s j) → IsCurrent a.jobs j
  known_held j some = elim (is_held j) [
    | inl current ↦ current
    | inr missing ↦ absurd (let none : is_some (known_job s j) ≡ false = ap is_some (unknown j missing) in let found = there_is (known_job s j) some in grind (arith, none, found))
  ]

-- What has an outcome in one state that is held has one in each.
pub over_too : (a : Held) (s : State) (is : Holds a s) (t : State) (too : Holds a t) (j : ℕ) → IsCurrent a.jobs j → has_outcome s.rows j ≡ true → has_outcome t.rows j ≡ true
over_too a s is t too j current over = ap not (opened a t too j current ∙ sym (opened a s is j current)) ∙ over
