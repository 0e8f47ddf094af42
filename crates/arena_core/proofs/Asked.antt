-- What asks come to, by what is known of jobs and limits.
use Rattle.std.proofs.Common.{◌≡◌, ◌||◌, ◌+◌, ℕ, Bool, true, false, not, List, [], ◌∷◌, ◌++◌, Option, Some, None, length, refl, sym, ◌∙◌, ℤ, if◌then◌else◌, inl, inr, arith}
use Rattle.std.specs.Option.{option_map, option_map_or}
use Rattle.job_language.specs.declared.errors.Error.TheVariants.{UnknownJob, Busy}
use Rattle.job_language.specs.declared.answers.Reply.TheVariants as reply
use Rattle.tenant_model.specs.declared.works.Work.{Work}
use Rattle.tenant_model.specs.State.{State, row}
use Rattle.tenant_model.specs.Walks.{is_job_cancelled, value_in}
use Rattle.tenant_model.specs.Changes.{entry, on_job}
use Rattle.tenant_model.specs.Asks.{has_outcome, outcome, status, cancel_by_request, release, released, take_outcome}
use Rattle.arena_rows.specs.HeldChanges.{cancelled_work}
use Rattle.std.specs.Prelude.{IsSome}
use Rattle.job_language.specs.declared.errors.JobFault.{JobFault}
use Rattle.job_language.specs.declared.answers.Status.{Status}
use Rattle.job_language.specs.declared.answers.Status.TheVariants.{Running, Cancelled, Complete, Fault}
use Rattle.tenant_model.proofs.Within.{either_way}
use Rattle.arena_rows.specs.HeldReads.{is_first_cancel}
use Rattle.arena_rows.proofs.Started.{some_is, some_none}

not_is : (b c : Bool) → Some (not b) ≡ Some c → b ≡ not c
not_is true true is = absurd (grind (arith, is))
not_is true false is = refl
not_is false true is = refl
not_is false false is = absurd (grind (arith, is))

-- the first cancel of a job
pub cancel_first : (s : State) (j : ℕ) (known : Option Work) → option_map (is_first_cancel s.rows j) known ≡ Some true →
    option_map_or (cancel_by_request s j) known (reply.Refused UnknownJob, entry s) ≡ (reply.Cancelled j true, entry (on_job s j cancelled_work))
cancel_first s j None is = absurd (grind (arith, is))
cancel_first s j (Some w) is = rw (not_is (is_job_cancelled w || has_outcome s.rows j) true is) refl

-- and one that is not
pub cancel_again : (s : State) (j : ℕ) (known : Option Work) → option_map (is_first_cancel s.rows j) known ≡ Some false →
    option_map_or (cancel_by_request s j) known (reply.Refused UnknownJob, entry s) ≡ (reply.Cancelled j false, entry s)
cancel_again s j None is = absurd (grind (arith, is))
cancel_again s j (Some w) is = rw (not_is (is_job_cancelled w || has_outcome s.rows j) false is) refl

pub known_some : (s : State) (j : ℕ) (known : Option Work) (first : Bool) → option_map (is_first_cancel s.rows j) known ≡ Some first → IsSome known
known_some s j None first is = absurd (some_none first (sym is))
known_some s j (Some w) first is = refl

pub one_more : (works : List Work) (w : Work) → length (works ++ w ∷ []) ≡ length works + 1
one_more [] w = refl
one_more (x ∷ xs) w = omega (arith, one_more xs w)

-- An outcome is none of a job that runs.
outcome_ends : (fault : Option JobFault) (cancelled : Bool) (v : ℤ) → option_map_or (λ f. Fault f) fault (if cancelled then Cancelled else Complete v) ≡ Running → ⊥
outcome_ends (Some f) cancelled v is = absurd (grind (arith, is))
outcome_ends None true v is = absurd (grind (arith, is))
outcome_ends None false v is = absurd (grind (arith, is))

-- A job that is known and does not run has an outcome.
pub over_told : (s : State) (j : ℕ) (known : Option Work) (x : Status) → option_map (status s.rows j) known ≡ Some x → (x ≡ Running → ⊥) → IsSome known × (has_outcome s.rows j ≡ true)
over_told s j None x told ends = absurd (some_none x (sym told))
over_told s j (Some w) x told ends = elim (either_way (has_outcome s.rows j)) [
  | inl over ↦ (refl, over)
  | inr runs ↦ absurd (ends (sym (some_is (status s.rows j w) x told) ∙ rw runs refl))
]

pub released_told : (s : State) (j : ℕ) (known : Option Work) (x : Status) → option_map (status s.rows j) known ≡ Some x → (x ≡ Running → ⊥) →
    option_map_or (λ (w : Work). release s j) known (reply.Refused UnknownJob, entry s) ≡ (reply.Released j, released s j)
released_told s j None x told ends = absurd (some_none x (sym told))
released_told s j (Some w) x told ends = let over = (over_told s j (Some w) x told ends).1 in rw over refl

pub taken_told : (s : State) (j : ℕ) (known : Option Work) (x : Status) → option_map (status s.rows j) known ≡ Some x → (x ≡ Running → ⊥) →
    option_map_or (take_outcome s j) known (reply.Refused UnknownJob, entry s) ≡ (reply.Job j x, released s j)
taken_told s j None x told ends = absurd (some_none x (sym told))
taken_told s j (Some w) x told ends =
    let over = (over_told s j (Some w) x told ends).1 in
    let its : outcome s.rows w ≡ x = rw over at (some_is (status s.rows j w) x told) in
    rw (over, its) refl

-- One that runs has none.
runs_told : (s : State) (j : ℕ) (w : Work) → status s.rows j w ≡ Running → has_outcome s.rows j ≡ false
runs_told s j w told = elim (either_way (has_outcome s.rows j)) [
  | inr runs ↦ runs
  | inl over ↦ let its : outcome s.rows w ≡ Running = rw over at told in absurd (outcome_ends w.fault w.cancelled (value_in (row s.rows w.root).phase) its)
]

pub busy_told : (s : State) (j : ℕ) (known : Option Work) → option_map (status s.rows j) known ≡ Some Running →
    option_map_or (λ (w : Work). release s j) known (reply.Refused UnknownJob, entry s) ≡ (reply.Refused Busy, entry s)
busy_told s j None told = absurd (some_none Running (sym told))
busy_told s j (Some w) told = let runs = runs_told s j w (some_is (status s.rows j w) Running told) in rw runs refl

pub pending_told : (s : State) (j : ℕ) (known : Option Work) → option_map (status s.rows j) known ≡ Some Running →
    option_map_or (take_outcome s j) known (reply.Refused UnknownJob, entry s) ≡ (reply.Pending, s)
pending_told s j None told = absurd (some_none Running (sym told))
pending_told s j (Some w) told = let runs = runs_told s j w (some_is (status s.rows j w) Running told) in rw runs refl
