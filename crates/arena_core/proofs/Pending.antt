-- A collect alone can be pending, with or without release.
use Rattle.std.proofs.Common.{◌≡◌, ◌≢◌, ◌⊎◌, ◌+◌, ℕ, nat_le, Bool, true, false, Option, Some, None, not, ◌&&◌, inl, inr, refl, arith}
use Rattle.std.proofs.lemmas.Bool.{cond_both}
use Rattle.job_language.specs.declared.answers.Reply.{Reply}
use Rattle.job_language.specs.declared.answers.Reply.TheVariants as reply
use Rattle.job_language.specs.declared.requests.Request.{Request}
use Rattle.job_language.specs.declared.requests.Request.TheVariants.{Hello, Submit, Execute, Poll, Collect, Cancel, Cells, Arena, Retire, Release, Take}
use Rattle.std.specs.Prelude.{◌||◌, if◌then◌else◌, map}
use Rattle.std.specs.List.{list_any}
use Rattle.job_language.specs.declared.errors.Error.TheVariants.{JobLimit, HistoryFull, TaskLimit, Busy}
use Rattle.job_language.specs.declared.jobs.Job.{Job}
use Rattle.tenant_model.specs.declared.rows.Row.{Row}
use Rattle.tenant_model.specs.declared.works.TheConstants.{MAX_JOBS}
use Rattle.tenant_model.specs.declared.works.Work.{Work}
use Rattle.thread_cells.specs.Cells.{no_cells}
use Rattle.tenant_model.specs.Changes.{on_job, is_row_limit_met, is_full, entry}
use Rattle.tenant_model.specs.Walks.{is_open, is_job_cancelled}
use Rattle.tenant_model.specs.State.{State}
use Rattle.tenant_model.specs.Asks.{ask, reply_to, current_jobs, has_outcome, retired_work, is_hello, unless_limit, submit, submit_placed, free_slot, of_job, known_job, cancel_by_request, retire}
use Rattle.tenant_model.specs.Asks.{release, released, status}
use Rattle.job_language.specs.Collecting.{IsCollect}

abbrev IsTold : Reply × State → Type 0
IsTold r = r.0 ≢ reply.Pending

limited : (s : State) (made : Reply × State) → IsTold made → IsTold (unless_limit s made)
limited s made told = cond_both (nat_le MAX_JOBS (current_jobs s)) (reply.Refused JobLimit, entry s) (if is_row_limit_met s then (reply.Refused TaskLimit, entry s) else made) IsTold
    (λ _. λ is. absurd (grind (arith, is))) (λ _. cond_both (is_row_limit_met s) (reply.Refused TaskLimit, entry s) made IsTold (λ _. λ is. absurd (grind (arith, is))) (λ _. told))

placed : (s : State) (j : Job) (o : Option ℕ) → IsTold (submit_placed s j o)
placed s j None = λ is. absurd (grind (arith, is))
placed s j (Some slot) = λ is. absurd (grind (arith, is))

known : (s : State) (j : ℕ) (next : Work → Reply × State) → ((w : Work) → IsTold (next w)) → (o : Option Work) → known_job s j ≡ o → IsTold (of_job s j next)
known s j next told None is = rw is (λ e. absurd (grind (arith, e)))
known s j next told (Some w) is = rw is (told w)

asks_only : (s : State) (r : Request) → (reply_to s r).0 ≡ reply.Pending → IsCollect r
asks_only s (Hello name) is = absurd (grind (arith, is))
asks_only s (Submit j) is = absurd (limited s (submit s j) (λ e. absurd (grind (arith, e))) is)
asks_only s (Execute j) is = absurd (limited s (submit_placed s j (free_slot s)) (placed s j (free_slot s)) is)
asks_only s (Poll j) is = absurd (known s j (λ w. (reply.Job j (status s.rows j w), entry s)) (λ w e. absurd (grind (arith, e))) (known_job s j) refl is)
asks_only s (Collect j) is = (j, inl refl)
asks_only s (Take j) is = (j, inr refl)
asks_only s (Release j) is = absurd
    (known s j (λ w. release s j) (λ w. cond_both (has_outcome s.rows j) (reply.Released j, released s j) (reply.Refused Busy, entry s) IsTold (λ _. λ e. absurd (grind (arith, e)))
    (λ _. λ e. absurd (grind (arith, e)))) (known_job s j) refl is)
asks_only s (Cancel j) is = absurd
    (known s j (cancel_by_request s j)
    (λ w. cond_both (is_job_cancelled w || has_outcome s.rows j) (reply.Cancelled j false, entry s) (reply.Cancelled j true, entry (on_job s j (λ v. record v { cancelled = true }))) IsTold
    (λ _. λ e. absurd (grind (arith, e))) (λ _. λ e. absurd (grind (arith, e)))) (known_job s j) refl is)
asks_only s (Cells k) is = absurd (grind (arith, is))
asks_only s Arena is = absurd (grind (arith, is))
asks_only s Retire is = absurd
    (cond_both (list_any (λ (r : Row). is_open r.phase) s.rows) (reply.Refused Busy, entry s)
    (reply.Epoch (s.epoch + 1), entry (record s { jobs = map retired_work s.jobs; cells = no_cells; epoch = s.epoch + 1 })) IsTold (λ _. λ e. absurd (grind (arith, e)))
    (λ _. λ e. absurd (grind (arith, e))) is)

pub pending_asked : (s : State) (r : Request) → (ask s r).0 ≡ reply.Pending → IsCollect r
pending_asked s r = cond_both (is_full s && not (is_hello r)) (reply.Refused HistoryFull, s) (reply_to s r) (λ (a : Reply × State). a.0 ≡ reply.Pending → IsCollect r)
    (λ _. λ is. absurd (grind (arith, is))) (λ _. asks_only s r)
