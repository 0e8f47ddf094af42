-- Who is told that a job is complete is told its status.
use Rattle.std.proofs.Common.{◌≡◌, ℕ, ℤ, [], Option, Some, None, Bool, true, false, ap, subst}
use Rattle.std.specs.Prelude.{◌&&◌, if◌then◌else◌, option_and_then, unwrap_or}
use Rattle.std.specs.Option.{option_map_or}
use Rattle.std.proofs.lemmas.Option.{none-some, same_Some}
use Rattle.job_language.specs.declared.errors.Error.TheVariants.{UnknownJob, HistoryFull}
use Rattle.job_language.specs.declared.answers.Reply.{Reply}
use Rattle.job_language.specs.declared.answers.Reply.TheVariants as reply
use Rattle.job_language.specs.declared.answers.Status.{Status}
use Rattle.job_language.specs.declared.answers.Status.TheVariants.{Running, Cancelled, Complete, Fault}
use Rattle.job_language.specs.declared.requests.Request.{Request}
use Rattle.job_language.specs.declared.requests.Request.TheVariants.{Hello, Submit, Execute, Poll, Collect, Cancel, Cells, Arena, Retire, Release, Take}
use Rattle.tenant_model.specs.declared.works.Work.{Work}
use Rattle.tenant_model.specs.State.{State, at_number, job}
use Rattle.tenant_model.specs.Changes.{is_full, entry}
use Rattle.tenant_model.specs.Asks.{ask, reply_to, collect, take_outcome, released, has_outcome, outcome, status}
use Rattle.source_value.specs.TextValues.{outcome_asked}

abbrev no_work : Work
no_work = record { program = []; fuel = 0; root = 0; cancelled = false; fault = None; retired = false }

abbrev status_told : Reply → Option Status
status_told (reply.Job j s) = Some s
status_told r = None

unless_retired : (t : State) (f : Work → Reply × State) (c : Status) (b : Bool) (w : Work) → status_told (option_map_or f (if b then None else Some w) (reply.Refused UnknownJob, entry t)).0 ≡ Some c
    → status_told (f w).0 ≡ Some c
unless_retired t f c true w e = absurd (none-some c e)
unless_retired t f c false w e = e

-- what is told of a job that is known
of_known : (t : State) (f : Work → Reply × State) (c : Status) (o : Option Work)
    → status_told (option_map_or f (option_and_then (λ (w : Work). if w.retired then None else Some w) o) (reply.Refused UnknownJob, entry t)).0 ≡ Some c
    → status_told (f (unwrap_or o no_work)).0 ≡ Some c
of_known t f c None e = absurd (none-some c e)
of_known t f c (Some w) e = unless_retired t f c w.retired w e

-- a history with room
with_room : (t : State) (r : Reply × State) (c : Status) (b : Bool) → status_told (if◌then◌else◌ {A = Reply × State} (b && true) (reply.Refused HistoryFull, t) r).0 ≡ Some c → status_told r.0 ≡ Some c
with_room t r c true e = absurd (none-some c e)
with_room t r c false e = e

collected : (t : State) (j : ℕ) (s : Status) (v : ℤ) → status_told (collect t j s).0 ≡ Some (Complete v) → s ≡ Complete v
collected t j Running v e = absurd (none-some (Complete v) e)
collected t j Cancelled v e = same_Some Cancelled (Complete v) e
collected t j (Complete w) v e = same_Some (Complete w) (Complete v) e
collected t j (Fault f) v e = same_Some (Fault f) (Complete v) e

taken : (t u : State) (j : ℕ) (s : Status) (v : ℤ) (b : Bool) → status_told (if◌then◌else◌ {A = Reply × State} b (reply.Job j s, u) (reply.Pending, t)).0 ≡ Some (Complete v) →
    (if b then s else Running) ≡ Complete v
taken t u j s v true e = same_Some s (Complete v) e
taken t u j s v false e = absurd (none-some (Complete v) e)

module _ (t : State) (j : ℕ) (v : ℤ) where
  polled : status_told (ask t (Poll j)).0 ≡ Some (Complete v) → status t.rows j (job t.jobs j) ≡ Complete v
  polled e = same_Some (status t.rows j (job t.jobs j)) (Complete v)
      (of_known t (λ w. (reply.Job j (status t.rows j w), entry t)) (Complete v) (at_number t.jobs j) (with_room t (reply_to t (Poll j)) (Complete v) (is_full t) e))

  collects : status_told (ask t (Collect j)).0 ≡ Some (Complete v) → status t.rows j (job t.jobs j) ≡ Complete v
  collects e = collected t j (status t.rows j (job t.jobs j)) v
      (of_known t (λ w. collect t j (status t.rows j w)) (Complete v) (at_number t.jobs j) (with_room t (reply_to t (Collect j)) (Complete v) (is_full t) e))

  takes : status_told (ask t (Take j)).0 ≡ Some (Complete v) → status t.rows j (job t.jobs j) ≡ Complete v
  takes e = taken t (released t j) j (outcome t.rows (job t.jobs j)) v (has_outcome t.rows j)
      (of_known t (take_outcome t j) (Complete v) (at_number t.jobs j) (with_room t (reply_to t (Take j)) (Complete v) (is_full t) e))

pub told : (t : State) (q : Request) (j : ℕ) (v : ℤ) → outcome_asked q ≡ Some j → (ask t q).0 ≡ reply.Job j (Complete v) → status t.rows j (job t.jobs j) ≡ Complete v
told t (Poll i) j v is e = subst (λ k. status t.rows k (job t.jobs k) ≡ Complete v) (same_Some i j is) (polled t i v (ap status_told e))
told t (Collect i) j v is e = subst (λ k. status t.rows k (job t.jobs k) ≡ Complete v) (same_Some i j is) (collects t i v (ap status_told e))
told t (Take i) j v is e = subst (λ k. status t.rows k (job t.jobs k) ≡ Complete v) (same_Some i j is) (takes t i v (ap status_told e))
told t (Hello name) j v is e = absurd (none-some j is)
told t (Submit b) j v is e = absurd (none-some j is)
told t (Execute b) j v is e = absurd (none-some j is)
told t (Cancel i) j v is e = absurd (none-some j is)
told t (Cells k) j v is e = absurd (none-some j is)
told t Arena j v is e = absurd (none-some j is)
told t Retire j v is e = absurd (none-some j is)
told t (Release i) j v is e = absurd (none-some j is)
