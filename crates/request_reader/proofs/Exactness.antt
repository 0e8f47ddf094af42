-- Refusals that carry over from one request to another.
use Rattle.std.proofs.Common.{◌≡◌, Result, Ok, Err, sym}
use Rattle.job_language.specs.declared.errors.Error.{Error}
use Rattle.job_language.specs.declared.errors.Error.TheVariants as error
use Rattle.job_json.specs.Json.{result_map}
use Rattle.job_json.specs.declared.errors.Place.{Place}
use Rattle.job_language.specs.declared.jobs.Job.{Job}
use Rattle.job_language.specs.declared.requests.Request.{Request}
use Rattle.request_reader.specs.Exact.{Refuses, ExactOrNoMemory}
use Rattle.request_reader.specs.Ready.{job_or_refused, with_job}

module _ {B C : Type 0} (takes takes' : Type 0) (want : Result B Error) (want' : Result C Error) (f : takes → takes') where
  -- Memory is taken no less, and the same errors are wanted.
  Refuses-same : (e : Error) → (want ≡ Err e → want' ≡ Err e) → Refuses takes e want → Refuses takes' e want'
  Refuses-same error.NoMemory same h = f h
  Refuses-same error.LineTooLong same h = same h
  Refuses-same error.BadJson same h = same h
  Refuses-same error.BadRequest same h = same h
  Refuses-same error.BadProgram same h = same h
  Refuses-same error.UnknownTenant same h = same h
  Refuses-same error.UnknownJob same h = same h
  Refuses-same error.JobLimit same h = same h
  Refuses-same error.HistoryFull same h = same h
  Refuses-same error.TaskLimit same h = same h
  Refuses-same error.NoTenant same h = same h
  Refuses-same error.Busy same h = same h
  Refuses-same error.ConnectionLimit same h = same h

refused-wanted : {B : Type 0} (takes : Type 0) (want : Result B Error) → takes → (e : Error) → want ≡ Err e → Refuses takes e want
refused-wanted takes want t error.NoMemory h = t
refused-wanted takes want t error.LineTooLong h = h
refused-wanted takes want t error.BadJson h = h
refused-wanted takes want t error.BadRequest h = h
refused-wanted takes want t error.BadProgram h = h
refused-wanted takes want t error.UnknownTenant h = h
refused-wanted takes want t error.UnknownJob h = h
refused-wanted takes want t error.JobLimit h = h
refused-wanted takes want t error.HistoryFull h = h
refused-wanted takes want t error.TaskLimit h = h
refused-wanted takes want t error.NoTenant h = h
refused-wanted takes want t error.Busy h = h
refused-wanted takes want t error.ConnectionLimit h = h

-- An answer that is the wanted one is exact.
pub Exact-wanted : {A B : Type 0} (view : A → B) (takes : Type 0) (want : Result B Error) → takes → (answer : Result A Error) → result_map view answer ≡ want → ExactOrNoMemory view takes answer want
Exact-wanted view takes want t (Ok x) h = sym h
Exact-wanted view takes want t (Err e) h = refused-wanted takes want t e (sym h)

refused_with : (request : Job → Request) (want : Result Job Place) (e : Error) → job_or_refused want ≡ Err e → with_job request want ≡ Err e
refused_with request (Ok job) e h = cc
refused_with request (Err place) e h = cc

-- A request is refused as its job is.
pub refuses_with_job : (request : Job → Request) (want : Result Job Place) (takes : Type 0) → takes → (e : Error) → Refuses (Unit {0}) e (job_or_refused want) → Refuses takes e (with_job request want)
refuses_with_job request want takes t e h = Refuses-same (Unit {0}) takes (job_or_refused want) (with_job request want) (λ _. t) e (refused_with request want e) h
