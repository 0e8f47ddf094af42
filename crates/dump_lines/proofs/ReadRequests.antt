-- A request whose job is read, by the value that asks it.
use Rattle.std.proofs.Common.{◌≡◌, ◌≢◌, Option, Some, None, Result, Ok, Err, refl, sym, ap, ◌∙◌}
use Rattle.std.specs.Option.{ok_or, option_map_or}
use Rattle.job_language.specs.declared.errors.Error.{Error}
use Rattle.job_language.specs.declared.errors.Error.TheVariants as error
use Rattle.job_language.specs.declared.requests.Request.{Request}
use Rattle.request_reader.specs.Asks.{AskedData}
use Rattle.request_reader.specs.Exact.{Refuses}
use Rattle.request_reader.specs.Ready.{ready_of}

-- A refusal that is not for memory is the one that is wanted.
not_memory : (want : Result Request Error) (takes : Type 0) (e : Error) → e ≢ error.NoMemory → Refuses takes e want → Err e ≡ want
not_memory want takes error.NoMemory other h = absurd (other refl)
not_memory want takes error.LineTooLong other h = sym h
not_memory want takes error.BadJson other h = sym h
not_memory want takes error.BadRequest other h = sym h
not_memory want takes error.BadProgram other h = sym h
not_memory want takes error.UnknownTenant other h = sym h
not_memory want takes error.UnknownJob other h = sym h
not_memory want takes error.JobLimit other h = sym h
not_memory want takes error.HistoryFull other h = sym h
not_memory want takes error.TaskLimit other h = sym h
not_memory want takes error.NoTenant other h = sym h
not_memory want takes error.Busy other h = sym h
not_memory want takes error.ConnectionLimit other h = sym h

-- So is one of the job of what a value asks.
pub refused_read : (asked : Option AskedData) (a : AskedData) (takes : Type 0) (e : Error) → Ok a ≡ ok_or asked error.BadRequest → e ≢ error.NoMemory → Refuses takes e (ready_of a) →
    Err e ≡ option_map_or ready_of asked (Err error.BadRequest)
refused_read None a takes e is other h = cc
refused_read (Some b) a takes e is other h =
    let same : a ≡ b = cc in
    not_memory (ready_of a) takes e other h ∙ ap ready_of same
