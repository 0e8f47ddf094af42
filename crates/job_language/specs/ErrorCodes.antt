-- The codes and names of errors, and the codes of job faults.
use Rattle.std.specs.Prelude.{ℕ, List, codes}
use Rattle.job_language.specs.declared.errors.Error.{Error}
use Rattle.job_language.specs.declared.errors.Error.TheVariants.{LineTooLong, BadJson, BadRequest, BadProgram, UnknownTenant, UnknownJob, JobLimit, HistoryFull, NoMemory, TaskLimit, NoTenant, Busy}
use Rattle.job_language.specs.declared.errors.Error.TheVariants.{ConnectionLimit}
use Rattle.job_language.specs.declared.errors.JobFault.{JobFault}
use Rattle.job_language.specs.declared.errors.JobFault.TheVariants as fault

-- the code of an error, and its name
abbrev pub code_and_name : Error → ℕ × List ℕ
code_and_name LineTooLong = (1, codes "line_too_long")
code_and_name BadJson = (2, codes "bad_json")
code_and_name BadRequest = (3, codes "bad_request")
code_and_name BadProgram = (4, codes "bad_program")
code_and_name UnknownTenant = (5, codes "unknown_tenant")
code_and_name UnknownJob = (6, codes "unknown_job")
code_and_name JobLimit = (7, codes "job_limit")
code_and_name HistoryFull = (8, codes "history_full")
code_and_name NoMemory = (9, codes "no_memory")
code_and_name TaskLimit = (10, codes "task_limit")
code_and_name NoTenant = (11, codes "no_tenant")
code_and_name Busy = (12, codes "busy")
code_and_name ConnectionLimit = (13, codes "connection_limit")

abbrev pub code_of : Error → ℕ
code_of error = (code_and_name error).0

abbrev pub name_of : Error → List ℕ
name_of error = (code_and_name error).1

abbrev pub fault_code_of : JobFault → ℕ
fault_code_of fault.Division = 1
fault_code_of fault.Fuel = 2
fault_code_of fault.TooDeep = 3
fault_code_of fault.TaskLimit = 4
fault_code_of fault.MissingWait = 5
