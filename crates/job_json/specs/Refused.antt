-- Why a value was not read.
use Rattle.job_json.specs.declared.errors.Refused.{Refused}
use Rattle.job_json.specs.declared.errors.Refused.TheVariants.{Bad, Memory}

abbrev pub IsMemory : Refused → Type 0
IsMemory (Bad place) = ⊥
IsMemory (Memory e) = Unit {0}
