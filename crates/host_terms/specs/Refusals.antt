-- With which errors a host refuses a hello whose tenant is known.
use Rattle.std.specs.Prelude.{◌≡◌, ◌⊎◌}
use Rattle.job_language.specs.declared.errors.Error.{Error}
use Rattle.job_language.specs.declared.errors.Error.TheVariants.{ConnectionLimit, NoMemory}

-- the error of a hello whose tenant is known
abbrev pub IsRefusal : Error → Type 0
IsRefusal error = (error ≡ ConnectionLimit) ⊎ (error ≡ NoMemory)
