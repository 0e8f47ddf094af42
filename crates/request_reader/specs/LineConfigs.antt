-- The configuration that a line holds.
use Rattle.std.specs.Prelude.{ℕ, List, Option}
use Rattle.job_language.specs.Configuration.{Configuration}
use Rattle.job_json.specs.ConfigOf.{config_of}
use Rattle.job_json.specs.Json.{◌>>=◌}
use Rattle.request_reader.specs.LineAsks.{value_in}

-- as the first line of a script, or the file of a server
abbrev pub config_in : List ℕ → Option Configuration
config_in line = value_in line >>= config_of
