-- What the lines of a dump say: a tenant and its history, or the number of the first line that is none of a dump's.
use Rattle.std.specs.Prelude.{ℕ, ◌+◌, List, [], ◌∷◌, drop, Result, Ok, Err}
use Rattle.std.specs.Option.{option_map_or}
use Rattle.job_language.specs.declared.tenants.Tenant.{Tenant}
use Rattle.job_json.specs.Json.{◌>>=◌, result_map}
use Rattle.request_reader.specs.Lines.{Line}
use Rattle.dump_lines.specs.declared.lines.Said.{Said}
use Rattle.dump_lines.specs.Lines.{said_by}
use Rattle.arena_script.specs.ScriptLines.{first_tenant, text_in}

-- the lines after the first, of which the next has that number
abbrev pub all_said : List Line → ℕ → Result (List Said) ℕ
all_said [] number = Ok []
all_said (line ∷ lines) number = option_map_or (λ (it : Said). result_map (λ others. it ∷ others) (all_said lines (number + 1))) (text_in line >>= said_by) (Err number)

abbrev pub dump_of : List Line → Result (Tenant × List Said) ℕ
dump_of lines = option_map_or (λ (c : Tenant). result_map (λ said. (c, said)) (all_said (drop 1 lines) 2)) (first_tenant lines) (Err 1)
