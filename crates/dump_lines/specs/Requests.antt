-- The requests and the tenant that lines hold.
use Rattle.std.specs.Prelude.{ℕ, List, Option, Result, Err, codes}
use Rattle.std.specs.Option.{option_map_or}
use Rattle.serde_json.specs.Data.{Data}
use Rattle.job_json.specs.Json.{◌>>=◌, get_as}
use Rattle.job_json.specs.TenantOf.{tenant_of}
use Rattle.job_language.specs.declared.errors.Error.{Error}
use Rattle.job_language.specs.declared.errors.Error.TheVariants.{BadRequest}
use Rattle.job_language.specs.declared.requests.Request.{Request}
use Rattle.job_language.specs.declared.tenants.Tenant.{Tenant}
use Rattle.request_reader.specs.Asks.{asked_by_value}
use Rattle.request_reader.specs.LineAsks.{value_in}
use Rattle.request_reader.specs.Ready.{ready_of}
use Rattle.dump_lines.specs.Replies.{only}

-- the request that a value spells, with its job read, or why it is refused
abbrev pub request_in : Data → Result Request Error
request_in d = option_map_or ready_of (asked_by_value d) (Err BadRequest)

-- the tenant that a value names, with nothing beside it
abbrev pub tenant_in_value : Data → Option Tenant
tenant_in_value d = only 1 d (get_as (codes "tenant") tenant_of d)

-- the tenant that a line names, as the first of a dump does
abbrev pub tenant_in : List ℕ → Option Tenant
tenant_in line = value_in line >>= tenant_in_value
