use Rattle.std.proofs.Common.{◌≡◌, map, drop}
use Rattle.std.specs.Option.{ok_or}
use Rattle.serde_json.specs.View.{view}
use Rattle.job_json.specs.declared.errors.Place.TheVariants.{Head}
use Rattle.job_json.specs.ConfigOf.{tenants_of}
use Rattle.job_json.proofs.Fronts.{with_front}
use Rattle.job_json.proofs.reading.configs.read_tenants.Given as goal

abbrev pub invariant-loop-value : goal.invariant-loop-value
invariant-loop-value l = with_front l.tenants.items (ok_or (tenants_of (map view (drop l.value-index l.values))) Head) ≡ ok_or (tenants_of (map view l.values)) Head
