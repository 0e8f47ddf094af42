use Rattle.std.proofs.Common.{◌≡◌, drop, take}
use Rattle.std.specs.Prelude.{All}
use Rattle.job_language.specs.Tenant.{IsValidTenant}
use Rattle.job_language.specs.Configuration.{are_distinct, names_of}
use Rattle.job_language.proofs.configs.are_distinct.Given as goal

abbrev pub invariant-loop-i : goal.invariant-loop-i
invariant-loop-i l = record {
  rest : are_distinct (names_of (drop l.i l.tenants)) ≡ are_distinct (names_of l.tenants);
  each : All IsValidTenant (take l.i l.tenants);
}
