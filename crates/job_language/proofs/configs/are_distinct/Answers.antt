use Rattle.std.proofs.Common.{arith, subst}
use Rattle.std.specs.Prelude.{All}
use Rattle.std.proofs.lemmas.Grind.{common_steps}
use Rattle.std.proofs.lemmas.List.{take_all}
use Rattle.std.proofs.lemmas.List.Elements.{All-more}
use Rattle.job_language.specs.Tenant.{IsValidTenant}
use Rattle.job_language.proofs.configs.are_distinct.Goals as goal

pub loop-i-preserved : goal.loop-i-preserved
loop-i-preserved c = record {
  rest = grind (arith, common_steps);
  each = All-more IsValidTenant c.args.tenants.now c.loop-i.i c.index-tenants-i.result (omega arith) c.loop-i.invariant.each (subst IsValidTenant c.index-tenants-i.is c.tenant-tenant.ensures.valid);
}

pub returns-clause-each : goal.returns-clause-each
returns-clause-each c = subst (All IsValidTenant) (take_all c.loop-i.i c.args.tenants.now (omega arith)) c.loop-i.invariant.each
