use Rattle.std.proofs.Common.{rules, ap, sym, ◌∙◌, refl}
use Rattle.server_doors.proofs.Sees.{fronts_set}
use Rattle.server_doors.proofs.places.commit.Goals as goal

pub returns-clause-fronts : goal.returns-clause-fronts
returns-clause-fronts g c = fronts_set c.args.doors.now c.args.fronts.now.items _ c.tenant-tenant.result c.index-doors-tenant.result c.commit_and_look.new.me c.requires.fronts c.index-doors-tenant.is
    c.commit_and_look.ensures.front refl
