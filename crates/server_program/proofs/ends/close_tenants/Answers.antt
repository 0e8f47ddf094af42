use Rattle.std.proofs.Common.{subst, sym}
use Rattle.server_program.specs.Ends.{AreOwnEnds}
use Rattle.server_program.proofs.OwnEnds.{own_from}
use Rattle.server_program.proofs.ends.close_tenants.Goals as goal

pub report_ends-requires : goal.report_ends-requires
report_ends-requires g c =
    let ends = c.in_ok-ends.ends.items in
    subst (AreOwnEnds c.args.configs.now) (sym c.as_slice.ensures.value)
    (own_from c.requires.seats 0 c.args.configs.now c.args.house.doors c.args.returned.seats ends c.requires.are c.in_ok-ends.ensures.ends)
