use Rattle.std.proofs.Common.{rules}
use Rattle.host_folder.proofs.Finished.{some_done, none_wrong}
use Rattle.host_folder.proofs.finishing.finish_right.Goals as goal

pub returns-in-Tenant-clause-finished : goal.returns-in-Tenant-clause-finished
returns-in-Tenant-clause-finished c =
    some_done _ c.in-Some.config c.in-Some.entries.items c.in-Tenant.replay _ (search rules) (search rules) c.finish.ensures.finished c.args.right
    (c.requires _ _ (search rules)) (search rules) c.finish.ensures.torn

pub returns-in-WrongAfter-clause-none : goal.returns-in-WrongAfter-clause-none
returns-in-WrongAfter-clause-none c =
    absurd (none_wrong c.in-Some.config c.in-Some.entries.items c.args.right c.in-WrongAfter.field-0 (search rules) (c.requires _ _ (search rules)) (search rules))
