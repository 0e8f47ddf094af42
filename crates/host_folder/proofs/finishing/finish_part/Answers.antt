use Rattle.std.proofs.Common.{rules}
use Rattle.host_folder.proofs.Finished.{all_done}
use Rattle.host_folder.proofs.finishing.finish_part.Goals as goal

pub returns-in-Tenant-clause-finished : goal.returns-in-Tenant-clause-finished
returns-in-Tenant-clause-finished c =
    all_done _ c.in-Some.config c.in-Some.entries.items c.in-Tenant.replay _ (search rules) (search rules) c.finish.ensures.finished (search rules) c.finish.ensures.torn
