use Rattle.std.proofs.Common.{refl}
use Rattle.server_doors.proofs.sessions.SessionDoorsDoor.commit.Goals as goal

pub returns : goal.returns
returns g c = rw (← c.self.view_is) (c.commit-moved.result.1, (c.commit-moved.ensures.committed, c.call_due.ensures, refl))
