use Rattle.std.proofs.Common.{refl}
use Rattle.server_doors.proofs.sessions.SessionDoorsDoor.advance.Goals as goal

pub returns : goal.returns
returns g c = rw (← c.self.view_is) (c.advance-moved.result.1, (c.advance-moved.ensures.advanced, c.call_due.ensures, refl))
