use Rattle.std.proofs.Common.{subst, inl, inr}
use Rattle.server_doors.specs.Sessions.{SessionSeen}
use Rattle.server_house.specs.Visits.{LeavesSlot}
use Rattle.server_house.proofs.Seats.{if_ok}
use Rattle.server_house.proofs.ServedOrNot.{either_way, if_none}
use Rattle.server_house.proofs.sessions.serve_next.Goals as goal

pub returns-clause-served : goal.returns-clause-served
returns-clause-served g c = if_ok c.serve-end.result (λ end serves. record {
  session = c.serve-end.new.doors;
  serves = serves;
  leaves = record { home = c.leave.ensures.home; session = c.leave.ensures.session };
}) c.serve-end.ensures.serves

pub returns-clause-refused : goal.returns-clause-refused
returns-clause-refused g c = if_none c.serve-end.result
    (λ same. (same.0, same.1, subst (λ (s : SessionSeen). LeavesSlot s c.leave.new.self) same.2 (record { home = c.leave.ensures.home; session = c.leave.ensures.session })))
    c.serve-end.ensures.refused

pub returns-clause-visit : goal.returns-clause-visit
returns-clause-visit g c = either_way c.serve-end.result (returns-clause-served g c) (returns-clause-refused g c)
    (λ end served. inl (record {
      bytes = g.I.Read.remaining c.args.reader.now;
      unread = g.I.Read.remaining c.serve-end.new.reader;
      written = g.O.Write.contents c.args.writer.now;
      out = g.O.Write.contents c.serve-end.new.writer;
      end = end;
      serves = served;
    }))
    (λ same. inr same.2)
