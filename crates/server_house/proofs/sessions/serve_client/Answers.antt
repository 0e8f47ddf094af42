use Rattle.std.proofs.Common.{false, ap, subst, sym, ◌∙◌}
use Rattle.std.specs.Prelude.{All}
use Rattle.server_doors.specs.Sessions.{SessionSeen}
use Rattle.session_core.specs.Sessions.{Serves}
use Rattle.server_house.specs.Returned.{IsGivenBack}
use Rattle.server_house.specs.Sessions.{RepliesThere}
use Rattle.server_house.proofs.Seats.{fresh_given_back, if_ok, session_given_back}
use Rattle.server_house.proofs.ServedOrNot.{either_way, if_none}
use Rattle.server_house.proofs.sessions.serve_client.Goals as goal

pub returns-clause-served : goal.returns-clause-served
returns-clause-served g c =
    let first = c.into_doors-doors.ensures.session in
    if_ok c.serve-end.result (λ end serves. record {
      session = c.serve-end.new.doors;
      serves = subst (λ (s : SessionSeen). Serves RepliesThere (g.I.Read.remaining c.args.reader.now) (g.I.Read.remaining c.serve-end.new.reader) (g.O.Write.contents c.args.writer.now)
          (g.O.Write.contents c.serve-end.new.writer) (false, s) c.serve-end.new.doors end) first serves;
      seats_are = c.into_parts-seats.ensures.seats;
      home = c.into_parts-seats.ensures.home;
    }) c.serve-end.ensures.serves

pub returns-clause-refused : goal.returns-clause-refused
returns-clause-refused g c =
    let first = c.into_doors-doors.ensures.session in
    if_none c.serve-end.result
    (λ same. (same.0, same.1, c.into_parts-seats.ensures.seats ∙ ap (λ (s : SessionSeen). s.seats) (same.2 ∙ first)))
    c.serve-end.ensures.refused

pub returns-clause-given_back : goal.returns-clause-given_back
returns-clause-given_back g c =
    let begins = c.into_doors-doors.ensures.client in
    either_way c.serve-end.result (returns-clause-served g c) (returns-clause-refused g c)
    (λ end served. session_given_back c.args.client _ _ _ _ _ _ end begins served)
    (λ same. subst (All (IsGivenBack c.into_parts-seats.result.1.items)) (sym same.2) (fresh_given_back c.into_parts-seats.result.1.items c.args.client.seats begins.fresh))
