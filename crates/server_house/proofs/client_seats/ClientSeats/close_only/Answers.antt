use Rattle.std.proofs.Common.{◌∷◌, []}
use Rattle.server_house.specs.Owned.{IsGivenBackByClient}
use Rattle.server_house.proofs.Seats.{asked_by, if_some}
use Rattle.server_house.proofs.client_seats.ClientSeats.close_only.Goals as goal

pub returns-clause-sessions : goal.returns-clause-sessions
returns-clause-sessions g c = if_some c.close_only.result (λ end are. asked_by IsGivenBackByClient c.args.house.doors c.self.inside.seats.items (end ∷ []) c.self.invariant are)
    c.close_only.ensures.ends
