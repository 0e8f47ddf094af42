use Rattle.std.proofs.Common.{List, subst}
use Rattle.std.specs.Prelude.{All}
use Rattle.tenant_book.specs.Fronts.{FrontData}
use Rattle.server_house.specs.Returned.{IsGivenBack}
use Rattle.server_house.proofs.Seats.{asked_by, if_ok}
use Rattle.server_house.proofs.house.House.close_returned.Goals as goal

pub returns-clause-sessions : goal.returns-clause-sessions
returns-clause-sessions g c = if_ok c.close.result
    (λ ends are. asked_by (IsGivenBack c.args.returned.fronts) c.args.self.doors c.into_parts-seats.result.0.items ends.items
    (subst (λ (all : List FrontData). All (IsGivenBack all) c.into_parts-seats.result.0.items) c.into_parts-seats.ensures.fronts c.into_parts-seats.ensures.given_back) are) c.close.ensures.ends
