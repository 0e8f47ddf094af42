use Rattle.std.proofs.Common.{suc, subst}
use Rattle.std.specs.Arc.{arc_value}
use Rattle.server_house.specs.Owned.{AsksThere, IsPlace, client_of}
use Rattle.server_house.specs.Shared.{SharedSeen}
use Rattle.server_house.proofs.owned.OwnClient.ask.Goals as goal

pub invariant_of-client : goal.invariant_of-client
invariant_of-client g c =
    let before = c.self.invariant.asked in
    let place = c.ask_there-place.result.0 in
    let told = c.ask_there-place.result.1 in
    let same = c.deref.ensures in
    let h = c.self.inside in
    let is : IsPlace (arc_value h.house) place.pass place.fronts.items place.seats.items =
    subst (λ (s : SharedSeen). IsPlace s place.pass place.fronts.items place.seats.items) same c.ask_there-place.ensures.place in
    record {
      post = record { pass = is.queues; fronts = is.fronts };
      seats = is.count;
      own = is.seats;
      asked = record {
        client = before.client;
        begins = before.begins;
        count = suc before.count;
        asks = (
          client_of (arc_value h.house) h.pass h.fronts.items h.seats.items,
          (
            before.asks,
            (
              c.args.request,
              told,
              subst (λ (s : SharedSeen). AsksThere (client_of s h.pass h.fronts.items h.seats.items) c.args.request told (client_of s place.pass place.fronts.items place.seats.items)) same
                  c.ask_there-place.ensures.asks,
            ),
          ),
        );
      };
    }
