use Rattle.server_house.proofs.Houses.{own_end}
use Rattle.server_house.proofs.closing.close_door.Goals as goal

pub returns-clause-end : goal.returns-clause-end
returns-clause-end g c = record {
  closed = c.close.ensures.closed;
  own = own_end c.args.door c.args.seats.items c.close.result c.requires.most_slots c.close.ensures.closed;
  refused = c.close.ensures.refused;
}
