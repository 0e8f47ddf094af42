use Rattle.std.proofs.Common.{rules}
use Rattle.std.proofs.lemmas.List.Sorted.{IsPermutation-swap_remove}
use Rattle.server_house.proofs.fresh.FreshSeats.take_seat.Goals as goal

pub returns-clause-left : goal.returns-clause-left
returns-clause-left c = search (rules, IsPermutation-swap_remove)
