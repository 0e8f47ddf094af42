use Rattle.std.proofs.Common.{◌≡◌, ◌≤◌, ℕ, filter, length}
use Rattle.server_house.specs.Houses.{AreEnds, AreSeenIn, is_of}
use Rattle.server_house.proofs.house.House.close.Given as goal

abbrev pub invariant-loop-door : goal.invariant-loop-door
invariant-loop-door g l = record {
  ends : AreEnds l.yielded l.fn.seats.items l.ends.items;
  seen : AreSeenIn l.fn.fronts l.yielded l.ends.items;
  left : (t : ℕ) → length l.yielded ≤ t → filter (is_of t) l.left.items ≡ filter (is_of t) l.fn.seats.items;
}
