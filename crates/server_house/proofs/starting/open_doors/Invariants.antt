use Rattle.std.proofs.Common.{◌≡◌, ◌++◌, map, drop}
use Rattle.std.specs.List.{enumerate_from, flat_map}
use Rattle.tenant_record.specs.SeatData.{first_seats}
use Rattle.server_house.specs.Houses.{door_of, doors_of, plain, seats_of}
use Rattle.server_house.proofs.starting.open_doors.Given as goal

abbrev pub invariant-loop-number : goal.invariant-loop-number
invariant-loop-number g l =
    (map plain l.doors.items ++ map (door_of l.seats) (enumerate_from l.number (drop l.number l.tenants)) ≡ doors_of l.seats l.tenants) ×
    (l.all.items ++ flat_map (λ (t : _). first_seats t.0 t.1.steps l.seats) (enumerate_from l.number (drop l.number l.tenants)) ≡ seats_of l.seats l.tenants)
