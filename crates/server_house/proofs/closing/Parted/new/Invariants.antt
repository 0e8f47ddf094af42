use Rattle.std.proofs.Common.{◌≡◌, not, filter}
use Rattle.server_house.specs.Houses.{is_of}
use Rattle.tenant_record.specs.SeatData.{SeatData}
use Rattle.server_house.proofs.closing.Parted.new.Given as goal

abbrev pub invariant-loop-seat : goal.invariant-loop-seat
invariant-loop-seat l = record {
  own : l.own.items ≡ filter (is_of l.tenant) l.yielded;
  others : l.others.items ≡ filter (λ (s : SeatData). not (is_of l.tenant s)) l.yielded;
}
