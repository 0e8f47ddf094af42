use Rattle.std.proofs.Common.{◌≡◌, ◌+◌, length, take}
use Rattle.tenant_record.specs.Closing.{asks_told}
use Rattle.tenant_record.proofs.closing.are_all_told.Given as goal

abbrev pub invariant-loop-seat : goal.invariant-loop-seat
invariant-loop-seat l = l.left + asks_told (take l.seat-index l.seats) ≡ length l.cell.askers
