use Rattle.std.proofs.Common.{◌≡◌, ◌<◌, ℕ}
use Rattle.std.specs.Prelude.{slice_index_or}
use Rattle.tenant_book.specs.Fronts.{BeginsIn, FrontData}
use Rattle.tenant_lock.proofs.held.Held.meet_all.Given as goal

abbrev pub invariant-loop-front : goal.invariant-loop-front
invariant-loop-front g l = (k : ℕ) (z : FrontData) → k < l.front-index → (slice_index_or l.fronts k z).life ≡ l.self.life → BeginsIn (slice_index_or l.fronts k z) l.self.cell.history
