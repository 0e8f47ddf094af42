use Rattle.std.proofs.Common.{◌≡◌, ℕ, length}
use Rattle.place_lists.specs.Filing.{filed_count}
use Rattle.place_lists.proofs.Filed.{Moves}
use Rattle.place_lists.proofs.filing.Filing.file_all.Given as goal

abbrev pub invariant-loop-place : goal.invariant-loop-place
invariant-loop-place l = record {
  moves : (p : ℕ) → Moves l.from l.to l.fn.self l.self p;
  places : length l.self.by_place ≡ length l.fn.self.by_place;
  lists : l.self.lists ≡ l.fn.self.lists;
}

abbrev pub decreases-loop-place : goal.decreases-loop-place
decreases-loop-place l = filed_count l.self l.from
