use Rattle.std.proofs.Common.{◌≡◌, ◌⊎◌, ℕ, Some, length}
use Rattle.std.specs.Prelude.{Contains, vec_capacity}
use Rattle.place_lists.specs.Filing.{filed_in}
use Rattle.arena_rows.proofs.open_rows.filing.doom.Given as goal

abbrev pub invariant-loop-context : goal.invariant-loop-context
invariant-loop-context l = record {
  moved : (p c : ℕ) → Contains l.fn.turned.items c → filed_in l.fn.filing p ≡ Some c → Contains l.turned.items c ⊎ (filed_in l.filing p ≡ Some l.doomed);
  others : (p : ℕ) → (filed_in l.filing p ≡ filed_in l.fn.filing p) ⊎ (filed_in l.filing p ≡ Some l.doomed);
  places : length l.filing.by_place ≡ length l.fn.filing.by_place;
  lists : l.filing.lists ≡ l.fn.filing.lists;
  capacity : vec_capacity l.turned ≡ vec_capacity l.fn.turned;
}

abbrev pub decreases-loop-context : goal.decreases-loop-context
decreases-loop-context l = length l.turned.items
