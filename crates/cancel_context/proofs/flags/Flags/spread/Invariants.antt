use Rattle.std.proofs.Common.{◌≡◌, ◌+◌, ◌⊎◌, ℕ, length}
use Rattle.std.specs.Prelude.{count_by}
use Rattle.cancel_context.specs.Order.{IsIn}
use Rattle.cancel_context.specs.Flags.{flag, differs}
use Rattle.cancel_context.proofs.Spread.{IsVisiting}
use Rattle.cancel_context.proofs.Rows.{steps}
use Rattle.cancel_context.proofs.flags.Flags.spread.Given as goal

abbrev pub invariant-loop-following : goal.invariant-loop-following
invariant-loop-following l = record {
  visiting : IsVisiting l.bindings l.below l.self.flags l.self.reached l.following l.fn.parent l.is_cancelled;
  fewer : length l.self.reached + count_by (differs l.is_cancelled) l.self.flags ≡ length l.fn.self.reached + count_by (differs l.is_cancelled) l.fn.self.flags;
  turned : (c : ℕ) → (flag l.self.flags c ≡ flag l.fn.self.flags c) ⊎ IsIn l.self.reached c;
  kept : (c : ℕ) → IsIn l.fn.self.reached c → IsIn l.self.reached c;
}

abbrev pub decreases-loop-following : goal.decreases-loop-following
decreases-loop-following l = steps (length l.below.next) l.below.next l.following
