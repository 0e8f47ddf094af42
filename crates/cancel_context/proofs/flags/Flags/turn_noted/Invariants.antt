use Rattle.std.proofs.Common.{◌≡◌, ◌+◌, ◌≤◌, ◌⊎◌, ℕ, true, [], length}
use Rattle.std.specs.Prelude.{Contains, count_by, vec_capacity}
use Rattle.cancel_context.specs.Order.{IsIn}
use Rattle.cancel_context.specs.Flags.{flag, differs, IsSpreading}
use Rattle.cancel_context.proofs.flags.Flags.turn_noted.Given as goal

abbrev pub invariant-loop-parent : goal.invariant-loop-parent
invariant-loop-parent l = record {
  spreads : IsSpreading l.bindings l.self.flags l.self.reached [] true;
  noted : (c : ℕ) → (flag l.self.flags c ≡ flag l.fn.self.flags c) ⊎ (IsIn l.self.reached c ⊎ Contains l.turned.items c);
  room : length l.turned.items + (length l.self.reached + count_by (differs true) l.self.flags) ≤ length l.self.flags;
  capacity : vec_capacity l.turned ≡ vec_capacity l.fn.turned;
}

abbrev pub decreases-loop-parent : goal.decreases-loop-parent
decreases-loop-parent l = length l.self.reached + count_by (differs true) l.self.flags
