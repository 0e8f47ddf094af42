use Rattle.std.proofs.Common.{◌≡◌, drop, max}
use Rattle.std.specs.Prelude.{fold}
use Rattle.tenant_model.specs.Changes.{task_height, task_height_of}
use Rattle.solo_eval.proofs.stacks.task_height.Given as goal

abbrev pub invariant-loop-row : goal.invariant-loop-row
invariant-loop-row l = fold (λ most r. max most (task_height_of l.slot r)) l.highest (drop l.row-index l.rows) ≡ task_height l.rows l.slot
