use Rattle.std.proofs.Common.{◌≡◌, ◌+◌, drop}
use Rattle.std.specs.Prelude.{find}
use Rattle.std.specs.Option.{option_map}
use Rattle.std.specs.List.{enumerate_from}
use Rattle.tenant_model.specs.Walks.{NumberedRow, height, is_live_at, top}
use Rattle.solo_eval.proofs.stacks.top.Given as goal

abbrev pub invariant-loop-place : goal.invariant-loop-place
invariant-loop-place l =
    option_map (λ (p : NumberedRow). p.0) (find (λ (p : NumberedRow). is_live_at l.slot (height l.rows l.slot) p.1.phase) (enumerate_from (l.place + 1) (drop l.place l.rows))) ≡ top l.rows l.slot
