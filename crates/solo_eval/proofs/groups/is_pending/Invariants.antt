use Rattle.std.proofs.Common.{◌≡◌, ◌+◌, ◌&&◌, nat_lt, drop}
use Rattle.std.specs.Prelude.{filter}
use Rattle.std.specs.List.{list_any, enumerate_from}
use Rattle.tenant_model.specs.Walks.{NumberedRow, is_open, is_pending, is_spawned_by, mark}
use Rattle.solo_eval.proofs.groups.is_pending.Given as goal

abbrev pub invariant-loop-place : goal.invariant-loop-place
invariant-loop-place l =
    list_any (λ (p : NumberedRow). is_open p.1.phase)
    (filter (λ p. is_spawned_by l.maker l.group p.1.kind && nat_lt (mark l.rows l.maker l.group).rows p.0) (enumerate_from (l.place + 1) (drop l.place l.rows))) ≡ is_pending l.rows l.maker l.group
