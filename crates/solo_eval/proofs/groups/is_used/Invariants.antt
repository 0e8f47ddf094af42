use Rattle.std.proofs.Common.{◌≡◌, ◌+◌, ◌&&◌, nat_lt, length, drop}
use Rattle.std.specs.Prelude.{filter}
use Rattle.std.specs.List.{enumerate_from}
use Rattle.tenant_model.specs.Walks.{is_spawned_by, is_used, mark}
use Rattle.solo_eval.proofs.groups.is_used.Given as goal

abbrev pub invariant-loop-place : goal.invariant-loop-place
invariant-loop-place l =
    nat_lt 0 (length (filter (λ p. is_spawned_by l.maker l.group p.1.kind && nat_lt (mark l.rows l.maker l.group).rows p.0) (enumerate_from (l.place + 1) (drop l.place l.rows)))) ≡
    is_used l.rows l.maker l.group
