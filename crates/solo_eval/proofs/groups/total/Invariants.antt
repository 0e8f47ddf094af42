use Rattle.std.proofs.Common.{◌≡◌, ◌+◌, ◌&&◌, nat_lt, drop}
use Rattle.std.specs.Prelude.{filter, fold}
use Rattle.std.specs.Int.{int_wrapping_add, w64}
use Rattle.std.specs.List.{enumerate_from}
use Rattle.tenant_model.specs.Walks.{NumberedRow, is_spawned_by, mark, total, value_in}
use Rattle.solo_eval.proofs.groups.total.Given as goal

abbrev pub invariant-loop-place : goal.invariant-loop-place
invariant-loop-place l =
    fold (λ sum (p : NumberedRow). int_wrapping_add w64 sum (value_in p.1.phase)) l.total
    (filter (λ p. is_spawned_by l.maker l.group p.1.kind && nat_lt (mark l.rows l.maker l.group).rows p.0) (enumerate_from (l.place + 1) (drop l.place l.rows))) ≡ total l.rows l.maker l.group
