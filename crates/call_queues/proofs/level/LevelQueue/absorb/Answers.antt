use Rattle.std.proofs.Common.{◌<◌, length, sym, ap, subst, ◌∙◌}
use Rattle.call_queues.specs.Levels.{LevelPassSeen, LevelReturnsSeen}
use Rattle.call_queues.proofs.Rules.{merges_at, other_view}
use Rattle.call_queues.proofs.level.LevelQueue.absorb.Goals as goal

pub absorb-requires-clause-rule : goal.absorb-requires-clause-rule
absorb-requires-clause-rule c =
    let n = ap (λ (p : LevelPassSeen). p.number) c.pass.view_is in
    merges_at _ _ _ _ _ _ _ _ _ c.returns.invariant.1 (other_view _ _ _ _ c.pass.invariant.1 (subst (λ k. 0 < k) (sym n) c.requires.next.1))
    (n ∙ c.requires.next.0 ∙ ap (λ (l : LevelReturnsSeen). length l.back) (sym c.returns.view_is))
