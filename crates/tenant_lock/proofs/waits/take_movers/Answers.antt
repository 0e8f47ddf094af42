use Rattle.std.proofs.Common.{rules, ◌≡◌, length, sym, ◌∙◌, arith}
use Rattle.std.proofs.lemmas.Bool.{both_ways}
use Rattle.tenant_lock.proofs.Telling.{told_from, named_more, left_more}
use Rattle.tenant_lock.proofs.waits.take_movers.Goals.{then-has+then-can_move, else-has, else-has-via-then-has+else-can_move, else-has-via-else-has}
use Rattle.tenant_lock.proofs.waits.take_movers.Goals as goal

pub loop-slot-init : goal.loop-slot-init
loop-slot-init c =
    let long : length c.args.noted.now.is_in ≡ 16 = search rules in
    rw c.none-named.ensures (told_from c.args.cell.now c.args.is_over c.args.noted.now.is_in long)

pub loop-slot-preserved : goal.loop-slot-preserved
loop-slot-preserved c =
    let l = c.loop-slot in
    let low = c.loop-slot-test.true in
    elim c.if-has.branch [
      | then-has+then-can_move w ↦ rw (w.named-is, w.noted-is, w.remove.ensures, w.add.ensures)
          (named_more _ _ _ _ _ _ (omega (arith, low)) l.invariant (sym c.has.ensures ∙ w.if-has.true) (w.can_move.ensures.moves w.if-can_move.true))
      | else-has w ↦ rw (w.named-is, w.noted-is) (elim w.else-has.branch [
        | else-has-via-then-has+else-can_move v ↦ left_more _ _ _ _ _ _ l.invariant (λ yes. v.can_move.ensures.waits v.if-can_move.false)
        | else-has-via-else-has v ↦ left_more _ _ _ _ _ _ l.invariant (λ yes. absurd (both_ways _ (sym c.has.ensures ∙ v.if-has.false) yes))
      ])
    ]
