use Rattle.std.proofs.Common.{◌≡◌, refl, sym, ap, subst, arith}
use Rattle.std.specs.Prelude.{count_by, is_some}
use Rattle.cancel_context.specs.Forest.{IsForest}
use Rattle.tenant_model.proofs.SoundSteps.{entry_settled}
use Rattle.arena_rows.specs.Held.{Held}
use Rattle.arena_rows.specs.OpenRows.{AreFine}
use Rattle.arena_rows.specs.Represents.{HoldsSomehow}
use Rattle.arena_rows.specs.Endings.{rows_of, IsCancelled}
use Rattle.arena_rows.proofs.SettledRows.{SettledSome, settled_first, settled_more, settled_all, cancelled_waits, still_held}
use Rattle.arena_rows.proofs.parts.Parts.settle.Goals as goal

pub loop-row-init : goal.loop-row-init
loop-row-init c = record { held = c.requires; settled = λ s is. settled_first s c.args.self.now is }

pub drop_row-requires : goal.drop_row-requires
drop_row-requires c =
    let now : Held = c.next_cancelled.new.self in
    let same : now ≡ c.loop-row.self = c.next_cancelled.ensures.same in
    let held = subst HoldsSomehow (sym same) c.loop-row.invariant.held in
    let sound = subst (λ (a : Held). IsForest a.contexts) (sym same) c.next_cancelled.ensures.sound in
    let cancelled = subst (λ (a : Held). IsCancelled a c.in-Some.row) (sym same) c.in-Some.ensures.some in
    cancelled_waits now c.in-Some.row sound cancelled held

pub loop-row-smaller : goal.loop-row-smaller
loop-row-smaller c =
    let same = ap (λ (a : Held). count_by is_some a.table) c.next_cancelled.ensures.same in
    omega (arith, same, c.drop_row.ensures.freed)

pub loop-row-preserved : goal.loop-row-preserved
loop-row-preserved c =
    let now : Held = c.next_cancelled.new.self in
    let same : now ≡ c.loop-row.self = c.next_cancelled.ensures.same in
    let held = subst HoldsSomehow (sym same) c.loop-row.invariant.held in
    let sound = subst (λ (a : Held). IsForest a.contexts) (sym same) c.next_cancelled.ensures.sound in
    let cancelled = subst (λ (a : Held). IsCancelled a c.in-Some.row) (sym same) c.in-Some.ensures.some in
    record {
      held = still_held now c.in-Some.row sound cancelled c.drop_row.new.self c.drop_row.ensures.holds held;
      settled = λ s is. settled_more now c.in-Some.row sound cancelled c.drop_row.new.self c.drop_row.ensures.holds s (subst (SettledSome s) (sym same) (c.loop-row.invariant.settled s is));
    }

pub returns : goal.returns
returns c = λ s is.
    let now : Held = c.next_cancelled.new.self in
    let same : now ≡ c.loop-row.self = c.next_cancelled.ensures.same in
    let sound = subst (λ (a : Held). IsForest a.contexts) (sym same) c.next_cancelled.ensures.sound in
    let fine = subst (λ (a : Held). AreFine (rows_of a)) (sym same) (c.in_default.ensures.none refl) in
    record {
      holds = settled_all s now sound fine (subst (SettledSome s) (sym same) (c.loop-row.invariant.settled s is));
      settled = entry_settled s;
    }
