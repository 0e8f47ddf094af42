use Rattle.std.proofs.Common.{rules, refl, suc}
use Rattle.host_records.proofs.Slices.{one_more}
use Rattle.host_records.proofs.journals.Written.copy_more.Goals as goal

pub loop-slice-init : goal.loop-slice-init
loop-slice-init g c = ((0, c.clear.ensures.items), refl, refl)

pub returns-then-saturating_add-there : goal.returns-then-saturating_add-there
returns-then-saturating_add-there g c =
    let before = c.loop-slice.invariant in
    let are = one_more before.0.0 _ _ c.saturating_add-from.result _ _ _ c.front.result _ before.0.1 (search rules) c.in_ok-there.ensures.cell in
    ((suc before.0.0, are), before.1, before.2)

pub loop-slice-preserved : goal.loop-slice-preserved
loop-slice-preserved g c =
    let before = c.loop-slice.invariant in
    let are = one_more before.0.0 _ _ c.saturating_add-from.result _ _ _ c.front.result _ before.0.1 (search rules) c.in_ok-there.ensures.cell in
    ((suc before.0.0, are), before.1, before.2)
