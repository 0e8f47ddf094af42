use Rattle.std.proofs.Common.{◌≡◌, get_or, ap, ◌∙◌, arith}
use Rattle.std.specs.Prelude.{slice_set}
use Rattle.tenant_model.specs.Changes.{faulted_row}
use Rattle.solo_eval.proofs.Mapped.{mapped-next, mapped-more}
use Rattle.solo_eval.proofs.stacks.fault_rows.Goals as goal

pub loop-row-preserved : goal.loop-row-preserved
loop-row-preserved c =
    let f = faulted_row c.args.slot c.args.from in
    let xs = c.args.rows.now in
    let i = c.loop-row.row-index in
    let x = c.row-item.result in
    let item : get_or c.loop-row.rows i x ≡ get_or xs i x = rw c.loop-row.invariant (mapped-next f xs i (omega arith) x) in
    let changed : c.faulted_row.result ≡ f (get_or xs i x) = c.faulted_row.ensures ∙ ap f item in
    ap (λ rows. slice_set rows i c.faulted_row.result) c.loop-row.invariant ∙ rw changed (mapped-more f xs i (omega arith) x)
