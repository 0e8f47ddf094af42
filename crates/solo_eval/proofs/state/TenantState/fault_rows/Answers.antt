use Rattle.std.proofs.Common.{◌≡◌, map, refl, ap, ◌∙◌, arith}
use Rattle.std.specs.Vec.{with_items}
use Rattle.std.proofs.lemmas.List.{with_items_is}
use Rattle.tenant_model.specs.Changes.{faulted_row}
use Rattle.tenant_model.proofs.Linked.{IsLinked-same, SameSources-map}
use Rattle.solo_eval.specs.TenantState.{shown}
use Rattle.solo_eval.proofs.state.TenantState.fault_rows.Goals as goal

pub invariant_of-self : goal.invariant_of-self
invariant_of-self c =
    let s = shown c.self.inside in
    let f = faulted_row c.args.slot c.args.from in
    let rows = c.self.inside.rows in
    let items : (with_items rows c.fault_rows.new.rows).items ≡ map f s.rows =
    with_items_is rows c.fault_rows.new.rows (omega arith) ∙ c.fault_rows.ensures ∙ ap (map f) c.as_mut_slice.ensures.value in
    IsLinked-same s _ (rw items (SameSources-map f s.rows (λ r. refl) (λ r. refl))) refl c.self.invariant.epoch c.self.invariant
