use Rattle.std.proofs.Common.{◌≡◌, ◌+◌, map, drop, ◌∷◌, sym, ap, ◌∙◌}
use Rattle.std.proofs.lemmas.List.{drop_more}
use Rattle.std.specs.Option.{ok_or}
use Rattle.serde_json.specs.View.{view}
use Rattle.job_json.specs.declared.errors.Place.TheVariants.{Head}
use Rattle.job_json.specs.ConfigOf.{tenants_of}
use Rattle.job_json.specs.TenantOf.{tenant_of}
use Rattle.job_json.proofs.Fronts.{with_front, with_front-next, some_from_ok}
use Rattle.job_json.proofs.reading.configs.read_tenants.Goals as goal

pub loop-value-preserved : goal.loop-value-preserved
loop-value-preserved c =
    let values = c.args.values.now in
    let i = c.loop-value.value-index in
    let value = c.value-item.result in
    let front = c.loop-value.tenants.items in
    let here : drop i values ≡ value ∷ drop (i + 1) values = drop_more values i value c.loop-value-test.true ∙ ap (λ v. v ∷ drop (i + 1) values) (sym c.value-item.is) in
    rw c.in_ok-push.ensures.items (with_front-next front (tenant_of (view value)) c.in_ok-read_tenant.field-0 (tenants_of (map view (drop (i + 1) values))) Head
    (some_from_ok _ _ _ c.in_ok-read_tenant.ensures) ∙ ap (λ vs. with_front front (ok_or (tenants_of (map view vs)) Head)) (sym here) ∙ c.loop-value.invariant)
