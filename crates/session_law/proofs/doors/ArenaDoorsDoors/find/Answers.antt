use Rattle.std.proofs.Common.{◌≡◌, ◌≢◌, ◌<◌, length, arith, rules, refl, sym, ap, subst, ◌∙◌, ℕ, Some, true, false, List}
use Rattle.std.specs.Prelude.{slice_index_or, slice_get}
use Rattle.job_language.specs.declared.tenants.Tenant.{Tenant}
use Rattle.tenant_model.specs.State.{State}
use Rattle.session_law.proofs.Standing.{item_at, none_more}
use Rattle.session_law.proofs.doors.ArenaDoorsDoors.find.Goals as goal

pub returns-then-eq : goal.returns-then-eq
returns-then-eq c = λ ts at.
    let n = c.loop-number.number in
    let d = c.args.self.now in
    let within : n < length d.arenas.items = search rules in
    let is : c.arena-item.result ≡ slice_index_or d.arenas.items n c.arena-item.result = search rules in
    let here = item_at d ts n c.arena-item.result at within is in
    let config : c.config.result.now ≡ here.0.config = c.config.ensures.value here.0 here.1.1 in
    let named : c.config.result.now.name ≡ c.args.name = search rules in
    ((here.0, (here.1.0, ap (λ (t : Tenant). t.name) (sym config) ∙ named)), c.loop-number.invariant ts at)

pub loop-number-preserved : goal.loop-number-preserved
loop-number-preserved c = λ ts at.
    let n = c.loop-number.number in
    let d = c.args.self.now in
    let within : n < length d.arenas.items = search rules in
    let is : c.arena-item.result ≡ slice_index_or d.arenas.items n c.arena-item.result = search rules in
    let here = item_at d ts n c.arena-item.result at within is in
    let config : c.config.result.now ≡ here.0.config = c.config.ensures.value here.0 here.1.1 in
    let named : c.config.result.now.name ≢ c.args.name = search rules in
    none_more ts.states c.args.name n (c.loop-number.invariant ts at) (λ s other same.
    let there : here.0 ≡ s = grind (arith, here.1.0, other) in
    named (ap (λ (t : Tenant). t.name) config ∙ ap (λ (u : State). u.config.name) there ∙ same))
