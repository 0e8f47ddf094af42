use Rattle.std.proofs.Common.{◌≡◌, ◌==◌, refl, sym, ◌∙◌}
use Rattle.std.specs.Prelude.{true, false}
use Rattle.tenant_model.specs.Walks.{height}
use Rattle.std.proofs.lemmas.Bool.{ne_eqb}
use Rattle.solo_eval.proofs.Mapped.{find-here, find-next}
use Rattle.solo_eval.proofs.state.TenantState.free_slot.Goals as goal

pub returns-then-height-eq0 : goal.returns-then-height-eq0
returns-then-height-eq0 c =
    let empty : (height c.args.self.now.rows c.loop-slot.slot == 0) ≡ true = rw (← c.rows.ensures.value, ← c.height.ensures, c.if-height-eq0.true) refl in
    sym (find-here (λ slot. height c.args.self.now.rows slot == 0) c.config.result.now.reserved c.loop-slot.slot c.loop-slot-test.true empty) ∙ c.loop-slot.invariant

pub loop-slot-preserved : goal.loop-slot-preserved
loop-slot-preserved c =
    let taken : (height c.args.self.now.rows c.loop-slot.slot == 0) ≡ false = rw (← c.rows.ensures.value, ← c.height.ensures) (ne_eqb c.height.result 0 c.if-height-eq0.false) in
    sym (find-next (λ slot. height c.args.self.now.rows slot == 0) c.config.result.now.reserved c.loop-slot.slot c.loop-slot-test.true taken) ∙ c.loop-slot.invariant
