use Rattle.std.proofs.Common.{◌≡◌, pos, true, false, inl, inr, sym, ◌∙◌, subst, w64, FitsSigned}
use Rattle.std.specs.Prelude.{if◌then◌else◌}
use Rattle.std.proofs.lemmas.Int.{to_z-of_z}
use Rattle.tenant_model.specs.Walks.{is_context_cancelled}
use Rattle.tenant_model.specs.Shared.{write_register}
use Rattle.tenant_model.proofs.Within.{either_way}
use Rattle.arena_rows.specs.Represents.{Gives}
use Rattle.arena_steps.proofs.execution.ask.Goals as goal

pub returns : goal.returns
returns c = λ s n fits.
    let v = c.from.result in
    let range : FitsSigned w64 v = record { sfits = c.from.type_inv } in
    let told = c.is_cancelled-is_cancelled.ensures s n fits.rests.holds fits.on_top in
    let flag : v ≡ (if is_context_cancelled s n then pos 1 else pos 0) = elim (either_way c.is_cancelled-is_cancelled.result) [
      | inl is ↦
          let cancelled : is_context_cancelled s n ≡ true = sym told ∙ is in
          let one : v ≡ pos 1 = rw is at c.from.ensures in
          rw cancelled one
      | inr not_so ↦
          let fine : is_context_cancelled s n ≡ false = sym told ∙ not_so in
          let none : v ≡ pos 0 = rw not_so at c.from.ensures in
          rw fine none
    ] in
    subst (λ x. Gives c.write_register.new.parts c.write_register.result (write_register s c.args.slot n c.args.frame c.args.to x)) (to_z-of_z w64 v range ∙ flag) (c.write_register.ensures s n fits)
