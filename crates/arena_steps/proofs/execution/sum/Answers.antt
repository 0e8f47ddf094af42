use Rattle.std.proofs.Common.{◌∙◌, subst, w64, FitsSigned}
use Rattle.std.proofs.lemmas.Int.{to_z-of_z}
use Rattle.tenant_model.specs.Shared.{write_register}
use Rattle.arena_rows.specs.Represents.{Gives}
use Rattle.arena_steps.proofs.execution.sum.Goals as goal

pub returns : goal.returns
returns c = λ s n fits.
    let v = c.cell_sum-sum.result in
    let range : FitsSigned w64 v = record { sfits = c.cell_sum-sum.type_inv } in
    let told = to_z-of_z w64 v range ∙ c.cell_sum-sum.ensures s fits.rests.holds in
    subst (λ x. Gives c.write_register.new.parts c.write_register.result (write_register s c.args.slot n c.args.frame c.args.to x)) told (c.write_register.ensures s n fits)
