use Rattle.std.proofs.Common.{pos, ap, ◌∙◌, subst, w64, arith}
use Rattle.std.proofs.lemmas.Int.{to_z_pos}
use Rattle.tenant_model.specs.Shared.{write_register}
use Rattle.arena_rows.specs.Represents.{Gives}
use Rattle.arena_steps.proofs.execution.count.Goals as goal

pub returns : goal.returns
returns c = λ s n fits.
    let few = c.cell_count-count.ensures.few in
    let told = to_z_pos w64 c.cell_count-count.result (omega (arith, few)) ∙ ap pos (c.cell_count-count.ensures.value s fits.rests.holds) in
    subst (λ x. Gives c.write_register.new.parts c.write_register.result (write_register s c.args.slot n c.args.frame c.args.to x)) told (c.write_register.ensures s n fits)
