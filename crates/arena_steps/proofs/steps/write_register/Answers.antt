use Rattle.std.proofs.Common.{sym, ap, ◌∙◌, subst, w64}
use Rattle.std.proofs.lemmas.Int.{to_z-of_z}
use Rattle.job_step.specs.Frame.{write_and_step}
use Rattle.tenant_model.specs.Changes.{finish_step, with_frame}
use Rattle.arena_rows.specs.Represents.{Gives}
use Rattle.arena_steps.specs.Frames.{FrameFits}
use Rattle.arena_steps.proofs.Moving.{fits_written}
use Rattle.arena_steps.proofs.steps.write_register.Goals as goal

pub returns : goal.returns
returns c = λ s n fits.
    let f = c.args.frame in
    let written = c.write_and_step.ensures ∙ ap (write_and_step f c.args.to) (to_z-of_z w64 c.args.value c.ranges.value) in
    let fits' : FrameFits c.args.parts.now s c.args.slot n c.write_and_step.result =
    subst (FrameFits c.args.parts.now s c.args.slot n) (sym written) (fits_written c.args.parts.now s c.args.slot n f c.args.to c.args.value fits) in
    subst (λ g. Gives c.move_to.new.parts c.move_to.result (finish_step c.args.slot (with_frame s n g))) written (c.move_to.ensures s n fits')
