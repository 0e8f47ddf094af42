use Rattle.std.proofs.Common.{refl, sym, ap, ◌∙◌, subst, w64, FitsSigned}
use Rattle.std.proofs.lemmas.Int.{to_z-of_z}
use Rattle.job_step.specs.Frame.{write_and_step}
use Rattle.tenant_model.specs.State.{State}
use Rattle.thread_cells.specs.Cells.{with_cell}
use Rattle.tenant_model.specs.Changes.{finish_step, with_frame, with_cells}
use Rattle.arena_rows.specs.Represents.{Gives}
use Rattle.arena_steps.specs.Frames.{FrameFits, CanMove}
use Rattle.arena_steps.proofs.Moving.{same_room, low_slot, fits_written, fits_cells}
use Rattle.arena_steps.proofs.steps.load.Goals as goal

pub local-value-requires : goal.local-value-requires
local-value-requires c = low_slot c.args.parts.now c.args.slot c.args.frame c.requires.fits

pub move_to-requires-clause-fits : goal.move_to-requires-clause-fits
move_to-requires-clause-fits c =
    let h : CanMove c.args.parts.now c.args.slot c.args.frame = c.requires.fits in
    let cells = with_cell h.0.cells c.args.key c.args.slot c.local-value.result in
    let b = c.local-value.new.self in
    let fits = fits_cells c.args.parts.now b h.0 cells c.args.slot h.1 c.args.frame h.2 (c.local-value.ensures h.0 h.2.rests).1 in
    let written : FrameFits b (with_cells h.0 cells) c.args.slot h.1 (write_and_step c.args.frame c.args.to _) = fits_written b (with_cells h.0 cells) c.args.slot h.1 c.args.frame c.args.to _ fits in
    (with_cells h.0 cells, h.1, subst (FrameFits b (with_cells h.0 cells) c.args.slot h.1) (sym c.write_and_step.ensures) written)

pub move_to-requires-clause-room : goal.move_to-requires-clause-room
move_to-requires-clause-room c =
    let h : CanMove c.args.parts.now c.args.slot c.args.frame = c.requires.fits in
    let cells = with_cell h.0.cells c.args.key c.args.slot c.local-value.result in
    same_room c.args.parts.now c.local-value.new.self h.0 (with_cells h.0 cells) h.2.rests.holds (c.local-value.ensures h.0 h.2.rests).1.holds refl refl c.requires.room

pub returns : goal.returns
returns c = λ s n fits.
    let f = c.args.frame in
    let v = c.local-value.result in
    let b = c.local-value.new.self in
    let told = c.local-value.ensures s fits.rests in
    let t : State = with_cells s (with_cell s.cells c.args.key c.args.slot v) in
    let range : FitsSigned w64 v = record { sfits = c.local-value.type_inv } in
    let written = c.write_and_step.ensures ∙ ap (write_and_step f c.args.to) (to_z-of_z w64 v range) in
    let its : FrameFits b t c.args.slot n (write_and_step f c.args.to v) =
    fits_written b t c.args.slot n f c.args.to v (fits_cells c.args.parts.now b s (with_cell s.cells c.args.key c.args.slot v) c.args.slot n f fits told.1) in
    let moved = subst (λ g. Gives c.move_to.new.parts c.move_to.result (finish_step c.args.slot (with_frame t n g))) written
    (c.move_to.ensures t n (subst (FrameFits b t c.args.slot n) (sym written) its)) in
    subst (λ w. Gives c.move_to.new.parts c.move_to.result (finish_step c.args.slot (with_cells (with_frame s n (write_and_step f c.args.to w)) (with_cell s.cells c.args.key c.args.slot w)))) told.0
    moved
