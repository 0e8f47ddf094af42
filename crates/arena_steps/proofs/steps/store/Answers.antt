use Rattle.std.proofs.Common.{◌+◌, refl, sym, subst, w64, FitsSigned}
use Rattle.std.proofs.lemmas.Int.{to_z-of_z}
use Rattle.arena_rows.specs.Represents.{Rests, Gives}
use Rattle.job_step.specs.Frame.{at_place}
use Rattle.tenant_model.specs.State.{State}
use Rattle.thread_cells.specs.Cells.{with_cell}
use Rattle.tenant_model.specs.Changes.{finish_step, with_frame, with_cells}
use Rattle.arena_steps.specs.Frames.{FrameFits, CanMove}
use Rattle.arena_steps.proofs.Moving.{same_room, low_slot, fits_next, fits_cells}
use Rattle.arena_steps.proofs.steps.store.Goals as goal

pub store-requires : goal.store-requires
store-requires c = low_slot c.args.parts.now c.args.slot c.args.frame c.requires.fits

pub move_to-requires-clause-fits : goal.move_to-requires-clause-fits
move_to-requires-clause-fits c =
    let h : CanMove c.args.parts.now c.args.slot c.args.frame = c.requires.fits in
    let b = c.store.new.self in
    let v = c.read-value.result in
    let range : FitsSigned w64 v = record { sfits = c.read-value.type_inv } in
    let t : State = with_cells h.0 (with_cell h.0.cells c.args.key c.args.slot v) in
    let rests : Rests b t = subst (λ w. Rests b (with_cells h.0 (with_cell h.0.cells c.args.key c.args.slot w))) (to_z-of_z w64 v range) (c.store.ensures h.0 h.2.rests) in
    let fits : FrameFits b t c.args.slot h.1 (at_place c.args.frame (c.args.frame.place + 1)) =
    fits_next b t c.args.slot h.1 c.args.frame (fits_cells c.args.parts.now b h.0 (with_cell h.0.cells c.args.key c.args.slot v) c.args.slot h.1 c.args.frame h.2 rests) in
    (t, h.1, subst (FrameFits b t c.args.slot h.1) (sym c.next.ensures) fits)

pub move_to-requires-clause-room : goal.move_to-requires-clause-room
move_to-requires-clause-room c =
    let h : CanMove c.args.parts.now c.args.slot c.args.frame = c.requires.fits in
    let now = c.store.ensures h.0 h.2.rests in
    same_room c.args.parts.now c.store.new.self h.0 _ h.2.rests.holds now.holds refl refl c.requires.room

pub returns : goal.returns
returns c = λ s n fits.
    let b = c.store.new.self in
    let v = c.read-value.result in
    let range : FitsSigned w64 v = record { sfits = c.read-value.type_inv } in
    let t : State = with_cells s (with_cell s.cells c.args.key c.args.slot v) in
    let rests : Rests b t = subst (λ w. Rests b (with_cells s (with_cell s.cells c.args.key c.args.slot w))) (to_z-of_z w64 v range) (c.store.ensures s fits.rests) in
    let its : FrameFits b t c.args.slot n (at_place c.args.frame (c.args.frame.place + 1)) =
    fits_next b t c.args.slot n c.args.frame (fits_cells c.args.parts.now b s (with_cell s.cells c.args.key c.args.slot v) c.args.slot n c.args.frame fits rests) in
    let moved = subst (λ g. Gives c.move_to.new.parts c.move_to.result (finish_step c.args.slot (with_frame t n g))) c.next.ensures
    (c.move_to.ensures t n (subst (FrameFits b t c.args.slot n) (sym c.next.ensures) its)) in
    subst (λ w. Gives c.move_to.new.parts c.move_to.result
    (finish_step c.args.slot (with_cells (with_frame s n (at_place c.args.frame (c.args.frame.place + 1))) (with_cell s.cells c.args.key c.args.slot w)))) c.read-value.ensures moved
