use Rattle.std.proofs.Common.{refl}
use Rattle.tenant_model.specs.Changes.{with_frame}
use Rattle.arena_steps.specs.Frames.{CanMove}
use Rattle.arena_steps.proofs.Moving.{same_slots, same_room, has_top}
use Rattle.arena_steps.proofs.steps.move_to.Goals as goal

pub move_on-requires : goal.move_on-requires
move_on-requires c = has_top c.args.parts.now c.args.slot c.args.frame c.requires.fits

pub finish_step-requires-clause-rests : goal.finish_step-requires-clause-rests
finish_step-requires-clause-rests c =
    let h : CanMove c.args.parts.now c.args.slot c.args.frame = c.requires.fits in
    (with_frame h.0 h.1 c.args.frame, c.move_on.ensures h.0 h.1 h.2.rests h.2.on_top h.2.same)

pub finish_step-requires-clause-slot : goal.finish_step-requires-clause-slot
finish_step-requires-clause-slot c =
    let h : CanMove c.args.parts.now c.args.slot c.args.frame = c.requires.fits in
    same_slots c.args.parts.now c.move_on.new.self h.0 (with_frame h.0 h.1 c.args.frame) h.2.rests.holds (c.move_on.ensures h.0 h.1 h.2.rests h.2.on_top h.2.same).holds refl c.args.slot h.1 h.2.on_top

pub finish_step-requires-clause-room : goal.finish_step-requires-clause-room
finish_step-requires-clause-room c =
    let h : CanMove c.args.parts.now c.args.slot c.args.frame = c.requires.fits in
    same_room c.args.parts.now c.move_on.new.self h.0 (with_frame h.0 h.1 c.args.frame) h.2.rests.holds (c.move_on.ensures h.0 h.1 h.2.rests h.2.on_top h.2.same).holds refl refl c.requires.room

pub returns : goal.returns
returns c = λ s n fits. c.finish_step.ensures (with_frame s n c.args.frame) (c.move_on.ensures s n fits.rests fits.on_top fits.same)
