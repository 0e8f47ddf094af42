use Rattle.std.proofs.Common.{◌≡◌, length, refl, ap, ◌∙◌}
use Rattle.job_step.specs.declared.frames.Frame.{Frame}
use Rattle.tenant_model.specs.State.{row}
use Rattle.arena_rows.specs.MarkedGroups.{with_group_cancelled}
use Rattle.arena_steps.specs.Frames.{CanMove}
use Rattle.arena_steps.proofs.Moving.{same_slots}
use Rattle.arena_steps.proofs.steps.cancel.Goals as goal

pub settle_step-requires-clause-held : goal.settle_step-requires-clause-held
settle_step-requires-clause-held c =
    let h : CanMove c.args.parts.now c.args.slot c.args.frame = c.requires.fits in
    let same : length c.next.result.registers ≡ length (row h.0.rows h.1).frame.registers = ap (λ (f : Frame). length f.registers) c.next.ensures ∙ h.2.same in
    (with_group_cancelled h.0 h.1 c.args.group c.next.result, c.cancel_group.ensures h.0 h.1 h.2.rests.holds h.2.on_top same)

pub settle_step-requires-clause-slot : goal.settle_step-requires-clause-slot
settle_step-requires-clause-slot c =
    let h : CanMove c.args.parts.now c.args.slot c.args.frame = c.requires.fits in
    let same : length c.next.result.registers ≡ length (row h.0.rows h.1).frame.registers = ap (λ (f : Frame). length f.registers) c.next.ensures ∙ h.2.same in
    same_slots c.args.parts.now c.cancel_group.new.self h.0 (with_group_cancelled h.0 h.1 c.args.group c.next.result) h.2.rests.holds (c.cancel_group.ensures h.0 h.1 h.2.rests.holds h.2.on_top same)
    refl c.args.slot h.1 h.2.on_top
