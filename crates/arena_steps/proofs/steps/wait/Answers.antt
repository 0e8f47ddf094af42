use Rattle.std.proofs.Common.{◌≡◌, ℤ, length, length-set, refl, ap, ◌∙◌, subst, w64, FitsSigned, to_z, of_z}
use Rattle.std.proofs.lemmas.Int.{to_z-of_z}
use Rattle.std.specs.Prelude.{slice_set}
use Rattle.job_step.specs.declared.frames.Frame.{Frame}
use Rattle.job_step.specs.Frame.{write_and_step}
use Rattle.tenant_model.specs.State.{row}
use Rattle.tenant_model.specs.Walks.{total}
use Rattle.tenant_model.specs.Shared.{group_status}
use Rattle.tenant_model.specs.Changes.{finish_step}
use Rattle.arena_rows.specs.MarkedGroups.{with_wait_passed}
use Rattle.arena_rows.specs.Represents.{Gives}
use Rattle.arena_steps.specs.Frames.{CanPass}
use Rattle.arena_steps.proofs.Moving.{same_slots, same_room}
use Rattle.arena_steps.proofs.steps.wait.Goals as goal

pub group_total-total-requires : goal.group_total-total-requires
group_total-total-requires c = let h : CanPass c.args.parts.now c.args.slot c.args.frame c.args.group = c.requires.passes in (h.0, h.1, h.2.rests.holds, h.2.on_top, h.3)

pub group_status-status-requires : goal.group_status-status-requires
group_status-status-requires c = let h : CanPass c.args.parts.now c.args.slot c.args.frame c.args.group = c.requires.passes in (h.0, h.1, h.2.rests.holds, h.2.on_top)

pub pass_wait-requires : goal.pass_wait-requires
pass_wait-requires c = let h : CanPass c.args.parts.now c.args.slot c.args.frame c.args.group = c.requires.passes in (h.0, h.1, h.2.rests.holds, h.2.on_top, h.3)

pub finish_step-requires-clause-rests : goal.finish_step-requires-clause-rests
finish_step-requires-clause-rests c =
    let h : CanPass c.args.parts.now c.args.slot c.args.frame c.args.group = c.requires.passes in
    let same : length c.waited_frame-waited.result.registers ≡ length (row h.0.rows h.1).frame.registers =
    ap (λ (f : Frame). length f.registers) c.waited_frame-waited.ensures ∙ length-set _ c.args.status_to _ ∙ length-set c.args.frame.registers c.args.total_to _ ∙ h.2.same in
    (with_wait_passed h.0 h.1 c.args.group c.waited_frame-waited.result, c.pass_wait.ensures h.0 h.1 h.2.rests h.2.on_top h.3 same)

pub finish_step-requires-clause-slot : goal.finish_step-requires-clause-slot
finish_step-requires-clause-slot c =
    let h : CanPass c.args.parts.now c.args.slot c.args.frame c.args.group = c.requires.passes in
    let same : length c.waited_frame-waited.result.registers ≡ length (row h.0.rows h.1).frame.registers =
    ap (λ (f : Frame). length f.registers) c.waited_frame-waited.ensures ∙ length-set _ c.args.status_to _ ∙ length-set c.args.frame.registers c.args.total_to _ ∙ h.2.same in
    same_slots c.args.parts.now c.pass_wait.new.self h.0 (with_wait_passed h.0 h.1 c.args.group c.waited_frame-waited.result) h.2.rests.holds
    (c.pass_wait.ensures h.0 h.1 h.2.rests h.2.on_top h.3 same).holds refl c.args.slot h.1 h.2.on_top

pub finish_step-requires-clause-room : goal.finish_step-requires-clause-room
finish_step-requires-clause-room c =
    let h : CanPass c.args.parts.now c.args.slot c.args.frame c.args.group = c.requires.passes in
    let same : length c.waited_frame-waited.result.registers ≡ length (row h.0.rows h.1).frame.registers =
    ap (λ (f : Frame). length f.registers) c.waited_frame-waited.ensures ∙ length-set _ c.args.status_to _ ∙ length-set c.args.frame.registers c.args.total_to _ ∙ h.2.same in
    same_room c.args.parts.now c.pass_wait.new.self h.0 (with_wait_passed h.0 h.1 c.args.group c.waited_frame-waited.result) h.2.rests.holds
    (c.pass_wait.ensures h.0 h.1 h.2.rests h.2.on_top h.3 same).holds refl refl c.requires.room

pub returns : goal.returns
returns c = λ s n fits ended.
    let same : length c.waited_frame-waited.result.registers ≡ length (row s.rows n).frame.registers =
    ap (λ (f : Frame). length f.registers) c.waited_frame-waited.ensures ∙ length-set _ c.args.status_to _ ∙ length-set c.args.frame.registers c.args.total_to _ ∙ fits.same in
    let moved = c.finish_step.ensures (with_wait_passed s n c.args.group c.waited_frame-waited.result) (c.pass_wait.ensures s n fits.rests fits.on_top ended same) in
    let v = c.group_total-total.result in
    let w = c.group_status-status.result in
    let range_v : FitsSigned w64 v = record { sfits = c.group_total-total.type_inv } in
    let range_w : FitsSigned w64 w = record { sfits = c.group_status-status.type_inv } in
    let held : ℤ → Frame = λ x. record c.args.frame { registers = slice_set c.args.frame.registers c.args.total_to x } in
    let told : ℤ → ℤ → Frame = λ x y. write_and_step (held x) c.args.status_to y in
    let written : c.waited_frame-waited.result ≡ told (total s.rows n c.args.group) (group_status s n c.args.group) =
    c.waited_frame-waited.ensures ∙ ap (λ x. told x (to_z w64 (of_z w64 w))) (to_z-of_z w64 v range_v ∙ c.group_total-total.ensures s n fits.rests.holds fits.on_top) ∙
    ap (told (total s.rows n c.args.group)) (to_z-of_z w64 w range_w ∙ c.group_status-status.ensures s n fits.rests.holds fits.on_top) in
    subst (λ f. Gives c.finish_step.new.self c.finish_step.result (finish_step c.args.slot (with_wait_passed s n c.args.group f))) written moved
