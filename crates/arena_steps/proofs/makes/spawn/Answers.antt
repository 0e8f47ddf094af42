use Rattle.std.proofs.Common.{◌≡◌, ◌<◌, Some, true, false, refl, sym, ◌∙◌}
use Rattle.job_language.specs.declared.instructions.TheConstants.{GROUPS}
use Rattle.tenant_model.specs.declared.rows.Kind.TheVariants.{Spawned}
use Rattle.tenant_model.specs.declared.rows.Phase.TheVariants.{Unstarted}
use Rattle.tenant_model.specs.State.{row}
use Rattle.tenant_model.specs.Walks.{settle}
use Rattle.tenant_model.specs.Changes.{new_row, add_row, with_frame, is_row_limit_met}
use Rattle.tenant_model.specs.Shared.{next_place, called_frame}
use Rattle.tenant_model.proofs.Steady.{steady_spawned}
use Rattle.arena_rows.specs.Represents.{Rests}
use Rattle.arena_rows.proofs.TopRows.{top_at}
use Rattle.arena_steps.specs.Frames.{CanMove}
use Rattle.arena_steps.proofs.Births.{has_room, next_rests, still_top, still_rests, same_made, still_free, born_rests, settled_moves}
use Rattle.arena_steps.proofs.Moving.{same_slots, same_room, has_top}
use Rattle.arena_steps.proofs.makes.spawn.Goals as goal

pub fault-requires-clause-top : goal.fault-requires-clause-top
fault-requires-clause-top c = has_top c.args.parts.now c.args.slot c.args.frame c.requires.step.fits

pub returns-then-is_row_limit_met : goal.returns-then-is_row_limit_met
returns-then-is_row_limit_met c = λ s n fits.
    let met : is_row_limit_met s ≡ true = sym (c.is_row_limit_met.ensures.value s fits.rests.holds) ∙ c.if-is_row_limit_met.true in
    rw met (c.fault.ensures s n fits.rests.holds fits.on_top)

pub move_on-requires : goal.move_on-requires
move_on-requires c = has_top c.args.parts.now c.args.slot c.args.frame c.requires.step.fits

pub spawn_settled-requires-clause-rests : goal.spawn_settled-requires-clause-rests
spawn_settled-requires-clause-rests c =
    let a = c.args.parts.now in
    let f = c.args.frame in
    let h : CanMove a c.args.slot f = c.requires.step.fits in
    let now = next_rests a c.move_on.new.self h.0 c.args.slot h.1 f c.next.result c.next.ensures h.2 (c.move_on.ensures h.0 h.1 h.2.rests h.2.on_top) in
    still_rests a c.move_on.new.self h.0 c.args.slot h.1 (next_place f) h.2.rests.holds h.2.on_top now

pub spawn_settled-requires-clause-free : goal.spawn_settled-requires-clause-free
spawn_settled-requires-clause-free c =
    let a = c.args.parts.now in
    let f = c.args.frame in
    let h : CanMove a c.args.slot f = c.requires.step.fits in
    let now = next_rests a c.move_on.new.self h.0 c.args.slot h.1 f c.next.result c.next.ensures h.2 (c.move_on.ensures h.0 h.1 h.2.rests h.2.on_top) in
    let limit : is_row_limit_met h.0 ≡ false = sym (c.is_row_limit_met.ensures.value h.0 h.2.rests.holds) ∙ c.if-is_row_limit_met.false in
    still_free a c.move_on.new.self h.0 c.args.slot h.1 (next_place f) h.2.rests.holds h.2.on_top now limit

pub spawn_settled-requires-clause-few : goal.spawn_settled-requires-clause-few
spawn_settled-requires-clause-few c =
    let a = c.args.parts.now in
    let f = c.args.frame in
    let h : CanMove a c.args.slot f = c.requires.step.fits in
    let now = next_rests a c.move_on.new.self h.0 c.args.slot h.1 f c.next.result c.next.ensures h.2 (c.move_on.ensures h.0 h.1 h.2.rests h.2.on_top) in
    let made = same_made a c.move_on.new.self h.0 c.args.slot h.1 (next_place f) h.2.rests.holds h.2.on_top now in
    rw made c.requires.few

pub finish_step-requires-clause-rests : goal.finish_step-requires-clause-rests
finish_step-requires-clause-rests c =
    let h : CanMove c.args.parts.now c.args.slot c.args.frame = c.requires.step.fits in
    let a = c.args.parts.now in
    let f = c.args.frame in
    let slot = c.args.slot in
    let b = c.move_on.new.self in
    let now = next_rests a b h.0 slot h.1 f c.next.result c.next.ensures h.2 (c.move_on.ensures h.0 h.1 h.2.rests h.2.on_top) in
    let on_top = still_top a b h.0 slot h.1 (next_place f) h.2.rests.holds h.2.on_top now in
    let limit : is_row_limit_met h.0 ≡ false = sym (c.is_row_limit_met.ensures.value h.0 h.2.rests.holds) ∙ c.if-is_row_limit_met.false in
    let value = c.index.ensures.value in
    let few : c.args.group < GROUPS = rw value at c.index.ensures.in_range in
    let steady = steady_spawned h.0 slot h.1 (top_at a h.0 h.2.rests.holds slot h.1 h.2.on_top) h.2.rests.holds.steady (next_place f) c.args.group c.args.procedure c.args.first c.args.second h.2.same
    few (has_room h.0 limit) in
    let it : Rests c.spawn_settled.new.self
    (settle (add_row (with_frame h.0 h.1 (next_place f))
    (new_row (Spawned h.1 c.args.group) (row h.0.rows h.1).job (Some slot) (called_frame f c.args.procedure c.args.first c.args.second) Unstarted))) =
    born_rests a b h.0 slot h.1 (next_place f) h.2.rests.holds h.2.on_top now c.spawn_settled.new.self (Spawned h.1 c.args.group) (Some slot) c.called_frame.result
    (called_frame f c.args.procedure c.args.first c.args.second) c.called_frame.ensures steady (c.spawn_settled.ensures (with_frame h.0 h.1 (next_place f)) h.1 now on_top) in (
      settle (add_row (with_frame h.0 h.1 (next_place f))
          (new_row (Spawned h.1 c.args.group) (row h.0.rows h.1).job (Some slot) (called_frame f c.args.procedure c.args.first c.args.second) Unstarted)),
      it,
    )

pub finish_step-requires-clause-slot : goal.finish_step-requires-clause-slot
finish_step-requires-clause-slot c =
    let h : CanMove c.args.parts.now c.args.slot c.args.frame = c.requires.step.fits in
    let a = c.args.parts.now in
    let f = c.args.frame in
    let slot = c.args.slot in
    let b = c.move_on.new.self in
    let now = next_rests a b h.0 slot h.1 f c.next.result c.next.ensures h.2 (c.move_on.ensures h.0 h.1 h.2.rests h.2.on_top) in
    let on_top = still_top a b h.0 slot h.1 (next_place f) h.2.rests.holds h.2.on_top now in
    let limit : is_row_limit_met h.0 ≡ false = sym (c.is_row_limit_met.ensures.value h.0 h.2.rests.holds) ∙ c.if-is_row_limit_met.false in
    let value = c.index.ensures.value in
    let few : c.args.group < GROUPS = rw value at c.index.ensures.in_range in
    let steady = steady_spawned h.0 slot h.1 (top_at a h.0 h.2.rests.holds slot h.1 h.2.on_top) h.2.rests.holds.steady (next_place f) c.args.group c.args.procedure c.args.first c.args.second h.2.same
    few (has_room h.0 limit) in
    let it : Rests c.spawn_settled.new.self
    (settle (add_row (with_frame h.0 h.1 (next_place f))
    (new_row (Spawned h.1 c.args.group) (row h.0.rows h.1).job (Some slot) (called_frame f c.args.procedure c.args.first c.args.second) Unstarted))) =
    born_rests a b h.0 slot h.1 (next_place f) h.2.rests.holds h.2.on_top now c.spawn_settled.new.self (Spawned h.1 c.args.group) (Some slot) c.called_frame.result
    (called_frame f c.args.procedure c.args.first c.args.second) c.called_frame.ensures steady (c.spawn_settled.ensures (with_frame h.0 h.1 (next_place f)) h.1 now on_top) in
    same_slots a c.spawn_settled.new.self h.0
    (settle (add_row (with_frame h.0 h.1 (next_place f))
    (new_row (Spawned h.1 c.args.group) (row h.0.rows h.1).job (Some slot) (called_frame f c.args.procedure c.args.first c.args.second) Unstarted))) h.2.rests.holds it.holds refl slot h.1
    h.2.on_top

pub finish_step-requires-clause-room : goal.finish_step-requires-clause-room
finish_step-requires-clause-room c =
    let h : CanMove c.args.parts.now c.args.slot c.args.frame = c.requires.step.fits in
    let a = c.args.parts.now in
    let f = c.args.frame in
    let slot = c.args.slot in
    let b = c.move_on.new.self in
    let now = next_rests a b h.0 slot h.1 f c.next.result c.next.ensures h.2 (c.move_on.ensures h.0 h.1 h.2.rests h.2.on_top) in
    let on_top = still_top a b h.0 slot h.1 (next_place f) h.2.rests.holds h.2.on_top now in
    let limit : is_row_limit_met h.0 ≡ false = sym (c.is_row_limit_met.ensures.value h.0 h.2.rests.holds) ∙ c.if-is_row_limit_met.false in
    let value = c.index.ensures.value in
    let few : c.args.group < GROUPS = rw value at c.index.ensures.in_range in
    let steady = steady_spawned h.0 slot h.1 (top_at a h.0 h.2.rests.holds slot h.1 h.2.on_top) h.2.rests.holds.steady (next_place f) c.args.group c.args.procedure c.args.first c.args.second h.2.same
    few (has_room h.0 limit) in
    let it : Rests c.spawn_settled.new.self
    (settle (add_row (with_frame h.0 h.1 (next_place f))
    (new_row (Spawned h.1 c.args.group) (row h.0.rows h.1).job (Some slot) (called_frame f c.args.procedure c.args.first c.args.second) Unstarted))) =
    born_rests a b h.0 slot h.1 (next_place f) h.2.rests.holds h.2.on_top now c.spawn_settled.new.self (Spawned h.1 c.args.group) (Some slot) c.called_frame.result
    (called_frame f c.args.procedure c.args.first c.args.second) c.called_frame.ensures steady (c.spawn_settled.ensures (with_frame h.0 h.1 (next_place f)) h.1 now on_top) in
    same_room a c.spawn_settled.new.self h.0
    (settle (add_row (with_frame h.0 h.1 (next_place f))
    (new_row (Spawned h.1 c.args.group) (row h.0.rows h.1).job (Some slot) (called_frame f c.args.procedure c.args.first c.args.second) Unstarted))) h.2.rests.holds it.holds refl refl
    c.requires.step.room

pub returns : goal.returns
returns c = λ s n fits.
    let a = c.args.parts.now in
    let f = c.args.frame in
    let slot = c.args.slot in
    let b = c.move_on.new.self in
    let now = next_rests a b s slot n f c.next.result c.next.ensures fits (c.move_on.ensures s n fits.rests fits.on_top) in
    let on_top = still_top a b s slot n (next_place f) fits.rests.holds fits.on_top now in
    let limit : is_row_limit_met s ≡ false = sym (c.is_row_limit_met.ensures.value s fits.rests.holds) ∙ c.if-is_row_limit_met.false in
    let value = c.index.ensures.value in
    let few : c.args.group < GROUPS = rw value at c.index.ensures.in_range in
    let steady = steady_spawned s slot n (top_at a s fits.rests.holds slot n fits.on_top) fits.rests.holds.steady (next_place f) c.args.group c.args.procedure c.args.first c.args.second fits.same few
    (has_room s limit) in
    let it : Rests c.spawn_settled.new.self
    (settle (add_row (with_frame s n (next_place f)) (new_row (Spawned n c.args.group) (row s.rows n).job (Some slot) (called_frame f c.args.procedure c.args.first c.args.second) Unstarted))) =
    born_rests a b s slot n (next_place f) fits.rests.holds fits.on_top now c.spawn_settled.new.self (Spawned n c.args.group) (Some slot) c.called_frame.result
    (called_frame f c.args.procedure c.args.first c.args.second) c.called_frame.ensures steady (c.spawn_settled.ensures (with_frame s n (next_place f)) n now on_top) in
    rw limit (settled_moves slot (add_row (with_frame s n (next_place f))
    (new_row (Spawned n c.args.group) (row s.rows n).job (Some slot) (called_frame f c.args.procedure c.args.first c.args.second) Unstarted)) c.spawn_settled.new.self c.finish_step.new.self
    c.finish_step.result it (c.finish_step.ensures
    (settle (add_row (with_frame s n (next_place f)) (new_row (Spawned n c.args.group) (row s.rows n).job (Some slot) (called_frame f c.args.procedure c.args.first c.args.second) Unstarted))) it))
