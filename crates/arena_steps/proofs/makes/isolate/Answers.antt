use Rattle.std.proofs.Common.{◌≡◌, ◌+◌, ◌==◌, Some, true, false, refl, sym, ◌∙◌, arith}
use Rattle.tenant_model.specs.declared.rows.Kind.TheVariants.{Region}
use Rattle.tenant_model.specs.declared.rows.Phase.TheVariants.{Live}
use Rattle.tenant_model.specs.declared.rows.TheConstants.{MAX_HEIGHT}
use Rattle.tenant_model.specs.State.{State, row}
use Rattle.tenant_model.specs.Walks.{height}
use Rattle.tenant_model.specs.Changes.{new_row, add_row, with_frame, is_row_limit_met}
use Rattle.tenant_model.specs.Shared.{called_frame}
use Rattle.tenant_model.proofs.Steady.{steady_isolated}
use Rattle.arena_rows.specs.Represents.{Rests}
use Rattle.arena_rows.proofs.Tops.{height_is}
use Rattle.arena_rows.proofs.TopRows.{top_at, top_within}
use Rattle.arena_steps.specs.Isolates.{CanIsolate}
use Rattle.arena_steps.proofs.Births.{has_room, below_is_other, low_height, still_top, same_stack, still_free, region_rests}
use Rattle.arena_steps.proofs.Moving.{same_slots, same_room}
use Rattle.arena_steps.proofs.makes.isolate.Goals as goal

pub height-height-requires : goal.height-height-requires
height-height-requires c =
    let h : CanIsolate c.args.parts.now c.args.slot c.args.frame c.args.procedure c.args.first c.args.second = c.requires.fits in
    top_within c.args.parts.now c.args.slot (h.0, h.1, h.3.rests.holds, h.3.on_top)

pub returns-then-height-eq-MAX_HEIGHT : goal.returns-then-height-eq-MAX_HEIGHT
returns-then-height-eq-MAX_HEIGHT c = λ s n d fits here.
    let is = fits.rests.holds in
    let high : height s.rows c.args.slot ≡ MAX_HEIGHT =
    sym (height_is s.rows is.places c.args.parts.now.config.slots c.args.parts.now.nests is.steady.formed.stacked is.nests c.args.slot) ∙ sym c.height-height.ensures ∙
    c.if-height-eq-MAX_HEIGHT.true in
    let met : (height s.rows c.args.slot == MAX_HEIGHT) ≡ true = grind (arith, high) in
    rw met (c.fault.ensures s n is fits.on_top)

pub returns-then-is_row_limit_met : goal.returns-then-is_row_limit_met
returns-then-is_row_limit_met c = λ s n d fits here.
    let is = fits.rests.holds in
    let low = low_height c.args.parts.now s is c.args.slot (λ most. c.if-height-eq-MAX_HEIGHT.false (c.height-height.ensures ∙ most)) in
    let fine : (height s.rows c.args.slot == MAX_HEIGHT) ≡ false = below_is_other (height s.rows c.args.slot) MAX_HEIGHT low in
    let met : is_row_limit_met s ≡ true = sym (c.is_row_limit_met.ensures.value s is) ∙ c.if-is_row_limit_met.true in
    rw (fine, met) (c.fault-then-is_row_limit_met.ensures s n is fits.on_top)

pub isolate-requires-clause-top : goal.isolate-requires-clause-top
isolate-requires-clause-top c =
    let h : CanIsolate c.args.parts.now c.args.slot c.args.frame c.args.procedure c.args.first c.args.second = c.requires.fits in
    let a = c.args.parts.now in
    let f = c.args.frame in
    let slot = c.args.slot in
    let now = c.move_on.ensures h.0 h.1 h.3.rests h.3.on_top h.3.same in
    (with_frame h.0 h.1 f, h.1, now.holds, still_top a c.move_on.new.self h.0 slot h.1 f h.3.rests.holds h.3.on_top now)

pub isolate-requires-clause-free : goal.isolate-requires-clause-free
isolate-requires-clause-free c =
    let h : CanIsolate c.args.parts.now c.args.slot c.args.frame c.args.procedure c.args.first c.args.second = c.requires.fits in
    let a = c.args.parts.now in
    let f = c.args.frame in
    let slot = c.args.slot in
    let now = c.move_on.ensures h.0 h.1 h.3.rests h.3.on_top h.3.same in
    let limit : is_row_limit_met h.0 ≡ false = sym (c.is_row_limit_met.ensures.value h.0 h.3.rests.holds) ∙ c.if-is_row_limit_met.false in
    still_free a c.move_on.new.self h.0 slot h.1 f h.3.rests.holds h.3.on_top now limit

pub isolate-requires-clause-height : goal.isolate-requires-clause-height
isolate-requires-clause-height c =
    let h : CanIsolate c.args.parts.now c.args.slot c.args.frame c.args.procedure c.args.first c.args.second = c.requires.fits in
    let a = c.args.parts.now in
    let f = c.args.frame in
    let slot = c.args.slot in
    let now = c.move_on.ensures h.0 h.1 h.3.rests h.3.on_top h.3.same in
    let same = same_stack a c.move_on.new.self h.0 slot h.1 f h.3.rests.holds h.3.on_top now in
    let is = h.3.rests.holds in
    let low = low_height a h.0 is slot (λ most. c.if-height-eq-MAX_HEIGHT.false (c.height-height.ensures ∙ most)) in
    let high = height_is h.0.rows is.places a.config.slots a.nests is.steady.formed.stacked is.nests slot in
    rw (same, high) low

pub finish_step-requires-clause-rests : goal.finish_step-requires-clause-rests
finish_step-requires-clause-rests c =
    let h : CanIsolate c.args.parts.now c.args.slot c.args.frame c.args.procedure c.args.first c.args.second = c.requires.fits in
    let a = c.args.parts.now in
    let f = c.args.frame in
    let slot = c.args.slot in
    let g = called_frame f c.args.procedure c.args.first c.args.second in
    let b = c.move_on.new.self in
    let is = h.3.rests.holds in
    let now = c.move_on.ensures h.0 h.1 h.3.rests h.3.on_top h.3.same in
    let on_top = still_top a b h.0 slot h.1 f is h.3.on_top now in
    let limit : is_row_limit_met h.0 ≡ false = sym (c.is_row_limit_met.ensures.value h.0 is) ∙ c.if-is_row_limit_met.false in
    let low = low_height a h.0 is slot (λ most. c.if-height-eq-MAX_HEIGHT.false (c.height-height.ensures ∙ most)) in
    let steady = steady_isolated h.0 slot h.1 (top_at a h.0 is slot h.1 h.3.on_top) is.steady f h.2 c.args.procedure c.args.first c.args.second h.3.same h.4 (has_room h.0 limit) low in
    let u : State = add_row (with_frame h.0 h.1 f) (new_row (Region h.1) (row h.0.rows h.1).job (Some slot) g (Live slot (height h.0.rows slot + 1))) in
    let it : Rests c.isolate.new.self u =
    region_rests a b h.0 slot h.1 f is h.3.on_top now c.isolate.new.self c.called_frame.result g c.called_frame.ensures steady (c.isolate.ensures (with_frame h.0 h.1 f) h.1 now.holds on_top) in
    (u, it)

pub finish_step-requires-clause-slot : goal.finish_step-requires-clause-slot
finish_step-requires-clause-slot c =
    let h : CanIsolate c.args.parts.now c.args.slot c.args.frame c.args.procedure c.args.first c.args.second = c.requires.fits in
    let a = c.args.parts.now in
    let f = c.args.frame in
    let slot = c.args.slot in
    let g = called_frame f c.args.procedure c.args.first c.args.second in
    let b = c.move_on.new.self in
    let is = h.3.rests.holds in
    let now = c.move_on.ensures h.0 h.1 h.3.rests h.3.on_top h.3.same in
    let on_top = still_top a b h.0 slot h.1 f is h.3.on_top now in
    let limit : is_row_limit_met h.0 ≡ false = sym (c.is_row_limit_met.ensures.value h.0 is) ∙ c.if-is_row_limit_met.false in
    let low = low_height a h.0 is slot (λ most. c.if-height-eq-MAX_HEIGHT.false (c.height-height.ensures ∙ most)) in
    let steady = steady_isolated h.0 slot h.1 (top_at a h.0 is slot h.1 h.3.on_top) is.steady f h.2 c.args.procedure c.args.first c.args.second h.3.same h.4 (has_room h.0 limit) low in
    let u : State = add_row (with_frame h.0 h.1 f) (new_row (Region h.1) (row h.0.rows h.1).job (Some slot) g (Live slot (height h.0.rows slot + 1))) in
    let it : Rests c.isolate.new.self u =
    region_rests a b h.0 slot h.1 f is h.3.on_top now c.isolate.new.self c.called_frame.result g c.called_frame.ensures steady (c.isolate.ensures (with_frame h.0 h.1 f) h.1 now.holds on_top) in
    same_slots a c.isolate.new.self h.0 u is it.holds refl slot h.1 h.3.on_top

pub finish_step-requires-clause-room : goal.finish_step-requires-clause-room
finish_step-requires-clause-room c =
    let h : CanIsolate c.args.parts.now c.args.slot c.args.frame c.args.procedure c.args.first c.args.second = c.requires.fits in
    let a = c.args.parts.now in
    let f = c.args.frame in
    let slot = c.args.slot in
    let g = called_frame f c.args.procedure c.args.first c.args.second in
    let b = c.move_on.new.self in
    let is = h.3.rests.holds in
    let now = c.move_on.ensures h.0 h.1 h.3.rests h.3.on_top h.3.same in
    let on_top = still_top a b h.0 slot h.1 f is h.3.on_top now in
    let limit : is_row_limit_met h.0 ≡ false = sym (c.is_row_limit_met.ensures.value h.0 is) ∙ c.if-is_row_limit_met.false in
    let low = low_height a h.0 is slot (λ most. c.if-height-eq-MAX_HEIGHT.false (c.height-height.ensures ∙ most)) in
    let steady = steady_isolated h.0 slot h.1 (top_at a h.0 is slot h.1 h.3.on_top) is.steady f h.2 c.args.procedure c.args.first c.args.second h.3.same h.4 (has_room h.0 limit) low in
    let u : State = add_row (with_frame h.0 h.1 f) (new_row (Region h.1) (row h.0.rows h.1).job (Some slot) g (Live slot (height h.0.rows slot + 1))) in
    let it : Rests c.isolate.new.self u =
    region_rests a b h.0 slot h.1 f is h.3.on_top now c.isolate.new.self c.called_frame.result g c.called_frame.ensures steady (c.isolate.ensures (with_frame h.0 h.1 f) h.1 now.holds on_top) in
    same_room a c.isolate.new.self h.0 u is it.holds refl refl c.requires.room

pub returns : goal.returns
returns c = λ s n d fits here.
    let a = c.args.parts.now in
    let f = c.args.frame in
    let slot = c.args.slot in
    let g = called_frame f c.args.procedure c.args.first c.args.second in
    let b = c.move_on.new.self in
    let is = fits.rests.holds in
    let now = c.move_on.ensures s n fits.rests fits.on_top fits.same in
    let on_top = still_top a b s slot n f is fits.on_top now in
    let limit : is_row_limit_met s ≡ false = sym (c.is_row_limit_met.ensures.value s is) ∙ c.if-is_row_limit_met.false in
    let low = low_height a s is slot (λ most. c.if-height-eq-MAX_HEIGHT.false (c.height-height.ensures ∙ most)) in
    let steady = steady_isolated s slot n (top_at a s is slot n fits.on_top) is.steady f d c.args.procedure c.args.first c.args.second fits.same here (has_room s limit) low in
    let u : State = add_row (with_frame s n f) (new_row (Region n) (row s.rows n).job (Some slot) g (Live slot (height s.rows slot + 1))) in
    let it : Rests c.isolate.new.self u =
    region_rests a b s slot n f is fits.on_top now c.isolate.new.self c.called_frame.result g c.called_frame.ensures steady (c.isolate.ensures (with_frame s n f) n now.holds on_top) in
    let fine : (height s.rows slot == MAX_HEIGHT) ≡ false = below_is_other (height s.rows slot) MAX_HEIGHT low in
    rw (fine, limit) (c.finish_step.ensures u it)
