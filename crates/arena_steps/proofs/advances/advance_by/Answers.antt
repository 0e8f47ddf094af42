use Rattle.std.proofs.Common.{◌≡◌, true, false, sym, ◌∙◌, subst, arith}
use Rattle.tenant_model.specs.Advance.{advance_run, after_run, is_idle_wait, run_on, unless_full}
use Rattle.tenant_model.proofs.Blocked.{idle_wait, no_idle_wait}
use Rattle.arena_rows.specs.Represents.{Gives}
use Rattle.arena_steps.specs.Within.{within}
use Rattle.arena_steps.proofs.Rooms.{gives-full, gives-room, after_run_enters}
use Rattle.arena_steps.proofs.Takes.{advance_run_on, advance_run_waits}
use Rattle.arena_steps.proofs.advances.advance_by.Goals as goal
use Rattle.arena_steps.proofs.advances.advance_by.Goals.{else-is_blocked-via-then-is_blocked+else-run-eq0, else-is_blocked-via-else-is_blocked}

pub returns-then-run-eq0 : goal.returns-then-run-eq0
returns-then-run-eq0 c = λ s n fits.
    let slot = c.args.slot in
    let r = c.args.run.now in
    let waits : is_idle_wait s n r.count r.stop ≡ true =
    idle_wait s n r.count r.stop c.stops_blocked-is_blocked.result (c.stops_blocked-is_blocked.ensures s n fits.rests.holds fits.on_top) c.if-is_blocked.true c.if-run-eq0.true in
    subst (λ q. Gives c.advance_waiting.new.parts c.advance_waiting.result (within c.args.has_room s (unless_full s q))) (sym (advance_run_waits s slot n r fits.is waits))
    (c.advance_waiting.ensures s n fits.rests fits.on_top)

pub returns-then-lacks_room : goal.returns-then-lacks_room
returns-then-lacks_room c = λ s n fits.
    let slot = c.args.slot in
    let r = c.args.run.now in
    let runs : is_idle_wait s n r.count r.stop ≡ false =
    no_idle_wait s n r.count r.stop c.stops_blocked-is_blocked.result (c.stops_blocked-is_blocked.ensures s n fits.rests.holds fits.on_top) (λ waits none. elim c.else-is_blocked.branch [
      | else-is_blocked-via-then-is_blocked+else-run-eq0 v ↦ v.if-run-eq0.false none
      | else-is_blocked-via-else-is_blocked v ↦ absurd (grind (arith, waits, v.if-is_blocked.false))
    ]) in
    gives-full c.args.parts.now c.args.has_room s (advance_run s slot n (run_on s slot n)) (after_run s slot n r.count r.end r.stop) (advance_run_on s slot n r fits.is runs)
    (after_run_enters s slot n r.count r.end r.stop) (sym (c.lacks_room.ensures.value s fits.rests.holds) ∙ c.if-lacks_room.true) fits.rests

pub after_run-requires-clause-blocked : goal.after_run-requires-clause-blocked
after_run-requires-clause-blocked c = λ s n fits. c.stops_blocked-is_blocked.ensures s n fits.rests.holds fits.on_top

pub returns : goal.returns
returns c = λ s n fits.
    let slot = c.args.slot in
    let r = c.args.run.now in
    let runs : is_idle_wait s n r.count r.stop ≡ false =
    no_idle_wait s n r.count r.stop c.stops_blocked-is_blocked.result (c.stops_blocked-is_blocked.ensures s n fits.rests.holds fits.on_top) (λ waits none. elim c.else-is_blocked.branch [
      | else-is_blocked-via-then-is_blocked+else-run-eq0 v ↦ v.if-run-eq0.false none
      | else-is_blocked-via-else-is_blocked v ↦ absurd (grind (arith, waits, v.if-is_blocked.false))
    ]) in
    gives-room c.after_run.new.parts c.args.has_room s (advance_run s slot n (run_on s slot n)) (after_run s slot n r.count r.end r.stop) (advance_run_on s slot n r fits.is runs) c.after_run.result
    (sym (c.lacks_room.ensures.value s fits.rests.holds) ∙ c.if-lacks_room.false) (c.after_run.ensures s n fits)
