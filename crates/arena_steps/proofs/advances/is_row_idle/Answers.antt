use Rattle.std.proofs.Common.{◌≡◌, Some, true, false, sym, ◌∙◌, arith}
use Rattle.tenant_model.specs.Walks.{pick}
use Rattle.tenant_model.specs.Advance.{is_idle_wait}
use Rattle.tenant_model.proofs.Blocked.{idle_wait, no_idle_wait}
use Rattle.arena_rows.proofs.Taken.{pick_taken}
use Rattle.arena_rows.proofs.TopRows.{on_slot, top_within}
use Rattle.arena_steps.proofs.Idling.{none_is, some_is, idle_waits, pick_moves, run_moves}
use Rattle.arena_steps.proofs.Takes.{none_picked}
use Rattle.arena_steps.proofs.advances.is_row_idle.Goals as goal
use Rattle.arena_steps.proofs.advances.is_row_idle.Goals.{else-stops_blocked-via-then-stops_blocked+else-run-eq0, else-stops_blocked-via-else-stops_blocked}

pub pick-requires-clause-slot : goal.pick-requires-clause-slot
pick-requires-clause-slot c =
    let h = c.requires in
    top_within c.args.parts.now c.args.slot (h.0, h.1, h.2.holds, h.3)

pub pick-requires-clause-slots : goal.pick-requires-clause-slots
pick-requires-clause-slots c =
    let h = c.requires in
    let waiting = h.2.holds.waiting in
    rw waiting (on_slot c.args.parts.now h.0 h.2.holds c.args.slot h.1 h.3)

pub returns-then-run-eq0-clause-idle : goal.returns-then-run-eq0-clause-idle
returns-then-run-eq0-clause-idle c = λ s n rests on_top idle.
    let slot = c.args.slot in
    let r = c.run_top-run.result in
    let waits : is_idle_wait s n r.count r.stop ≡ true =
    idle_wait s n r.count r.stop c.stops_blocked.result (c.stops_blocked.ensures s n rests.holds on_top) c.if-stops_blocked.true c.if-run-eq0.true in
    let none = none_picked c.args.parts.now s slot rests (sym c.pick.ensures ∙ none_is c.pick.result c.is_none.result c.is_none.ensures idle) in
    idle_waits s slot n r (c.run_top-run.ensures.run s n rests.holds on_top) waits none

pub returns-then-run-eq0-clause-moves : goal.returns-then-run-eq0-clause-moves
returns-then-run-eq0-clause-moves c = λ s n rests on_top moves.
    let slot = c.args.slot in
    let r = c.run_top-run.result in
    let waits : is_idle_wait s n r.count r.stop ≡ true =
    idle_wait s n r.count r.stop c.stops_blocked.result (c.stops_blocked.ensures s n rests.holds on_top) c.if-stops_blocked.true c.if-run-eq0.true in
    let some = some_is c.pick.result c.is_none.result c.is_none.ensures moves in
    let taken : pick s slot ≡ Some some.0.number = pick_taken c.args.parts.now s rests slot some.0 (sym c.pick.ensures ∙ some.1) in
    pick_moves s slot n some.0.number r (c.run_top-run.ensures.run s n rests.holds on_top) waits taken

pub returns-clause-moves : goal.returns-clause-moves
returns-clause-moves c = λ s n rests on_top moves.
    let slot = c.args.slot in
    let r = c.run_top-run.result in
    let runs : is_idle_wait s n r.count r.stop ≡ false =
    no_idle_wait s n r.count r.stop c.stops_blocked.result (c.stops_blocked.ensures s n rests.holds on_top) (λ waits none. elim c.else-stops_blocked.branch [
      | else-stops_blocked-via-then-stops_blocked+else-run-eq0 v ↦ v.if-run-eq0.false none
      | else-stops_blocked-via-else-stops_blocked v ↦ absurd (grind (arith, waits, v.if-stops_blocked.false))
    ]) in
    run_moves s slot n r (c.run_top-run.ensures.run s n rests.holds on_top) runs
