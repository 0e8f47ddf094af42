use Rattle.std.proofs.Common.{◌≡◌, Some, refl, sym, ap, ◌∙◌}
use Rattle.job_language.specs.declared.answers.Moved.TheVariants as moved
use Rattle.tenant_model.specs.Walks.{pick}
use Rattle.tenant_model.specs.Advance.{nest_pick}
use Rattle.arena_rows.proofs.Taken.{pick_taken}
use Rattle.arena_rows.proofs.TopRows.{on_slot, top_within}
use Rattle.arena_steps.proofs.Rooms.{gives-full, gives-room, gives-quiet, nest_enters}
use Rattle.arena_steps.proofs.Takes.{none_picked}
use Rattle.arena_steps.proofs.advances.advance_waiting.Goals as goal

pub pick-requires-clause-slot : goal.pick-requires-clause-slot
pick-requires-clause-slot c =
    let h = c.requires in
    top_within c.args.parts.now c.args.slot (h.0, h.1, h.2.holds, h.3)

pub pick-requires-clause-slots : goal.pick-requires-clause-slots
pick-requires-clause-slots c =
    let h = c.requires in
    let waiting = h.2.holds.waiting in
    rw waiting (on_slot c.args.parts.now h.0 h.2.holds c.args.slot h.1 h.3)

pub returns-in_default : goal.returns-in_default
returns-in_default c = λ s n rests on_top.
    let slot = c.args.slot in
    let none = none_picked c.args.parts.now s slot rests (sym c.pick.ensures ∙ c.in_default.is) in
    gives-quiet c.args.parts.now c.args.has_room s (nest_pick s slot n (pick s slot)) moved.Idle (ap (nest_pick s slot n) none) refl refl rests

pub returns-then-lacks_room : goal.returns-then-lacks_room
returns-then-lacks_room c = λ s n rests on_top.
    let slot = c.args.slot in
    let m = c.in-Some.row.number in
    let taken : pick s slot ≡ Some m = pick_taken c.args.parts.now s rests slot c.in-Some.row (sym c.pick.ensures ∙ c.in-Some.is) in
    gives-full c.args.parts.now c.args.has_room s (nest_pick s slot n (pick s slot)) (nest_pick s slot n (Some m)) (ap (nest_pick s slot n) taken) (nest_enters s slot n m)
    (sym (c.lacks_room.ensures.value s rests.holds) ∙ c.if-lacks_room.true) rests

pub returns : goal.returns
returns c = λ s n rests on_top.
    let slot = c.args.slot in
    let m = c.in-Some.row.number in
    let taken : pick s slot ≡ Some m = pick_taken c.args.parts.now s rests slot c.in-Some.row (sym c.pick.ensures ∙ c.in-Some.is) in
    gives-room c.take_on_top.new.parts c.args.has_room s (nest_pick s slot n (pick s slot)) (nest_pick s slot n (Some m)) (ap (nest_pick s slot n) taken) c.take_on_top.result
    (sym (c.lacks_room.ensures.value s rests.holds) ∙ c.if-lacks_room.false) (c.take_on_top.ensures s n rests on_top)
