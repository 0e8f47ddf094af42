use Rattle.std.proofs.Common.{◌≡◌, ◌<◌, ◌≤◌, nat_lt, Some, true, false, refl, sym, ◌∙◌, arith}
use Rattle.job_language.specs.declared.answers.Moved.TheVariants as moved
use Rattle.tenant_model.specs.Walks.{pick}
use Rattle.tenant_model.specs.Changes.{entry, nest}
use Rattle.tenant_model.specs.Advance.{begin}
use Rattle.arena_rows.proofs.Taken.{pick_taken}
use Rattle.arena_steps.proofs.Rooms.{gives-full, gives-room, gives-quiet}
use Rattle.arena_steps.proofs.Takes.{none_picked, begin-reserved, begin-none, begin-some}
use Rattle.arena_steps.proofs.advances.advance_empty.Goals as goal

pub returns-then-slot-config : goal.returns-then-slot-config
returns-then-slot-config c = λ s rests.
    let slot = c.args.slot in
    let value = c.config.ensures.value in
    let low : slot < s.config.reserved = rw (← rests.holds.config, ← value) c.if-slot-config.true in
    let reserved : nat_lt slot s.config.reserved ≡ true = grind (arith, low) in
    gives-quiet c.args.parts.now c.args.has_room s (begin s slot (pick s slot)) moved.Idle (begin-reserved s slot (pick s slot) reserved) refl refl rests

pub returns-in_default : goal.returns-in_default
returns-in_default c = λ s rests.
    let slot = c.args.slot in
    let value = c.config.ensures.value in
    let high : s.config.reserved ≤ slot = rw (← rests.holds.config, ← value) c.if-slot-config.false in
    let free : nat_lt slot s.config.reserved ≡ false = grind (arith, high) in
    let none = none_picked c.args.parts.now s slot rests (sym c.pick.ensures ∙ c.in_default.is) in
    gives-quiet c.args.parts.now c.args.has_room s (begin s slot (pick s slot)) moved.Left (begin-none s slot (pick s slot) free none) refl refl rests

pub returns-then-lacks_room : goal.returns-then-lacks_room
returns-then-lacks_room c = λ s rests.
    let slot = c.args.slot in
    let m = c.in-Some.row.number in
    let value = c.config.ensures.value in
    let high : s.config.reserved ≤ slot = rw (← rests.holds.config, ← value) c.if-slot-config.false in
    let free : nat_lt slot s.config.reserved ≡ false = grind (arith, high) in
    let taken : pick s slot ≡ Some m = pick_taken c.args.parts.now s rests slot c.in-Some.row (sym c.pick.ensures ∙ c.in-Some.is) in
    gives-full c.args.parts.now c.args.has_room s (begin s slot (pick s slot)) (moved.Nested m, entry (nest s slot m)) (begin-some s slot m (pick s slot) free taken) refl
    (sym (c.lacks_room.ensures.value s rests.holds) ∙ c.if-lacks_room.true) rests

pub returns : goal.returns
returns c = λ s rests.
    let slot = c.args.slot in
    let m = c.in-Some.row.number in
    let value = c.config.ensures.value in
    let high : s.config.reserved ≤ slot = rw (← rests.holds.config, ← value) c.if-slot-config.false in
    let free : nat_lt slot s.config.reserved ≡ false = grind (arith, high) in
    let taken : pick s slot ≡ Some m = pick_taken c.args.parts.now s rests slot c.in-Some.row (sym c.pick.ensures ∙ c.in-Some.is) in
    gives-room c.take.new.parts c.args.has_room s (begin s slot (pick s slot)) (moved.Nested m, entry (nest s slot m)) (begin-some s slot m (pick s slot) free taken) c.take.result
    (sym (c.lacks_room.ensures.value s rests.holds) ∙ c.if-lacks_room.false) (c.take.ensures s rests)
