use Rattle.std.proofs.Common.{◌≡◌, ◌≢◌, ◌<◌, nat_lt, true, false, sym, ap, ◌∙◌, arith, subst}
use Rattle.std.specs.Option.{option_copied}
use Rattle.job_language.specs.declared.answers.Moved.TheVariants as moved
use Rattle.tenant_model.specs.Walks.{pick}
use Rattle.job_language.specs.declared.answers.Moved.{Moved}
use Rattle.tenant_model.specs.State.{State}
use Rattle.tenant_model.specs.Advance.{advance}
use Rattle.arena_steps.proofs.Idling.{idle_reserved, worker_moves}
use Rattle.arena_steps.proofs.Takes.{some_on_top, none_on_top, advance_on_top, advance_on_none}
use Rattle.arena_steps.proofs.advances.is_idle.Goals as goal

pub is_row_idle-requires : goal.is_row_idle-requires
is_row_idle-requires c =
    let some = c.requires in
    let on = some_on_top c.args.parts.now some.0 c.args.slot c.in-Some._top.now some.1.holds (sym c.top.ensures ∙ ap option_copied c.in-Some.is) in
    (some.0, on.0, some.1, on.1)

pub returns-in-Some-clause-idle : goal.returns-in-Some-clause-idle
returns-in-Some-clause-idle c = λ s rests idle.
    let slot = c.args.slot in
    let value = c.config.ensures.value in
    let within_slots : slot < s.config.slots = rw (← rests.holds.config, ← value) c.if-config-slot.false in
    let low : nat_lt slot s.config.slots ≡ true = grind (arith, within_slots) in
    let on = some_on_top c.args.parts.now s slot c.in-Some._top.now rests.holds (sym c.top.ensures ∙ ap option_copied c.in-Some.is) in
    let at : (advance s slot).0 ≡ moved.Idle = rw (advance_on_top s slot on.0 low on.1) (c.is_row_idle.ensures.idle s on.0 rests on.1 idle) in
    at

pub returns-in-None-clause-idle : goal.returns-in-None-clause-idle
returns-in-None-clause-idle c = λ s rests idle.
    let slot = c.args.slot in
    let value = c.config.ensures.value in
    let within_slots : slot < s.config.slots = rw (← rests.holds.config, ← value) c.if-config-slot.false in
    let low : nat_lt slot s.config.slots ≡ true = grind (arith, within_slots) in
    let none = none_on_top c.args.parts.now s slot rests.holds (sym c.top.ensures ∙ ap option_copied c.in-None.is) in
    let reserved : nat_lt slot s.config.reserved ≡ true = rw (← rests.holds.config, ← c.config-in-None.ensures.value) idle in
    let at : (advance s slot).0 ≡ moved.Idle = rw (advance_on_none s slot low none) (idle_reserved s slot reserved (pick s slot)) in
    at

pub returns-in-Some-clause-moves : goal.returns-in-Some-clause-moves
returns-in-Some-clause-moves c = λ s rests moves.
    let slot = c.args.slot in
    let value = c.config.ensures.value in
    let within_slots : slot < s.config.slots = rw (← rests.holds.config, ← value) c.if-config-slot.false in
    let low : nat_lt slot s.config.slots ≡ true = grind (arith, within_slots) in
    let on = some_on_top c.args.parts.now s slot c.in-Some._top.now rests.holds (sym c.top.ensures ∙ ap option_copied c.in-Some.is) in
    subst (λ (q : Moved × State). q.0 ≢ moved.Idle) (sym (advance_on_top s slot on.0 low on.1)) (c.is_row_idle.ensures.moves s on.0 rests on.1 moves)

pub returns-in-None-clause-moves : goal.returns-in-None-clause-moves
returns-in-None-clause-moves c = λ s rests moves.
    let slot = c.args.slot in
    let value = c.config.ensures.value in
    let within_slots : slot < s.config.slots = rw (← rests.holds.config, ← value) c.if-config-slot.false in
    let low : nat_lt slot s.config.slots ≡ true = grind (arith, within_slots) in
    let none = none_on_top c.args.parts.now s slot rests.holds (sym c.top.ensures ∙ ap option_copied c.in-None.is) in
    let free : nat_lt slot s.config.reserved ≡ false = rw (← rests.holds.config, ← c.config-in-None.ensures.value) moves in
    subst (λ (q : Moved × State). q.0 ≢ moved.Idle) (sym (advance_on_none s slot low none)) (worker_moves s slot free (pick s slot))
