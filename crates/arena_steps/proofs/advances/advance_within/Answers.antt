use Rattle.std.proofs.Common.{◌≡◌, ◌<◌, nat_lt, true, sym, ap, ◌∙◌, arith, subst}
use Rattle.std.specs.Option.{option_copied}
use Rattle.tenant_model.specs.Advance.{}
use Rattle.arena_rows.specs.Represents.{Gives}
use Rattle.arena_steps.specs.Within.{within}
use Rattle.arena_steps.proofs.Takes.{some_on_top, none_on_top, empty_stack, advance_on_top, advance_on_none}
use Rattle.arena_steps.proofs.advances.advance_within.Goals as goal

pub advance_row-requires-clause-top : goal.advance_row-requires-clause-top
advance_row-requires-clause-top c =
    let some = c.requires.rests in
    let on = some_on_top c.args.parts.now some.0 c.args.slot c.in-Some._top.now some.1.holds (sym c.top.ensures ∙ ap option_copied c.in-Some.is) in
    (some.0, on.0, some.1, on.1)

pub advance_empty-requires-clause-empty : goal.advance_empty-requires-clause-empty
advance_empty-requires-clause-empty c =
    let some = c.requires.rests in
    empty_stack c.args.parts.now some.0 c.args.slot some.1.holds (sym c.top.ensures ∙ ap option_copied c.in-None.is)

pub returns-in-Some : goal.returns-in-Some
returns-in-Some c = λ s rests.
    let slot = c.args.slot in
    let value = c.config.ensures.value in
    let within_slots : slot < s.config.slots = rw (← rests.holds.config, ← value) c.if-config-slot.false in
    let low : nat_lt slot s.config.slots ≡ true = grind (arith, within_slots) in
    let on = some_on_top c.args.parts.now s slot c.in-Some._top.now rests.holds (sym c.top.ensures ∙ ap option_copied c.in-Some.is) in
    subst (λ q. Gives c.advance_row.new.parts c.advance_row.result (within c.args.has_room s q)) (sym (advance_on_top s slot on.0 low on.1)) (c.advance_row.ensures s on.0 rests on.1)

pub returns-in-None : goal.returns-in-None
returns-in-None c = λ s rests.
    let slot = c.args.slot in
    let value = c.config.ensures.value in
    let within_slots : slot < s.config.slots = rw (← rests.holds.config, ← value) c.if-config-slot.false in
    let low : nat_lt slot s.config.slots ≡ true = grind (arith, within_slots) in
    let none = none_on_top c.args.parts.now s slot rests.holds (sym c.top.ensures ∙ ap option_copied c.in-None.is) in
    subst (λ q. Gives c.advance_empty.new.parts c.advance_empty.result (within c.args.has_room s q)) (sym (advance_on_none s slot low none)) (c.advance_empty.ensures s rests)
