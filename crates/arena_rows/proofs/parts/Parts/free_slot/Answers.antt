use Rattle.std.proofs.Common.{◌≡◌, ◌==◌, ◌<◌, ◌-◌, ◌≤◌, length, refl, sym, ap, ◌∙◌, arith, true, false}
use Rattle.std.specs.Prelude.{find}
use Rattle.std.specs.List.{range_with_len}
use Rattle.std.proofs.lemmas.Bool.{ne_eqb}
use Rattle.nest_stack.specs.Nest.{stack}
use Rattle.arena_rows.proofs.Told.{slot_found, slot_passed, slot_told}
use Rattle.arena_rows.proofs.parts.Parts.free_slot.Goals as goal

pub returns-then-height-eq0-clause-value : goal.returns-then-height-eq0-clause-value
returns-then-height-eq0-clause-value c = λ s is.
    let a = c.args.self.now in
    let value = c.config.ensures.value in
    let within : c.loop-slot.slot < a.config.reserved = rw value at c.loop-slot-test.true in
    let empty : (length (stack a.nests c.loop-slot.slot) == 0) ≡ true = rw (← c.height.ensures, c.if-height-eq0.true) refl in
    sym (slot_found a c.loop-slot.slot within empty) ∙ c.loop-slot.invariant ∙ slot_told a s is

pub loop-slot-preserved : goal.loop-slot-preserved
loop-slot-preserved c =
    let a = c.args.self.now in
    let value = c.config.ensures.value in
    let within : c.loop-slot.slot < a.config.reserved = rw value at c.loop-slot-test.true in
    let taken : (length (stack a.nests c.loop-slot.slot) == 0) ≡ false = rw (← c.height.ensures) (ne_eqb c.height.result 0 c.if-height-eq0.false) in
    sym (slot_passed a c.loop-slot.slot within taken) ∙ c.loop-slot.invariant

pub returns-clause-value : goal.returns-clause-value
returns-clause-value c = λ s is.
    let a = c.args.self.now in
    let value = c.config.ensures.value in
    let past : a.config.reserved ≤ c.loop-slot.slot = rw value at c.loop-slot-test.false in
    let none : a.config.reserved - c.loop-slot.slot ≡ 0 = omega (arith, past) in
    sym (ap (λ n. find (λ slot. length (stack a.nests slot) == 0) (range_with_len c.loop-slot.slot n)) none) ∙ c.loop-slot.invariant ∙ slot_told a s is
