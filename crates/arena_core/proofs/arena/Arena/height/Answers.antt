use Rattle.std.proofs.Common.{◌≤◌, ◌∙◌, arith}
use Rattle.arena_core.specs.Stands.{StandsFor}
use Rattle.arena_core.proofs.Standing.{held_height, no_stack}
use Rattle.arena_core.proofs.arena.Arena.height.Goals as goal

pub returns-then-slot-config-clause-value : goal.returns-then-slot-config-clause-value
returns-then-slot-config-clause-value c = λ s stands.
    let a = c.self.inside.parts in
    let value = c.config.ensures.value in
    let stood : StandsFor a s = rw (← c.self.view_is) at stands in
    let lacks : a.config.slots ≤ c.args.slot = rw value at c.if-slot-config.true in
    no_stack a s stood.rests.holds c.args.slot lacks

pub returns-clause-value : goal.returns-clause-value
returns-clause-value c = λ s stands.
    let a = c.self.inside.parts in
    let stood : StandsFor a s = rw (← c.self.view_is) at stands in
    c.height.ensures ∙ held_height a s stood.rests.holds c.args.slot

pub returns-clause-most : goal.returns-clause-most
returns-clause-most c =
    let some = c.self.invariant in
    omega (arith, c.height.ensures, held_height c.self.inside.parts some.0 some.1.rests.holds c.args.slot, some.1.rests.holds.steady.formed.stacked.low c.args.slot)
