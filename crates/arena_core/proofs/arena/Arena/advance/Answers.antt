use Rattle.tenant_model.specs.Advance.{advance}
use Rattle.arena_core.specs.Stands.{StandsFor}
use Rattle.arena_core.proofs.Standing.{keeps_regions, made_counted, stands_advanced}
use Rattle.arena_core.proofs.arena.Arena.advance.Goals as goal

pub advance-requires-clause-rests : goal.advance-requires-clause-rests
advance-requires-clause-rests c = let some = c.self.invariant in (some.0, some.1.rests)

pub advance-requires-clause-counted : goal.advance-requires-clause-counted
advance-requires-clause-counted c = let some = c.self.invariant in made_counted c.self.inside.parts some.0 some.1

pub invariant_of-self : goal.invariant_of-self
invariant_of-self c =
    let some = c.self.invariant in
    ((advance some.0 c.args.slot).1, stands_advanced c.self.inside.parts c.advance.new.parts some.0 c.args.slot some.1 (c.advance.ensures some.0 some.1.rests).1)

pub returns-clause-moved : goal.returns-clause-moved
returns-clause-moved c = λ s stands.
    let stood : StandsFor c.self.inside.parts s = rw (← c.self.view_is) at stands in
    let moved = c.advance.ensures s stood.rests in
    (moved.0, stands_advanced c.self.inside.parts c.advance.new.parts s c.args.slot stood moved.1)

pub returns-clause-regions : goal.returns-clause-regions
returns-clause-regions c = λ s stands. keeps_regions c.args.self.now s c.args.slot stands
