use Rattle.std.proofs.Common.{◌≡◌, false, true, sym, ◌∙◌, refl, subst}
use Rattle.job_language.specs.declared.answers.Came.TheVariants as came
use Rattle.tenant_model.specs.Advance.{arrive}
use Rattle.arena_rows.specs.Represents.{Gives}
use Rattle.arena_steps.specs.Within.{arrive_within}
use Rattle.arena_steps.proofs.Arriving.{came_within-open, none_within, some_within}
use Rattle.arena_steps.proofs.arrivals.arrive_within.Goals as goal

pub returns-then-has_room : goal.returns-then-has_room
returns-then-has_room c = λ s rests.
    let slot = c.args.slot in
    let given : Gives c.arrive.new.self c.arrive.result (arrive_within true s slot) =
    subst (Gives c.arrive.new.self c.arrive.result) (sym (came_within-open s (arrive s slot))) (c.arrive.ensures s rests) in
    subst (λ room. Gives c.arrive.new.self c.arrive.result (arrive_within room s slot)) (sym c.if-has_room.true) given

pub returns-then-would_find : goal.returns-then-would_find
returns-then-would_find c = λ s rests.
    let slot = c.args.slot in
    let refused : arrive_within false s slot ≡ (came.Full, s) = some_within s slot (sym (c.would_find.ensures s rests) ∙ c.if-would_find.true) in
    let quiet : Gives c.args.parts.now came.Full (came.Full, s) = (refl, rests) in
    let given : Gives c.args.parts.now came.Full (arrive_within false s slot) = subst (Gives c.args.parts.now came.Full) (sym refused) quiet in
    subst (λ room. Gives c.args.parts.now came.Full (arrive_within room s slot)) (sym c.if-has_room.false) given

pub returns : goal.returns
returns c = λ s rests.
    let slot = c.args.slot in
    let none = none_within s slot (sym (c.would_find.ensures s rests) ∙ c.if-would_find.false) in
    let given : Gives c.arrive-2.new.self c.arrive-2.result (arrive_within false s slot) = subst (Gives c.arrive-2.new.self c.arrive-2.result) none (c.arrive-2.ensures s rests) in
    subst (λ room. Gives c.arrive-2.new.self c.arrive-2.result (arrive_within room s slot)) (sym c.if-has_room.false) given
