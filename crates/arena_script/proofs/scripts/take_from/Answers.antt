use Rattle.std.proofs.Common.{◌≡◌, Option, Some, subst, refl}
use Rattle.std.specs.Prelude.{IfSome}
use Rattle.tenant_model.specs.State.{empty}
use Rattle.arena_script.proofs.Answering.{on_ok-map}
use Rattle.arena_script.proofs.scripts.take_from.Goals as goal

first_of : {A : Type 0} (starts : A → Type 0) (o : Option A) (own : A) → o ≡ Some own → IfSome o starts → starts own
first_of starts o own is it = subst (λ p. IfSome p starts) is it

pub returns-in-Some-clause-done : goal.returns-in-Some-clause-done
returns-in-Some-clause-done g c =
    let first = first_of _ c.in_ok-arena.field-0 c.in-Some.arena c.in-Some.is c.in_ok-arena.ensures.new in
    on_ok-map c.take_all.result _ _ (λ done known. rw (← c.line.ensures) (rw first.1 (refl, done known))) (c.take_all.ensures.done (empty first.0) first.2)

pub returns-in-Some-clause-part : goal.returns-in-Some-clause-part
returns-in-Some-clause-part g c = λ known.
    let first = first_of _ c.in_ok-arena.field-0 c.in-Some.arena c.in-Some.is c.in_ok-arena.ensures.new in
    rw (← c.line.ensures) (rw first.1 (c.take_all.ensures.part (empty first.0) first.2 known))
