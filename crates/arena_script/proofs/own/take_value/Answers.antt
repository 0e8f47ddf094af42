use Rattle.std.proofs.Common.{◌≡◌, ℕ, List, Bool, true, false, Option, None, cond, codes, bytes_eq, option_and_then, refl, sym, ap, ◌∙◌, subst}
use Rattle.std.proofs.lemmas.Bool.{false_from_ne_true}
use Rattle.std.proofs.lemmas.Slice.Eq.{bytes_eq-Decides}
use Rattle.serde_json.specs.Data.{Data}
use Rattle.serde_json.specs.View.{view}
use Rattle.job_language.specs.declared.answers.Answer.{Answer}
use Rattle.tenant_model.specs.State.{State}
use Rattle.arena_core.specs.Stands.{StandsFor}
use Rattle.arena_script.specs.Steps.{step_taken, value_taken}
use Rattle.arena_script.specs.Taken.{or_none}
use Rattle.arena_script.proofs.own.take_value.Goals as goal

other : (name text : List ℕ) → (name ≡ text → ⊥) → bytes_eq name text ≡ false
other name text differs = false_from_ne_true (bytes_eq name text) (λ same. differs ((bytes_eq-Decides name text).0 same))

-- No step has another name than these three.
unnamed : (s : State) (name : List ℕ) (d : Data) → (name ≡ codes "ask" → ⊥) → (name ≡ codes "arrive" → ⊥) → (name ≡ codes "advance" → ⊥) → step_taken s name d ≡ None
unnamed s name d a b e = rw (other name (codes "ask") a, other name (codes "arrive") b, other name (codes "advance") e) refl

none_either_way : {A : Type 0} (b : Bool) (o : Option A) → o ≡ None → cond b o None ≡ None
none_either_way true o is = is
none_either_way false o is = refl

pub returns-in_default-name-clause-ok : goal.returns-in_default-name-clause-ok
returns-in_default-name-clause-ok c = λ s stands.
    let d : Data = view c.args.value in
    let no_step = unnamed s c.in-Some.name.now d c.in_default-name.not-ask c.in_default-name.not-arrive c.in_default-name.not-advance in
    let read = ap (option_and_then (λ (name : List ℕ). step_taken s name d)) (sym c.in-Some.ensures) ∙ no_step in
    let none : value_taken s d ≡ None = none_either_way _ _ read in
    let Gives : Option (Answer × State) → Type 0 = λ o. (None ≡ (or_none s o).0) × StandsFor c.args.arena.now (or_none s o).1 in
    subst Gives (sym none) (refl, stands)
