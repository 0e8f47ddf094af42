-- A run of a world, one step more.
use Rattle.std.proofs.Common.{◌≡◌, ℕ, ◌+◌, ◌<◌, ◌≤◌, List, [], ◌∷◌, ◌++◌, length, map, take, get_or, sym, ap, ◌∙◌, subst}
use Rattle.std.proofs.lemmas.List.{map_more, length_push, length-map, length-take-le}
use Rattle.tenant_model.specs.State.{State}
use Rattle.world_model.specs.declared.outcomes.Outcome.{Outcome}
use Rattle.world_model.specs.Raw.{Raw}
use Rattle.world_model.specs.Refusals.{AreAnswers, IsAnswer, next, steps_taken}
use Rattle.world_model.specs.World.{World, after}
use Rattle.world_model.proofs.Taking.{after_push, answers_push}
use Rattle.world_core.specs.WorldData.{WorldData}
use Rattle.world_core.specs.Represents.{Represents}
use Rattle.world_core.specs.RawOf.{raw_of}
use Rattle.world_core.specs.declared.raws.Raw.{Raw as Code}

-- Steps with these outcomes lead from what is held to what is held then, in every world that is represented.
pub record HasRun {A : Type 0} (stands_for : A → State → Type 0) (old new : WorldData A) (xs : List Raw) (os : List Outcome) : Type 0 where
  pub long : length os ≡ length xs
  pub answers : (w : World) → Represents stands_for old w → AreAnswers w xs os
  pub world : (w : World) → Represents stands_for old w → Represents stands_for new (after w (steps_taken xs os))

module _ {A : Type 0} (stands_for : A → State → Type 0) (old mid new : WorldData A) (os : List Outcome) (o : Outcome) where
  run_push : (xs : List Raw) (x : Raw) → HasRun stands_for old mid xs os → ((w : World) → Represents stands_for mid w → IsAnswer w x o) →
      ((w : World) → Represents stands_for mid w → Represents stands_for new (next w x o)) →
      HasRun stands_for old new (xs ++ x ∷ []) (os ++ o ∷ [])
  run_push xs x run answer world = record {
    long = length_push os o ∙ ap (λ n. n + 1) run.long ∙ sym (length_push xs x);
    answers = λ w is. answers_push w xs x os o (run.answers w is) (answer (after w (steps_taken xs os)) (run.world w is));
    world = λ w is. subst (λ (v : World). Represents stands_for new v) (sym (after_push w xs x os o run.long)) (world (after w (steps_taken xs os)) (run.world w is));
  }

  -- one step more of a list of steps
  pub run_more : (raws : List Code) (i : ℕ) (d : Code) → i < length raws → HasRun stands_for old mid (map raw_of (take i raws)) os →
      ((w : World) → Represents stands_for mid w → IsAnswer w (raw_of (get_or raws i d)) o) →
      ((w : World) → Represents stands_for mid w → Represents stands_for new (next w (raw_of (get_or raws i d)) o)) →
      HasRun stands_for old new (map raw_of (take (i + 1) raws)) (os ++ o ∷ [])
  run_more raws i d within run answer world =
      let longer = run_push (map raw_of (take i raws)) (raw_of (get_or raws i d)) run answer world in
      subst (λ (xs : List Raw). HasRun stands_for old new xs (os ++ o ∷ [])) (sym (map_more raw_of raws i d within)) longer

-- the first steps of a list
pub taken_long : (raws : List Code) (i : ℕ) → i ≤ length raws → length (map raw_of (take i raws)) ≡ i
taken_long raws i within = length-map (take i raws) raw_of ∙ length-take-le i raws within
