-- What a step does to an arena, to the market and to what a world holds.
use Rattle.std.specs.Prelude.{ℕ, ◌≡◌}
use Rattle.job_language.specs.declared.answers.Answer.{Answer}
use Rattle.job_language.specs.declared.steps.Step.{Step}
use Rattle.tenant_model.specs.State.{State}
use Rattle.tenant_model.specs.Solo as solo
use Rattle.world_model.specs.declared.outcomes.Outcome.{Outcome}
use Rattle.world_model.specs.Market.{Market}
use Rattle.world_model.specs.Raw.{Raw}
use Rattle.world_model.specs.World.{World, market_after, wake_after}
use Rattle.world_model.specs.Refusals.{IsAnswer, next}
use Rattle.world_core.specs.WorldData.{WorldData}
use Rattle.world_core.specs.Represents.{Represents}

-- A tenant in this state takes a step y of its own, which is the step x of the world: its answer, and its arena and the market after it.
pub record IsTaken {A : Type 0} (stands_for : A → State → Type 0) (s : State) (x : Raw) (t : ℕ) (y : Step) (m : Market) (answer : Answer) (arena : A) (n : Market) : Type 0 where
  pub answer_is : answer ≡ (solo.step s y).0
  pub stands : stands_for arena (solo.step s y).1
  pub market_is : n ≡ wake_after (market_after m x (solo.step s y).0) t (solo.step s y).0 (solo.step s y).1

-- A step with this outcome leads from what is held to what is held then, in every world that is represented.
pub record Steps {A : Type 0} (stands_for : A → State → Type 0) (old new : WorldData A) (x : Raw) (o : Outcome) : Type 0 where
  pub answer : (w : World) → Represents stands_for old w → IsAnswer w x o
  pub world : (w : World) → Represents stands_for old w → Represents stands_for new (next w x o)
