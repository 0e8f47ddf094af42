-- Which states an arena stands for between steps.
use Rattle.std.specs.Prelude.{◌≡◌}
use Rattle.tenant_model.specs.State.{State}
use Rattle.tenant_model.specs.Naming.{IsUnstuck}
use Rattle.tenant_model.specs.Sound.{IsCounted}
use Rattle.arena_rows.specs.Held.{Held}
use Rattle.arena_rows.specs.Represents.{Rests}

-- The parts stand for the state, which has no more rows and jobs than entries, and whose rows name instructions.
pub record StandsFor (a : Held) (s : State) : Type 0 where
  pub rests : Rests a s
  pub counted : IsCounted s
  pub unstuck : IsUnstuck s

-- Some state is there that it stands for.
abbrev pub IsOfSomeState : Held → Type 0
IsOfSomeState a = (s : State) × StandsFor a s

-- A step gives what the definitions give: the answer, and a state that the arena then stands for.
abbrev pub Takes : {A : Type 0} → (b : Held) → (answer : A) → A × State → Type 0
Takes b answer step = (answer ≡ step.0) × StandsFor b step.1
