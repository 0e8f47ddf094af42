-- A world with the names of its tenants.
use Rattle.std.specs.Prelude.{ℕ, ◌≡◌, List, Option, Some, None}
use Rattle.job_language.specs.Configuration.{Configuration, names_of}
use Rattle.tenant_model.specs.State.{State}
use Rattle.world_model.specs.World.{World, start}
use Rattle.world_core.specs.WorldData.{WorldData}
use Rattle.world_core.specs.Represents.{Represents}

pub record Named (A : Type 0) : Type 0 where
  pub names : List (List ℕ)
  pub world : WorldData A

-- The names are these, and the world is represented.
pub record Knows {A : Type 0} (stands_for : A → State → Type 0) (names : List (List ℕ)) (w : World) (held : Named A) : Type 0 where
  pub names_are : held.names ≡ names
  pub world_is : Represents stands_for held.world w

-- the start of a configuration, if there is one
abbrev pub Starts : {A : Type 0} → (A → State → Type 0) → Option Configuration → Option (Named A) → Type 0
Starts {A = A} stands_for (Some c) (Some held) = Knows stands_for (names_of c.tenants) (start c) held
Starts {A = A} stands_for None None = Unit {0}
Starts {A = A} stands_for c held = ⊥
