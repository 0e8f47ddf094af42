-- When the check of a history takes memory.
use Rattle.std.specs.Prelude.{◌⊎◌, List, [], ◌∷◌}
use Rattle.job_language.specs.declared.steps.Entry.{Entry}
use Rattle.solo_eval.specs.Execution.{TakesMemory}
use Rattle.tenant_model.specs.Solo.{step}
use Rattle.tenant_model.specs.State.{State}

-- The step of some entry brings a job or makes a row, as the steps before have left the state: no other takes memory.
abbrev pub SomeTakesMemory : State → List Entry → Type 0
SomeTakesMemory s [] = ⊥
SomeTakesMemory s (e ∷ es) = TakesMemory s e.step ⊎ SomeTakesMemory (step s e.step).1 es
