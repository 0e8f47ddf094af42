use Rattle.tenant_model.specs.Solo.{after}
use Rattle.tenant_model.proofs.SoundSteps.{after_later, outcomes_stay}
use Rattle.tenant_model.proofs.laws.nothing_is_undone.Goals as goal

pub returns : goal.returns
returns c = record { later = after_later; outcomes = λ s xs sound. outcomes_stay s (after s xs) sound.tended (after_later s xs sound.well_formed) }
