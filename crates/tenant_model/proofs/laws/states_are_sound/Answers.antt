use Rattle.tenant_model.proofs.SoundSteps.{empty_sound, step_sound, step_attended}
use Rattle.tenant_model.proofs.AttendedSteps.{empty_attended}
use Rattle.tenant_model.proofs.laws.states_are_sound.Goals as goal

pub returns : goal.returns
returns c = record { first = empty_sound; steps = step_sound; no_makers = empty_attended; makers = step_attended }
