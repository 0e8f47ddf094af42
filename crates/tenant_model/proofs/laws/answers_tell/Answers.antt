use Rattle.tenant_model.proofs.Advancing.{entry_counted, told_of_slots}
use Rattle.tenant_model.proofs.laws.answers_tell.Goals as goal

pub returns : goal.returns
returns c = record { counted = entry_counted; slots = told_of_slots }
