use Rattle.serial_law.proofs.SerialAnswers.{serial_from_empty}
use Rattle.serial_law.proofs.serial_values.Goals as goal

pub returns : goal.returns
returns c = record { keeps = serial_from_empty }
