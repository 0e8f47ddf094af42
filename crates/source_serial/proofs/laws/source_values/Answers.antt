use Rattle.source_serial.proofs.Back.{source_values}
use Rattle.source_serial.proofs.Forth.{source_is_enough}
use Rattle.source_serial.proofs.laws.source_values.Goals as goal

pub returns : goal.returns
returns c = record { enough = source_is_enough; only = source_values }
