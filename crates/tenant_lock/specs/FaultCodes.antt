-- The numbers of what is found wrong when a door is closed.
use Rattle.std.specs.Prelude.{ℕ}
use Rattle.tenant_lock.specs.declared.faults.CloseFault.{CloseFault}
use Rattle.tenant_lock.specs.declared.faults.CloseFault.TheVariants.{PassLost, CountWrong, LogWrong, SeatMissing, AskWrong, ConfigWrong, FullWrong}

abbrev pub code_of : CloseFault → ℕ
code_of (PassLost at) = 1
code_of (CountWrong at) = 2
code_of (LogWrong at) = 3
code_of SeatMissing = 4
code_of (AskWrong n) = 5
code_of ConfigWrong = 6
code_of FullWrong = 7
