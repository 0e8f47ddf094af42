-- The status of each end of a server, and the line of each of its faults.
use Rattle.std.specs.Prelude.{ℕ, List, Result, Ok, Err, codes}
use Rattle.server_io.specs.declared.endpoint.BindFault.{BindFault}
use Rattle.server_io.specs.declared.endpoint.BindFault.TheVariants as bind
use Rattle.server_io.specs.declared.ends.ServerEnd.{ServerEnd}
use Rattle.server_io.specs.declared.ends.ServerEnd.TheVariants.{Done, Close}
use Rattle.server_io.specs.declared.ends.ServerFault.{ServerFault}
use Rattle.server_io.specs.declared.ends.ServerFault.TheVariants.{Words, Config, Device, Memory}

abbrev pub status_of : Result ServerEnd ServerFault → ℕ
status_of (Ok Done) = 0
status_of (Ok Close) = 4
status_of (Err Words) = 2
status_of (Err Config) = 2
status_of (Err Device) = 3
status_of (Err Memory) = 3

abbrev pub text_of : ServerFault → List ℕ
text_of Words = codes "arena-server: words"
text_of Config = codes "arena-server: config"
text_of Device = codes "arena-server: device"
text_of Memory = codes "arena-server: memory"

-- why a server can't serve that can't listen at its path
abbrev pub fault_of_bind : BindFault → ServerFault
fault_of_bind bind.Taken = Device
fault_of_bind bind.NoRoom = Device
fault_of_bind bind.Replaced = Device
fault_of_bind bind.Device = Device
fault_of_bind bind.Memory = Memory
