-- Where the histories of tenants are kept, and what becomes of a server that can't keep one.
use Rattle.std.specs.Prelude.{ℕ, ◌++◌, List, codes}
use Rattle.dump_lines.specs.declared.whole.DumpFault.{DumpFault}
use Rattle.dump_lines.specs.declared.whole.DumpFault.TheVariants as dump
use Rattle.server_io.specs.declared.ends.ServerFault.{ServerFault}
use Rattle.server_io.specs.declared.ends.ServerFault.TheVariants.{Device, Memory}

-- the file of the tenant of a name in a folder
abbrev pub dump_at : List ℕ → List ℕ → List ℕ
dump_at folder name = folder ++ (codes "/" ++ (name ++ codes ".jsonl"))

-- how a server ends that can't keep a history
abbrev pub end_of_dump : DumpFault → ServerFault
end_of_dump dump.Memory = Memory
end_of_dump dump.Device = Device
end_of_dump dump.NoEntry = Device
