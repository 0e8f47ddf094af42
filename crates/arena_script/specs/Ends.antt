-- What the program does when a script ends.
use Rattle.std.specs.Prelude.{ℕ, List, Option, Some, None, codes}
use Rattle.arena_script.specs.declared.ends.ScriptEnd.{ScriptEnd}
use Rattle.arena_script.specs.declared.ends.ScriptEnd.TheVariants.{Done, BadLine, Words, Config, History, Device, Memory}

abbrev pub status_of : ScriptEnd → ℕ
status_of Done = 0
status_of BadLine = 2
status_of Words = 2
status_of Config = 2
status_of History = 2
status_of Device = 3
status_of Memory = 3

abbrev pub fault_of : ScriptEnd → Option (List ℕ)
fault_of Done = None
fault_of BadLine = None
fault_of Words = Some (codes "arena-script: words")
fault_of Config = Some (codes "arena-script: config")
fault_of History = Some (codes "arena-script: history")
fault_of Device = Some (codes "arena-script: device")
fault_of Memory = Some (codes "arena-script: memory")
