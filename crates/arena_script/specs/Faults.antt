-- What may end a script before its last line is answered.
use Rattle.std.specs.Prelude.{◌⊎◌}
use Rattle.arena_script.specs.declared.commands.Command.{Command}
use Rattle.arena_script.specs.declared.commands.Command.TheVariants as command
use Rattle.arena_script.specs.declared.ends.ScriptEnd.{ScriptEnd}
use Rattle.arena_script.specs.declared.ends.ScriptEnd.TheVariants.{BadLine, Config, History, Device, Memory}

-- A device's fault comes only if the reader failed or was called as often as it may be, or if the writer failed.
abbrev pub HasCause : (reader_failed reader_spent writer_failed : Type 0) → ScriptEnd → Type 0
HasCause reader_failed reader_spent writer_failed Device = reader_failed ⊎ (reader_spent ⊎ writer_failed)
HasCause reader_failed reader_spent writer_failed end = Unit {0}

-- what may end any reading of lines
abbrev pub IsLost : ScriptEnd → Type 0
IsLost Device = Unit {0}
IsLost Memory = Unit {0}
IsLost end = ⊥

abbrev pub IsFault : Command → ScriptEnd → Type 0
IsFault command.Own Config = Unit {0}
IsFault command.Run Config = Unit {0}
IsFault command.Check BadLine = Unit {0}
IsFault command.Finish Config = Unit {0}
IsFault command.Finish History = Unit {0}
IsFault it end = IsLost end
