-- What the words of a script ask for, and how it may end.
use Rattle.std.specs.Prelude.{ℕ, List, [], ◌∷◌, Option, Some, None, if◌then◌else◌, codes}
use Rattle.std.specs.Borrow.{Bor}
use Rattle.std.specs.Str.{bytes_eq}
use Rattle.arena_script.specs.declared.commands.Command.{Command}
use Rattle.arena_script.specs.declared.commands.Command.TheVariants as command
use Rattle.arena_script.specs.declared.ends.ScriptEnd.{ScriptEnd}
use Rattle.arena_script.specs.declared.ends.ScriptEnd.TheVariants.{Done, BadLine, Words, Config, History, Device, Memory}

abbrev pub command_named : List ℕ → Option Command
command_named word =
    if bytes_eq word (codes "own") then Some command.Own
    else if bytes_eq word (codes "run") then Some command.Run
    else if bytes_eq word (codes "check") then Some command.Check
    else if bytes_eq word (codes "finish") then Some command.Finish
    else if bytes_eq word (codes "serial") then Some command.Serial
    else None

-- one word, or none for `own`
abbrev pub command_of : List (Bor (List ℕ)) → Option Command
command_of [] = Some command.Own
command_of (word ∷ []) = command_named word.now
command_of (word ∷ other ∷ words) = None

-- the ends that a script may have, by its command
abbrev pub ends_of : Option Command → List ScriptEnd
ends_of None = Words ∷ []
ends_of (Some command.Check) = Done ∷ BadLine ∷ Device ∷ Memory ∷ []
ends_of (Some command.Finish) = Done ∷ Config ∷ History ∷ Device ∷ Memory ∷ []
ends_of (Some command.Serial) = Done ∷ Device ∷ Memory ∷ []
ends_of (Some steps) = Done ∷ Config ∷ Device ∷ Memory ∷ []
