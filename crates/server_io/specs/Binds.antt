-- How a server comes to listen at a path.
use Rattle.std.specs.Prelude.{ℕ, ◌≡◌, ◌⊎◌, ◌==◌, ◌++◌, List, Option, Some, None, codes, decimal, if◌then◌else◌}
use Rattle.server_io.specs.declared.endpoint.BindFault.{BindFault}
use Rattle.server_io.specs.declared.endpoint.BindFault.TheVariants as bind

-- the folder of a number, beside a path, in which a socket is made
abbrev pub room_at : List ℕ → ℕ → List ℕ
room_at path number = if number == 1 then path ++ codes ".d" else path ++ (codes ".d" ++ decimal number)

-- what is wrong with a path, if it is the path
abbrev pub why_of : BindFault → Option (List ℕ)
why_of bind.Taken = Some (codes "something is there already")
why_of bind.NoRoom = Some (codes "something is at each of its paths from .d to .d64 already")
why_of bind.Replaced = Some (codes "somebody has put another file there")
why_of bind.Device = Some (codes "no socket can be made there")
why_of bind.Memory = None

-- It is a fault of one of the steps.
abbrev pub IsStepFault : BindFault → Type 0
IsStepFault fault = (fault ≡ bind.Device) ⊎ (fault ≡ bind.Memory)
