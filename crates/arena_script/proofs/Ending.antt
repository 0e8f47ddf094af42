-- How scripts end.
use Rattle.std.proofs.Common.{◌≡◌, Option, Some, None, refl, arith}
use Rattle.std.specs.Prelude.{Contains}
use Rattle.arena_script.specs.Commands.{ends_of}
use Rattle.arena_script.specs.Faults.{IsFault}
use Rattle.arena_script.specs.declared.commands.Command.{Command}
use Rattle.arena_script.specs.declared.commands.Command.TheVariants as command
use Rattle.arena_script.specs.declared.ends.ScriptEnd.{ScriptEnd}
use Rattle.arena_script.specs.declared.ends.ScriptEnd.TheVariants as end

done_of : (it : Command) → Contains (ends_of (Some it)) end.Done
done_of command.Own = (0, omega arith, refl)
done_of command.Run = (0, omega arith, refl)
done_of command.Check = (0, omega arith, refl)
done_of command.Finish = (0, omega arith, refl)
done_of command.Serial = (0, omega arith, refl)

fault_of : (it : Command) (e : ScriptEnd) → IsFault it e → Contains (ends_of (Some it)) e
fault_of command.Own end.Config is = (1, omega arith, refl)
fault_of command.Own end.Device is = (2, omega arith, refl)
fault_of command.Own end.Memory is = (3, omega arith, refl)
fault_of command.Run end.Config is = (1, omega arith, refl)
fault_of command.Run end.Device is = (2, omega arith, refl)
fault_of command.Run end.Memory is = (3, omega arith, refl)
fault_of command.Check end.BadLine is = (1, omega arith, refl)
fault_of command.Check end.Device is = (2, omega arith, refl)
fault_of command.Check end.Memory is = (3, omega arith, refl)
fault_of command.Finish end.Config is = (1, omega arith, refl)
fault_of command.Finish end.History is = (2, omega arith, refl)
fault_of command.Finish end.Device is = (3, omega arith, refl)
fault_of command.Finish end.Memory is = (4, omega arith, refl)
fault_of command.Serial end.Device is = (1, omega arith, refl)
fault_of command.Serial end.Memory is = (2, omega arith, refl)
fault_of it e is = absurd is

-- A command's script may be done.
pub ends_done : (c : Option Command) (it : Command) → c ≡ Some it → Contains (ends_of c) end.Done
ends_done c it is = rw is (done_of it)

-- A command's script may end in each of its faults.
pub ends_fault : (c : Option Command) (it : Command) (e : ScriptEnd) → c ≡ Some it → IsFault it e → Contains (ends_of c) e
ends_fault c it e is faulted = rw is (fault_of it e faulted)

-- Other words end a script as such.
pub ends_words : (c : Option Command) → c ≡ None → Contains (ends_of c) end.Words
ends_words c is = rw is (0, omega arith, refl)
