-- What a frame asks for at a shared instruction, and where it goes on.
use Rattle.std.specs.Prelude.{◌+◌, ℤ, Option, Some, None, slice_set}
use Rattle.job_language.specs.declared.instructions.Instr.{Instr}
use Rattle.job_language.specs.declared.instructions.Instr.TheVariants as instr
use Rattle.job_step.specs.declared.frames.Frame.{Frame}
use Rattle.job_step.specs.Frame.{register, at_place, write_and_step}
use Rattle.source_language.specs.Meaning.{Operation, Spawns, Posts, Isolates, Waits, Cancels, Asks, Loads, Sums, Counts, Stores, Returns}

abbrev pub operation_of : Instr → Frame → Option Operation
operation_of (instr.Spawn g p a b) f = Some (Spawns g p (register f a) (register f b))
operation_of (instr.Post p a b) f = Some (Posts p (register f a) (register f b))
operation_of (instr.Isolate d p a b) f = Some (Isolates p (register f a) (register f b))
operation_of (instr.Wait d e g) f = Some (Waits g)
operation_of (instr.Cancel g) f = Some (Cancels g)
operation_of (instr.Ask d) f = Some Asks
operation_of (instr.Load d k) f = Some (Loads k)
operation_of (instr.Sum d k) f = Some (Sums k)
operation_of (instr.Count d k) f = Some (Counts k)
operation_of (instr.Store k a) f = Some (Stores k (register f a))
operation_of (instr.Ret a) f = Some (Returns (register f a))
operation_of i f = None

-- the frame after a shared instruction that was answered by two numbers, of which most use one or none
abbrev pub resumed : Instr → ℤ → ℤ → Frame → Frame
resumed (instr.Isolate d p a b) x y f = write_and_step f d x
resumed (instr.Wait d e g) x y f = write_and_step (record f { registers = slice_set f.registers d x }) e y
resumed (instr.Ask d) x y f = write_and_step f d x
resumed (instr.Load d k) x y f = write_and_step f d x
resumed (instr.Sum d k) x y f = write_and_step f d x
resumed (instr.Count d k) x y f = write_and_step f d x
resumed i x y f = at_place f (f.place + 1)
