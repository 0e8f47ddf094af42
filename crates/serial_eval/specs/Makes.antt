-- Which instructions make a task, for which a serial value needs memory.
use Rattle.std.specs.Prelude.{List, Option, Some}
use Rattle.job_language.specs.declared.instructions.Instr.{Instr}
use Rattle.job_language.specs.declared.instructions.Instr.TheVariants.{Spawn, Isolate}
use Rattle.job_step.specs.declared.frames.Frame.{Frame}
use Rattle.job_step.specs.Frame.{instr_at}

abbrev pub MakesTask : Option Instr → Type 0
MakesTask (Some (Spawn g p a b)) = Unit {0}
MakesTask (Some (Isolate d p a b)) = Unit {0}
MakesTask i = ⊥

-- Some instruction of the program makes a task.
abbrev pub HasMaker : List (List Instr) → Type 0
HasMaker procs = (f : Frame) × MakesTask (instr_at procs f)
