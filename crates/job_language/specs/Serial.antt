-- Programs whose value does not depend on how their tasks are run.
use Rattle.std.specs.Prelude.{List, Bool, true, false}
use Rattle.std.specs.List.{list_all}
use Rattle.job_language.specs.declared.instructions.Instr.{Instr}
use Rattle.job_language.specs.declared.instructions.Instr.TheVariants.{Slot, Width, Post, Cancel, Ask, Load, Store, Sum, Count}

-- It reads neither the slot nor the arena nor a cell, writes no cell, cancels nothing, asks for no cancel and makes no task outside its groups.
abbrev pub is_serial_instr : Instr → Bool
is_serial_instr (Slot d) = false
is_serial_instr (Width d) = false
is_serial_instr (Post p a b) = false
is_serial_instr (Cancel g) = false
is_serial_instr (Ask d) = false
is_serial_instr (Load d k) = false
is_serial_instr (Store k a) = false
is_serial_instr (Sum d k) = false
is_serial_instr (Count d k) = false
is_serial_instr i = true

abbrev pub is_serial : List (List Instr) → Bool
is_serial procs = list_all (list_all is_serial_instr) procs
