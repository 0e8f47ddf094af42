use Rattle.std.proofs.Common.{◌≡◌, ◌≤◌, length, map, take}
use Rattle.std.specs.Prelude.{vec_capacity}
use Rattle.job_compiler.specs.Virtual.{instr_of}
use Rattle.register_choice.specs.Choice.{renamed_from}
use Rattle.register_choice.proofs.rename.rename.Given as goal

abbrev pub invariant-loop-place : goal.invariant-loop-place
invariant-loop-place l = record {
  items : l.instrs.items ≡ renamed_from l.colours 0 (map instr_of (take l.place l.instr-items));
  long : length l.instrs.items ≡ l.place;
  room : length l.instr-items ≤ vec_capacity l.instrs;
}
