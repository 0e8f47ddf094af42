-- The code of an expression as it is wanted: as an operand, or with a register to be written.
use Rattle.std.specs.Prelude.{ℕ, List, Option, Some, None}
use Rattle.job_language.specs.declared.instructions.Instr.{Instr}
use Rattle.source_language.specs.declared.syntax.Expr.{Expr}
use Rattle.job_compiler.specs.Code.{value_code, operand_code}

abbrev pub wanted_code : Expr → Option ℕ → (free : ℕ) → List Instr
wanted_code e None t = operand_code e t
wanted_code e (Some d) t = value_code e d t
