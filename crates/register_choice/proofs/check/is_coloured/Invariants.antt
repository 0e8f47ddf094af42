use Rattle.std.proofs.Common.{◌≡◌, ℕ, ◌<◌, Some}
use Rattle.std.specs.Prelude.{slice_get}
use Rattle.job_language.specs.declared.instructions.Instr.{Instr}
use Rattle.register_choice.specs.Choice.{IsColouredAt}
use Rattle.register_choice.proofs.check.is_coloured.Given as goal

abbrev pub invariant-loop-place : goal.invariant-loop-place
invariant-loop-place l = (k : ℕ) (i : Instr) → k < l.place → slice_get l.code k ≡ Some i → IsColouredAt l.colours l.live k i
