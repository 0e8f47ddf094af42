-- The worked example computes, and its program is compiled.
use Rattle.std.proofs.Common.{ℕ, zero, suc, ◌<◌, refl, arith, rules, length, get_or}
use Rattle.job_step.specs.Run.{run_for}
use Rattle.source_language.specs.declared.syntax.Function.{Function}
use Rattle.job_compiler.specs.Programs.{FitsProgram}
use Rattle.job_compiler.proofs.Numbers.{small_fits}
use Rattle.job_compiler.proofs.WholePrograms.{compiled_program}
use Rattle.source_rows.specs.Worked.{Places, summing, adding, functions, SummingIsCompiled, RootIsAnswered, TasksAreMade}

pub root_is_answered : RootIsAnswered
unfolding run_for RootIsAnswered
root_is_answered g = refl

pub tasks_are_made : TasksAreMade
unfolding run_for TasksAreMade
tasks_are_made g = (refl, refl)

summing_fits : (g : Places) → FitsProgram 2 (summing g)
summing_fits g = record {
  compiles = record {
    function = record {
      parameters = omega arith;
      within = ((omega arith, small_fits 2 (omega arith), small_fits 3 (omega arith)), ((tt, omega arith, small_fits 1 (omega arith)), ((omega arith, tt), omega arith)));
    };
    valid = record { some = omega arith; most = omega arith; each = search rules; ends = refl };
  };
  calls = search rules;
}

adding_fits : (g : Places) → FitsProgram 2 (adding g)
adding_fits g = record {
  compiles = record {
    function = record { parameters = omega arith; within = (omega arith, omega arith) };
    valid = record { some = omega arith; most = omega arith; each = search rules; ends = refl };
  };
  calls = search rules;
}

each_fits : (g : Places) (k : ℕ) (d : Function) → k < length (functions g) → FitsProgram 2 (get_or (functions g) k d)
each_fits g zero d low = summing_fits g
each_fits g (suc zero) d low = adding_fits g
each_fits g (suc (suc k)) d low = absurd (omega (arith, low))

pub summing_is_compiled : SummingIsCompiled
summing_is_compiled g = compiled_program (functions g) (record { count = (omega arith, omega arith); each = each_fits g })
