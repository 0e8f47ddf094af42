use Rattle.std.proofs.Common.{rules, All, subst, sym}
use Rattle.job_language.specs.Program.{Calls, IsValidProc}
use Rattle.kept_values.specs.Kept.{KeepsValue}
use Rattle.register_choice.proofs.keeping.with_one_more.Goals as goal

pub returns-then-are_calls : goal.returns-then-are_calls
returns-then-are_calls c =
    let f = c.args.function.now in
    let f' = c.keep_best.new.function in
    let keeps : KeepsValue f f' = search rules in
    let valid : IsValidProc c.in-Ok.proc = search rules in
    let calls : All (Calls c.args.procs) c.in-Ok.proc = search rules in
    record {
      function = c.in-Ok.ensures.calls.code.function;
      back = λ instrs compiled. c.kept_value_is_compiled.ensures f f' instrs c.requires keeps compiled;
      compiled = c.in-Ok.ensures.compiled;
      valid = valid;
      calls = calls;
    }
