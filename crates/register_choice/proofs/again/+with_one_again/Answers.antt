use Rattle.std.proofs.Common.{rules, ℕ, ◌-◌, ◌<◌, All, IsSome, List, Result, Ok, Err, IfOk, Some, None}
use Rattle.std.specs.Prelude.{Option}
use Rattle.job_language.specs.declared.instructions.Instr.{Instr}
use Rattle.job_language.specs.Program.{Calls, IsValidProc}
use Rattle.source_language.specs.declared.syntax.Function.{Function}
use Rattle.job_compiler.specs.Compiled.{IsCompiled}
use Rattle.register_choice.specs.Keeping.{IsBetter}
use Rattle.register_choice.specs.Refusals.{IsWithoutChoice}
use Rattle.register_choice.proofs.again.+with_one_again.Goals as goal

-- What is better than a changed function is better than the first one.
better_back : (procs : ℕ) (f g h : Function) → ((instrs : List Instr) → IsCompiled g instrs → IsCompiled f instrs) → (o : Option (List Instr)) → IsBetter procs g h o → IsBetter procs f h o
better_back procs f g h back None better = tt
better_back procs f g h back (Some proc) better = record {
  function = better.function;
  back = λ instrs compiled. back instrs (better.back instrs compiled);
  compiled = better.compiled;
  valid = better.valid;
  calls = better.calls;
}

if_ok : {E : Type 0} (r : Result (Option (List Instr)) E) (P Q : Option (List Instr) → Type 0) → ((o : Option (List Instr)) → P o → Q o) → IfOk r P → IfOk r Q
if_ok (Ok o) P Q f h = f o h
if_ok (Err e) P Q f h = tt

pub with_one_again-requires : goal.with_one_again-requires
with_one_again-requires t c =
    let less : c.args.left - 1 < t = search rules in
    let some : IsSome c.need_of.result = search rules in
    let refused : IsWithoutChoice c.read_again.new.function c.in-Err-Refused.refusal = search rules in
    (less, c.need_of.ensures c.read_again.new.function some refused)

pub returns-then-are_calls : goal.returns-then-are_calls
returns-then-are_calls t c =
    let valid : IsValidProc c.in-Ok.proc = search rules in
    let calls : All (Calls c.args.procs) c.in-Ok.proc = search rules in
    record {
      function = c.in-Ok.ensures.calls.code.function;
      back = λ instrs compiled. c.again_is_compiled.ensures c.in-Some.v c.args.function.now c.read_again.new.function instrs c.requires c.in_ok-read_again.ensures compiled;
      compiled = c.in-Ok.ensures.compiled;
      valid = valid;
      calls = calls;
    }

pub returns-in-Some-need_of : goal.returns-in-Some-need_of
returns-in-Some-need_of t c =
    let f = c.args.function.now in
    let g = c.read_again.new.function in
    let h = c.with_one_again.new.function in
    if_ok c.with_one_again.result (IsBetter c.args.procs g h) (IsBetter c.args.procs f h)
    (better_back c.args.procs f g h (λ instrs compiled. c.again_is_compiled.ensures c.in-Some.v f g instrs c.requires c.in_ok-read_again.ensures compiled)) c.with_one_again.ensures
