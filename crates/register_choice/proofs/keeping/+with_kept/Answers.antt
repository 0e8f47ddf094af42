use Rattle.std.proofs.Common.{◌≡◌, ℕ, List, Result, Ok, Err, IfOk, Some, subst}
use Rattle.std.specs.Prelude.{Option}
use Rattle.job_language.specs.declared.instructions.Instr.{Instr}
use Rattle.job_compiler.specs.Compiled.{IsCompiled}
use Rattle.register_choice.specs.Keeping.{IsOfChanged, IsBetter}
use Rattle.register_choice.proofs.keeping.+with_kept.Goals as goal

-- what is so of one is so of the other, if there is one
also : {E : Type 0} (r : Result (List Instr) E) (P Q : List Instr → Type 0) → ((x : List Instr) → P x → Q x) → IfOk r P → IfOk r Q
also (Ok x) P Q f h = f x h
also (Err e) P Q f h = tt

pub returns-in-Some-clause-compiled : goal.returns-in-Some-clause-compiled
returns-in-Some-clause-compiled t c =
    let f = c.args.function.now in
    let f' = c.with_one_more.new.function in
    let better : IsOfChanged c.args.procs f f' c.in-Some.proc = subst (IsBetter c.args.procs f f') c.in-Some.is c.in_ok-proc.ensures in
    also c.with_kept.result (IsCompiled f') (IsCompiled f) better.back c.with_kept.ensures.compiled
