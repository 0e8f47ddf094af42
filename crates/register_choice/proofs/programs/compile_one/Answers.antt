use Rattle.std.proofs.Common.{rules, IsTrue, All, refl, sym, subst, arith}
use Rattle.job_language.specs.Program.{Calls}
use Rattle.register_choice.specs.Keeping.{IsOfChanged}
use Rattle.register_choice.proofs.programs.compile_one.Goals as goal

pub returns-else-are_calls-clause-wrong : goal.returns-else-are_calls-clause-wrong
returns-else-are_calls-clause-wrong c = (
  refl,
  c.in-Ok.ensures.calls.code,
  λ all.
      let yes : IsTrue c.are_calls.result = c.are_calls.ensures.1 (subst (All (Calls c.args.procs)) (sym c.instrs.ensures.value) (c.in-Ok.ensures.calls.calls c.args.procs all)) in
      grind arith,
)

pub returns-in-Ok-Some-clause-compiled : goal.returns-in-Ok-Some-clause-compiled
returns-in-Ok-Some-clause-compiled c =
    let better : IsOfChanged c.args.procs c.args.function.now c.with_values_again.new.function c.in-Ok-Some.proc = search rules in
    better.back c.in-Ok-Some.proc better.compiled
