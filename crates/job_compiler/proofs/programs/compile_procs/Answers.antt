use Rattle.std.proofs.Common.{rules, ◌≡◌, ◌++◌, ◌∷◌, [], length, subst, sym, ap, ◌∙◌, arith, take_all, All, Some}
use Rattle.std.specs.Prelude.{slice_get}
use Rattle.std.proofs.lemmas.Grind.{common_steps}
use Rattle.std.proofs.lemmas.List.Elements.{All-more}
use Rattle.std.proofs.lemmas.Option.{slice_get-get_or}
use Rattle.job_compiler.specs.Programs.{FitsProgram, HasCount}
use Rattle.job_compiler.proofs.WholePrograms.{code_more, wrong_refused}
use Rattle.job_compiler.proofs.programs.compile_procs.Goals as goal

pub returns-in-Err-clause-refused : goal.returns-in-Err-clause-refused
returns-in-Err-clause-refused c =
    let fs = c.args.functions.now in
    let k = c.loop-number.number in
    let f = c.index-functions-number.result in
    let here : slice_get fs k ≡ Some f = slice_get-get_or fs k f c.loop-number-test.true ∙ ap Some (sym c.index-functions-number.is) in
    let count : HasCount fs = (omega (arith, c.loop-number-test.true), omega arith) in
    wrong_refused fs k f c.in-Err.error count c.loop-number.invariant.fits here c.in-Err.ensures.wrong

pub loop-number-preserved : goal.loop-number-preserved
loop-number-preserved c =
    let fs = c.args.functions.now in
    let k = c.loop-number.number in
    let f = c.index-functions-number.result in
    let items : c.push.new.self.items ≡ c.loop-number.procs.items ++ c.in-Ok.proc ∷ [] = search rules in
    record {
      code = code_more fs k f c.loop-number.procs.items c.push.new.self.items c.in-Ok.proc c.loop-number-test.true c.index-functions-number.is c.loop-number.invariant.code c.in-Ok.ensures.code items;
      fits = All-more (FitsProgram (length fs)) fs k f c.loop-number-test.true c.loop-number.invariant.fits (subst (FitsProgram (length fs)) c.index-functions-number.is c.in-Ok.ensures.fits);
      each = grind (arith, common_steps);
      room = omega arith;
    }

pub returns-clause-accepted : goal.returns-clause-accepted
returns-clause-accepted c =
    let fs = c.args.functions.now in
    record {
      count = (grind (arith, common_steps), omega arith);
      each = subst (All (FitsProgram (length fs))) (take_all c.loop-number.number fs (omega arith)) c.loop-number.invariant.fits;
    }
