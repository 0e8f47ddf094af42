use Rattle.std.proofs.Common.{◌≡◌, ◌+◌, ◌<◌, ◌∷◌, [], ◌++◌, length, take, get_or, All, Some, sym, ap, subst, ◌∙◌, arith, take_all, length-set, get_or-set_other}
use Rattle.std.specs.Prelude.{slice_get}
use Rattle.std.specs.List.{AllZip}
use Rattle.std.proofs.lemmas.List.{take_more}
use Rattle.std.proofs.lemmas.List.Elements.{All-push}
use Rattle.std.proofs.lemmas.Option.{slice_get-get_or}
use Rattle.std.proofs.lemmas.Slice.Zip.{all_zipped_more}
use Rattle.job_language.specs.Program.{Calls, IsValidProc}
use Rattle.job_compiler.specs.Compiled.{IsCompiled}
use Rattle.register_choice.specs.Programs.{IsWrong}
use Rattle.register_choice.proofs.WholePrograms.{wrong_one}
use Rattle.register_choice.proofs.programs.compile_all.Goals as goal

pub returns-in-Err-clause-refused : goal.returns-in-Err-clause-refused
returns-in-Err-clause-refused c =
    let fs = c.args.functions.now in
    let k = c.loop-number.number in
    let d = c.index-functions-number.result in
    let f = get_or c.loop-number.functions k d in
    let kept = c.loop-number.invariant in
    let low : k < length fs = omega (arith, c.loop-number-test.true, kept.long) in
    let here : slice_get fs k ≡ Some f = slice_get-get_or fs k d low ∙ ap Some (sym (kept.left k d (omega arith))) in
    wrong_one fs k f c.in-Err.error here (subst (λ n. IsWrong n f k c.in-Err.error) kept.count c.in-Err.ensures.wrong)

pub loop-number-preserved : goal.loop-number-preserved
loop-number-preserved c =
    let fs = c.args.functions.now in
    let now = c.loop-number.functions in
    let k = c.loop-number.number in
    let d = c.index-functions-number.result in
    let f = get_or now k d in
    let kept = c.loop-number.invariant in
    let low : k < length fs = omega (arith, c.loop-number-test.true, kept.long) in
    let items = c.in_ok-add-in-Ok.ensures.items in
    let more : take (k + 1) fs ≡ take k fs ++ f ∷ [] = take_more fs k d low ∙ ap (λ (g : _). take k fs ++ g ∷ []) (sym (kept.left k d (omega arith))) in
    let proc = c.in-Ok.proc in
    record {
      compiled = rw (items, more) (all_zipped_more IsCompiled (take k fs) c.loop-number.procs.items f proc kept.compiled c.in-Ok.ensures.compiled);
      valid = rw items (All-push IsValidProc _ _ kept.valid c.in-Ok.ensures.valid);
      calls = rw items (All-push (All (Calls (length fs))) _ _ kept.calls (subst (λ n. All (Calls n) proc) kept.count c.in-Ok.ensures.calls));
      count = kept.count;
      long = length-set now k c.compile_one.new.function ∙ kept.long;
      left = λ j d above. get_or-set_other now k j c.compile_one.new.function d (omega (arith, above)) ∙ kept.left j d (omega (arith, above));
    }

pub returns-clause-compiled : goal.returns-clause-compiled
returns-clause-compiled c =
    let fs = c.args.functions.now in
    let kept = c.loop-number.invariant in
    let all : take c.loop-number.number fs ≡ fs = take_all c.loop-number.number fs (omega (arith, kept.long, kept.count)) in
    subst (λ xs. AllZip IsCompiled xs c.loop-number.procs.items) all kept.compiled
