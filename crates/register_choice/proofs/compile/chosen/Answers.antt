use Rattle.std.proofs.Common.{rules, ◌≡◌, All, ◌∙◌, sym, ap, subst, arith}
use Rattle.job_language.specs.Program.{Calls}
use Rattle.job_compiler.specs.Code.{function_code}
use Rattle.job_compiler.specs.Colours.{IsColoured}
use Rattle.job_compiler.specs.Compiled.{IsCompiled}
use Rattle.register_choice.specs.Choice.{IsColouring, colour_of, live_of, renamed_from}
use Rattle.register_choice.proofs.Coloured.{coloured}
use Rattle.register_choice.proofs.Named.{all_named}
use Rattle.register_choice.proofs.compile.chosen.Goals as goal

pub returns-then-is_valid_proc-clause-compiled : goal.returns-then-is_valid_proc-clause-compiled
returns-then-is_valid_proc-clause-compiled c f good is =
    let colours = c.choose-colours.result.items in
    let live = c.args.live.now in
    let chosen : IsColouring c.args.code.now colours live = search rules in
    let renamed : c.in_ok-instrs.instrs.items ≡ renamed_from colours 0 c.args.code.now = c.in_ok-instrs.ensures ∙ ap (λ cs. renamed_from cs 0 c.args.code.now) c.deref-2.ensures.value in
    let all : IsColoured 256 (function_code f) c.in_ok-instrs.instrs.items (colour_of colours) (live_of live) =
    subst (λ v. IsColoured 256 v c.in_ok-instrs.instrs.items (colour_of colours) (live_of live)) (sym is)
    (coloured c.args.code.now c.in_ok-instrs.instrs.items colours live chosen renamed) in
    subst (IsCompiled f) (sym c.new.ensures) (c.coloured_code_is_compiled.ensures f good c.in_ok-instrs.instrs.items 256 (colour_of colours) (live_of live) (omega arith) all chosen.begins)

pub returns-then-is_valid_proc-clause-calls : goal.returns-then-is_valid_proc-clause-calls
returns-then-is_valid_proc-clause-calls c f is has = record {
  code = has;
  calls = λ n all. subst (All (Calls n)) (sym (c.new.ensures ∙ c.in_ok-instrs.ensures ∙ ap (λ cs. renamed_from cs 0 c.args.code.now) c.deref-2.ensures.value))
      (all_named c.choose-colours.result.items 0 n c.args.code.now (subst (All (Calls n)) is all));
}
