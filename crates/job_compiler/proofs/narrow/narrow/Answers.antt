use Rattle.std.proofs.Common.{◌≡◌, length, get_or, refl, sym, ap, subst, ◌∙◌, arith}
use Rattle.std.proofs.Math.ListN.{get_or-map}
use Rattle.std.proofs.lemmas.List.{length-map}
use Rattle.job_language.specs.Program.{IsInRange}
use Rattle.job_compiler.specs.Virtual.{instr_of}
use Rattle.job_compiler.proofs.narrow.narrow.Goals as goal

pub returns-in-None-clause-none : goal.returns-in-None-clause-none
returns-in-None-clause-none c none len all =
    let xs = c.instrs-instr-items.result.now in
    let k = c.loop-instr.instr-index in
    let item = c.instr-item.result in
    let here : get_or c.args.code.now k (instr_of item) ≡ instr_of item =
    ap (λ l. get_or l k (instr_of item)) (sym c.instrs-instr-items.ensures) ∙ get_or-map instr_of xs k item ∙ ap instr_of (sym c.instr-item.is) in
    c.in-None.ensures.none refl len (subst (IsInRange len) here (all k (instr_of item) (omega (arith, c.loop-instr-test.true, ap length c.instrs-instr-items.ensures, length-map xs instr_of))))
