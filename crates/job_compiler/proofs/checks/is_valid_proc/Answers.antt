use Rattle.std.proofs.Common.{rules, IsTrue, IfSome, ◌≡◌, ◌<◌, ◌-◌, length, Some, All, sym, ap, subst, ◌∙◌, arith, take_all}
use Rattle.std.specs.Prelude.{slice_get}
use Rattle.std.proofs.lemmas.List.Elements.{All-more}
use Rattle.std.proofs.lemmas.Option.{slice_get-get_or}
use Rattle.job_language.specs.Program.{IsInRange, is_last}
use Rattle.job_compiler.proofs.checks.is_valid_proc.Goals as goal

pub loop-instr-preserved : goal.loop-instr-preserved
loop-instr-preserved c =
    let within : c.loop-instr.instr-index < length c.args.instrs.now = omega arith in
    let fine : IsInRange (length c.args.instrs.now) c.instr-item.result = search rules in
    All-more (IsInRange (length c.args.instrs.now)) c.args.instrs.now c.loop-instr.instr-index c.instr-item.result within c.loop-instr.invariant
    (subst (IsInRange (length c.args.instrs.now)) c.instr-item.is fine)

pub returns : goal.returns
returns c =
    let here : slice_get c.args.instrs.now (length c.args.instrs.now - 1)
    ≡ Some c.index-instrs-len.result = slice_get-get_or c.args.instrs.now (length c.args.instrs.now - 1) c.index-instrs-len.result (omega arith) ∙ ap Some (sym c.index-instrs-len.is) in (
      λ last. record {
        some = omega arith;
        most = omega arith;
        each = subst (All (IsInRange (length c.args.instrs.now))) (take_all c.loop-instr.instr-index c.args.instrs.now (omega arith)) c.loop-instr.invariant;
        ends = rw here (subst IsTrue c.is_last.ensures last);
      },
      λ valid. subst IsTrue (sym c.is_last.ensures) (subst (λ o. IfSome o (λ i. IsTrue (is_last i))) here valid.ends),
    )
