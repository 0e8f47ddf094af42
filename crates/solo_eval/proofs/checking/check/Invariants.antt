use Rattle.std.proofs.Common.{◌≡◌, ◌+◌, ◌++◌, drop, take, map}
use Rattle.solo_eval.specs.CheckMemory.{SomeTakesMemory}
use Rattle.solo_eval.specs.Verdicts.{IsVerdict, IsVerdictFrom}
use Rattle.solo_eval.specs.declared.checking.Verdict.{Verdict}
use Rattle.tenant_model.specs.Solo.{answers}
use Rattle.tenant_model.specs.State.{empty}
use Rattle.solo_eval.proofs.checking.check.Given as goal

abbrev pub invariant-loop-index : goal.invariant-loop-index
invariant-loop-index l = record {
  -- the verdict on the entries that are left is that on all
  verdict : (verdict : Verdict) → IsVerdictFrom l.solo (l.index + 1) (drop l.index l.entries) verdict → IsVerdict l.fn.config l.entries verdict;
  answered : answers (empty l.fn.config) (map (λ e. e.step) l.entries) ≡ map (λ e. e.answer) (take l.index l.entries) ++ answers l.solo (map (λ e. e.step) (drop l.index l.entries));
  memory : SomeTakesMemory l.solo (drop l.index l.entries) → SomeTakesMemory (empty l.fn.config) l.entries;
}
