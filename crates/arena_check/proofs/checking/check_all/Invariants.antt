use Rattle.std.proofs.Common.{◌≡◌, ◌+◌, ◌++◌, drop, take, map}
use Rattle.solo_eval.specs.Verdicts.{IsVerdictFrom}
use Rattle.solo_eval.specs.declared.checking.Verdict.{Verdict}
use Rattle.tenant_model.specs.Solo.{answers}
use Rattle.tenant_model.specs.State.{State}
use Rattle.arena_core.specs.Stands.{StandsFor}
use Rattle.arena_check.proofs.checking.check_all.Given as goal

-- a state is reached that the arena stands for, and the verdict on the entries from there is that on all
abbrev pub invariant-loop-index : goal.invariant-loop-index
invariant-loop-index l =
    (first : State) → StandsFor l.initial.arena first →
    (s : State) × StandsFor l.arena s
    × ((verdict : Verdict) → IsVerdictFrom s (l.index + 1) (drop l.index l.entries) verdict → IsVerdictFrom first 1 l.entries verdict)
    × (answers first (map (λ e. e.step) l.entries) ≡ map (λ e. e.answer) (take l.index l.entries) ++ answers s (map (λ e. e.step) (drop l.index l.entries)))
