-- A tenant's whole run: the answers to its steps, and the state after them.
use Rattle.std.specs.Prelude.{ℕ, not, List, [], ◌∷◌, map, filter, fold}
use Rattle.std.specs.List.{enumerate_from}
use Rattle.job_language.specs.declared.answers.Status.{Status}
use Rattle.job_language.specs.declared.steps.Step.{Step}
use Rattle.job_language.specs.declared.steps.Step.TheVariants.{Ask, Arrive, Advance}
use Rattle.job_language.specs.declared.answers.Answer.{Answer}
use Rattle.job_language.specs.declared.answers.Answer.TheVariants.{Replied, Came, Moved}
use Rattle.tenant_model.specs.declared.works.Work.{Work}
use Rattle.tenant_model.specs.State.{State}
use Rattle.tenant_model.specs.Advance.{advance, arrive}
use Rattle.tenant_model.specs.Asks.{ask, status}

abbrev pub step : State → Step → Answer × State
step s (Ask r) = let a = ask s r in (Replied a.0, a.1)
step s (Arrive slot) = let a = arrive s slot in (Came a.0, a.1)
step s (Advance slot) = let a = advance s slot in (Moved a.0, a.1)

-- the answers to the steps, one after another
abbrev pub answers : State → List Step → List Answer
answers s [] = []
answers s (x ∷ xs) = let a = step s x in a.0 ∷ answers a.1 xs

-- the state after them
abbrev pub after : State → List Step → State
after s xs = fold (λ t x. (step t x).1) s xs

-- the jobs that are not retired, with their numbers and how far they are
abbrev pub job_table : State → List (ℕ × Status)
job_table s = map (λ (p : ℕ × Work). (p.0, status s.rows p.0 p.1)) (filter (λ (p : ℕ × Work). not p.1.retired) (enumerate_from 1 s.jobs))
