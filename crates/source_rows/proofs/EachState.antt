-- Both laws, from what each step keeps.
use Rattle.std.proofs.Common.{◌≡◌, ℕ, suc, ◌≤◌, List, [], ◌∷◌, ◌++◌, Option, Some, None, Bool, true, false, if◌then◌else◌, nat_le, refl, sym, ap, arith, inl, inr}
use Rattle.std.specs.Prelude.{All, length, option_to_list}
use Rattle.std.proofs.lemmas.Bool.{cases_lt}
use Rattle.std.proofs.lemmas.List.{append-nil, append_assoc}
use Rattle.std.proofs.lemmas.Option.{none-some, same_Some}
use Rattle.job_language.specs.declared.steps.Step.{Step}
use Rattle.job_language.specs.declared.tenants.Tenant.{Tenant}
use Rattle.job_language.specs.declared.tenants.TheConstants.{MAX_SLOTS}
use Rattle.job_step.specs.Run.{run_of}
use Rattle.job_step.proofs.Least.{runs_are_least}
use Rattle.source_language.specs.declared.syntax.Function.{Function}
use Rattle.job_compiler.proofs.RunsFollow.{run_follows}
use Rattle.tenant_model.specs.Naming.{IsUnstuck, StepBringsValid}
use Rattle.tenant_model.specs.Solo.{step, after}
use Rattle.tenant_model.specs.Sound.{IsSound}
use Rattle.tenant_model.specs.WellFormed.{IsWellFormed}
use Rattle.tenant_model.specs.State.{State, empty, row}
use Rattle.tenant_model.specs.Walks.{height}
use Rattle.tenant_model.proofs.LaterSteps.{step_later}
use Rattle.tenant_model.proofs.Picks.{top_is}
use Rattle.tenant_model.proofs.SoundSteps.{empty_sound, step_sound}
use Rattle.tenant_model.proofs.Unstuck.{program_of}
use Rattle.tenant_model.proofs.UnstuckSteps.{empty_unstuck, step_unstuck}
use Rattle.source_rows.specs.Tasks.{Answer, Past, new_past, with_answer}
use Rattle.source_rows.specs.Answering.{answer_in, answers_in, frame_made, past_in}
use Rattle.source_rows.specs.SourceRows.{StepBringsNumbers, RowsFollowSource, AdvancesFollowSource}
use Rattle.source_rows.proofs.Fitting.{no_cells_fit}
use Rattle.source_rows.proofs.Sourced.{past_or, IsSourced, follows_live, sourced_so}
use Rattle.source_rows.proofs.SourcedSteps.{step_sourced, unborn_none}

-- what old rows have been through after some answers, where O is it before them; a new row has its frame
abbrev after_answers : State → (ℕ → Past) → (ℕ → List Answer) → ℕ → Option Past
after_answers s O more n = if nat_le n (length s.rows) then Some (record (O n) { answers = (O n).answers ++ more n }) else None

abbrev known : State → (ℕ → Past) → ℕ → Option Past
known s O n = if nat_le n (length s.rows) then Some (O n) else None

no_more : (p : Past) → record p { answers = p.answers ++ [] } ≡ p
no_more p = ap (λ answers. record p { answers = answers }) (append-nil p.answers)

same_past : (b : Bool) (p q : Past) → p ≡ q → (if b then Some p else None) ≡ (if b then Some q else None)
same_past b p q same = ap (λ x. if b then Some x else None) same

grown : (b : Bool) (q p : Past) (a : Answer) → (if b then Some q else None) ≡ Some p → Some (with_answer p a) ≡ (if b then Some (with_answer q a) else None)
grown true q p a is = ap (λ x. Some (with_answer x a)) (sym (same_Some q p is))
grown false q p a is = absurd (none-some p is)

-- what rows have been through after one step more
abbrev with_step : State → Step → (ℕ → Past) → ℕ → Past
with_step s x O n = past_or (after_answers s O (λ m. option_to_list (answer_in s x m)) n) (row (step s x).1.rows n).frame

-- and after several ones
abbrev with_steps : State → List Step → (ℕ → Past) → ℕ → Past
with_steps s xs O n = if nat_le n (length s.rows) then record (O n) { answers = (O n).answers ++ answers_in s xs n } else past_in s xs n

abbrev Each : (ℕ → Past) → ℕ → Option Past
Each O n = Some (O n)

-- A row that is there has the frame that it has.
made_before : (s : State) (xs : List Step) (n : ℕ) → nat_le n (length s.rows) ≡ true → frame_made s xs n ≡ (row s.rows n).frame
made_before s [] n there = refl
made_before s (x ∷ xs) n there = rw there refl

-- a step, and then others
one_then : (s : State) (x : Step) (xs : List Step) (O : ℕ → Past) → IsWellFormed s → (n : ℕ) → with_steps (step s x).1 xs (with_step s x O) n ≡ with_steps s (x ∷ xs) O n
one_then s x xs O well n = elim (cases_lt (length s.rows) n) [
  | inl after ↦
      let no : nat_le n (length s.rows) ≡ false = grind (arith, after) in
      let none = unborn_none s x well n after in
      elim (cases_lt (length t.rows) n) [
        | inl later ↦ let no_yet : nat_le n (length (step s x).1.rows) ≡ false = grind (arith, later) in rw (no_yet, no, none) refl
        | inr now ↦
            let yes : nat_le n (length (step s x).1.rows) ≡ true = grind (arith, now) in
            let its = made_before (step s x).1 xs n yes in
            rw (yes, no, none, its) refl
      ]
  | inr before ↦
      let yes : nat_le n (length s.rows) ≡ true = grind (arith, before) in
      let more = (step_later s x well).more_rows in
      let there : n ≤ length (step s x).1.rows = omega (arith, before, more) in
      let yes_then : nat_le n (length (step s x).1.rows) ≡ true = grind (arith, there) in
      rw (yes_then, yes) (ap (λ answers. record (O n) { answers = answers }) (append_assoc (O n).answers (option_to_list (answer_in s x n)) (answers_in (step s x).1 xs n)))
]
  where
    t : State
    t = (step s x).1

module _ (fs : List Function) where
  one_step : (s : State) (x : Step) (O : ℕ → Past) → IsSound s → IsUnstuck s → StepBringsValid x → StepBringsNumbers x → IsSourced fs (Each O) s → IsSourced fs (Each (with_step s x O)) (step s x).1
  one_step s x O sound unstuck valid numbers is =
      let M = after_answers s O (λ m. option_to_list (answer_in s x m)) in
      let now = step_sourced fs (known s O) M s x sound unstuck valid numbers (λ m low. (O m, let yes : nat_le m (length s.rows) ≡ true = grind (arith, low) in rw yes refl))
      (λ m none. rw none (same_past (nat_le m (length s.rows)) (O m) _ (sym (no_more (O m)))))
      (λ m a p some its. rw some (grown (nat_le m (length s.rows)) (O m) p a its))
      (λ m high. let no : nat_le m (length s.rows) ≡ false = grind (arith, high) in rw no refl)
      (record { rows = λ n from to. let yes : nat_le n (length s.rows) ≡ true = grind (arith, to) in rw yes (is.rows n from to); cells = is.cells }) in
      record { rows = λ n from to. let r = now.rows n from to in record { fit = r.fit; does = r.does }; cells = now.cells }

  all_steps : (s : State) (xs : List Step) (O : ℕ → Past) → IsSound s → IsUnstuck s → All StepBringsValid xs → All StepBringsNumbers xs → IsSourced fs (Each O) s
      → IsSourced fs (Each (with_steps s xs O)) (after s xs)
  all_steps s [] O sound unstuck valid numbers is =
      record { rows = λ n from to. let yes : nat_le n (length s.rows) ≡ true = grind (arith, to) in rw (yes, no_more (O n)) (is.rows n from to); cells = is.cells }
  all_steps s (x ∷ xs) O sound unstuck valid numbers is =
      let t = (step s x).1 in
      let first : StepBringsValid x = valid 0 x (omega arith) in
      let rest : All StepBringsValid xs = λ k d within. valid (suc k) d (omega arith) in
      let brings : StepBringsNumbers x = numbers 0 x (omega arith) in
      let more : All StepBringsNumbers xs = λ k d within. numbers (suc k) d (omega arith) in
      let one = one_step s x O sound unstuck first brings is in
      let all = all_steps t xs (with_step s x O) (step_sound s x sound) (step_unstuck s x sound.well_formed.linked first unstuck) rest more one in
      sourced_so fs (Each (with_steps t xs (with_step s x O))) (Each (with_steps s (x ∷ xs) O)) (after t xs) (λ n. ap Some (one_then s x xs O sound.well_formed n)) all

module _ (c : Tenant) (xs : List Step) (slots : c.slots ≤ MAX_SLOTS) (reserved : c.reserved ≤ c.slots) (valid : All StepBringsValid xs) (numbers : All StepBringsNumbers xs) where
  sourced : (fs : List Function) → IsSourced fs (Each (past_in (empty c) xs)) (after (empty c) xs)
  sourced fs =
      let is = all_steps fs (empty c) xs (λ n. new_past (row [] 0).frame) (empty_sound c slots reserved) (empty_unstuck c) valid numbers
      (record { rows = λ n from to. absurd (omega (arith, from, to)); cells = no_cells_fit }) in
      record { rows = λ n from to. let no : nat_le n 0 ≡ false = grind (arith, from) in rw no at (is.rows n from to); cells = is.cells }

  pub rows_follow_after : RowsFollowSource (empty c) xs
  rows_follow_after n fs from to compiled = ((sourced fs).rows n from to).does compiled

  pub advances_follow_after : AdvancesFollowSource (empty c) xs
  advances_follow_after slot n fs some compiled =
      let t = after (empty c) xs in
      let procs = program_of t n in
      let width = t.config.slots in
      let there = top_is t.rows slot n some in
      let f = (row t.rows n).frame in
      let is = follows_live fs (Some (past_in (empty c) xs n)) procs width (row t.rows n) slot (height t.rows slot) there.2 ((sourced fs).rows n there.0 there.1) in
      let task = is.does compiled in
      record { task = task; run = run_follows procs slot width task.point f task.same (run_of procs slot width f) (runs_are_least procs slot width f) }
