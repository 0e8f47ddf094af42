-- Each entry of a right history has a line.
use Rattle.std.proofs.Common.{◌≡◌, ℕ, zero, suc, ◌<◌, true, false, List, [], ◌∷◌, length, Option, None, refl, sym, ap, ◌∙◌, arith, inl, inr, subst}
use Rattle.std.specs.Prelude.{All, Any, slice_index_or}
use Rattle.std.proofs.lemmas.List.Elements.{All-head, All-tail}
use Rattle.dump_lines.specs.Written.{entry_data}
use Rattle.job_language.specs.Recorded.{is_entry}
use Rattle.job_language.specs.declared.answers.Answer.{Answer}
use Rattle.job_language.specs.declared.answers.Answer.TheVariants as answer
use Rattle.job_language.specs.declared.answers.Came.{Came}
use Rattle.job_language.specs.declared.answers.Came.TheVariants as came
use Rattle.job_language.specs.declared.answers.Moved.{Moved}
use Rattle.job_language.specs.declared.answers.Moved.TheVariants as moved
use Rattle.job_language.specs.declared.requests.Request.{Request}
use Rattle.job_language.specs.declared.requests.Request.TheVariants as request
use Rattle.job_language.specs.declared.steps.Entry.{Entry}
use Rattle.job_language.specs.declared.steps.Step.{Step}
use Rattle.job_language.specs.declared.steps.Step.TheVariants as step_is
use Rattle.job_language.specs.declared.tenants.Tenant.{Tenant}
use Rattle.tenant_model.specs.Advance.{advance, arrive}
use Rattle.tenant_model.specs.Asks.{ask}
use Rattle.tenant_model.specs.Changes.{is_full}
use Rattle.tenant_model.specs.Solo.{answers, step}
use Rattle.tenant_model.specs.State.{State, empty}
use Rattle.tenant_model.proofs.Within.{either_way}
use Rattle.tenant_record.specs.History.{IsHistory, answers_of, steps_of}

-- What a hello is answered is no entry.
hello_enters : (s : State) (name : Option (List ℕ)) → is_entry (answer.Replied (ask s (request.Hello name)).0) ≡ false
hello_enters s name = elim (either_way (is_full s)) [
  | inl full ↦ rw full refl
  | inr room ↦ rw room refl
]

asked_line : (s : State) (r : Request) → is_entry (answer.Replied (ask s r).0) ≡ true → entry_data (record { step = step_is.Ask r; answer = answer.Replied (ask s r).0 }) ≡ None → ⊥
asked_line s (request.Hello name) enters none = grind (arith, enters, hello_enters s name)
asked_line s (request.Submit j) enters none = absurd (let no = rw enters at none in grind (arith, no))
asked_line s (request.Execute j) enters none = absurd (let no = rw enters at none in grind (arith, no))
asked_line s (request.Poll j) enters none = absurd (let no = rw enters at none in grind (arith, no))
asked_line s (request.Collect j) enters none = absurd (let no = rw enters at none in grind (arith, no))
asked_line s (request.Cancel j) enters none = absurd (let no = rw enters at none in grind (arith, no))
asked_line s (request.Cells k) enters none = absurd (let no = rw enters at none in grind (arith, no))
asked_line s request.Arena enters none = absurd (let no = rw enters at none in grind (arith, no))
asked_line s request.Retire enters none = absurd (let no = rw enters at none in grind (arith, no))
asked_line s (request.Release j) enters none = absurd (let no = rw enters at none in grind (arith, no))
asked_line s (request.Take j) enters none = absurd (let no = rw enters at none in grind (arith, no))

came_line : (slot : ℕ) (c : Came) → is_entry (answer.Came c) ≡ true → entry_data (record { step = step_is.Arrive slot; answer = answer.Came c }) ≡ None → ⊥
came_line slot (came.At row) enters none = absurd (grind (arith, none))
came_line slot c enters none = absurd (grind (arith, enters))

moved_line : (slot : ℕ) (m : Moved) → is_entry (answer.Moved m) ≡ true → entry_data (record { step = step_is.Advance slot; answer = answer.Moved m }) ≡ None → ⊥
moved_line slot moved.Ran enters none = absurd (grind (arith, none))
moved_line slot moved.Freed enters none = absurd (grind (arith, none))
moved_line slot (moved.Nested row) enters none = absurd (grind (arith, none))
moved_line slot m enters none = absurd (grind (arith, enters))

-- an entry without a line
abbrev IsLess : Step → Answer → Type 0
IsLess x a = (is_entry a ≡ true) × (entry_data (record { step = x; answer = a }) ≡ None)

step_line : (s : State) (x : Step) → IsLess x (step s x).0 → ⊥
step_line s (step_is.Ask r) less = asked_line s r less.0 less.1
step_line s (step_is.Arrive slot) less = came_line slot (arrive s slot).0 less.0 less.1
step_line s (step_is.Advance slot) less = moved_line slot (advance s slot).0 less.0 less.1

entry_line : (s : State) (e : Entry) → (step s e.step).0 ≡ e.answer → is_entry e.answer ≡ true → entry_data e ≡ None → ⊥
entry_line s e given enters none = step_line s e.step (subst (IsLess e.step) (sym given) (enters, none))

same_first : (a b : Answer) (xs ys : List Answer) → a ∷ xs ≡ b ∷ ys → a ≡ b
same_first a b xs ys same = cc

same_rest : (a b : Answer) (xs ys : List Answer) → a ∷ xs ≡ b ∷ ys → xs ≡ ys
same_rest a b xs ys same = cc

lines_at : (s : State) (es : List Entry) → answers s (steps_of es) ≡ answers_of es → All (λ (e : Entry). is_entry e.answer ≡ true) es → (k : ℕ) (x : Entry) → k < length es →
    slice_index_or es k x ≡ x → entry_data x ≡ None → ⊥
lines_at s [] same enters k x within here none = omega (arith, within)
lines_at s (e ∷ es) same enters zero x within here none =
    let first : e ≡ x = here in
    entry_line s e (same_first _ _ _ _ same) (All-head (λ (d : Entry). is_entry d.answer ≡ true) e es enters) (ap entry_data first ∙ none)
lines_at s (e ∷ es) same enters (suc k) x within here none =
    lines_at (step s e.step).1 es (same_rest _ _ _ _ same) (All-tail (λ (d : Entry). is_entry d.answer ≡ true) e es enters) k x (omega (arith, within)) here none

pub recorded_lines : (c : Tenant) (es : List Entry) → IsHistory c es → Any (λ (e : Entry). entry_data e ≡ None) es → ⊥
recorded_lines c es is found = lines_at (empty c) es is.answers_are is.all_entries found.0 found.1 found.2 found.3 found.4
