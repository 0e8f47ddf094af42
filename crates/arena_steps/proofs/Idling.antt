-- Advances that are idle.
use Rattle.std.proofs.Common.{◌≡◌, ◌≢◌, ℕ, nat_lt, Option, Some, None, Bool, true, false, not, inl, inr, refl, sym, ap, ◌∙◌, arith, subst}
use Rattle.std.specs.Option.{is_some}
use Rattle.job_language.specs.declared.answers.Answer.TheVariants as answer
use Rattle.job_language.specs.declared.answers.Moved.{Moved}
use Rattle.job_language.specs.declared.answers.Moved.TheVariants as moved
use Rattle.job_language.specs.Recorded.{is_entry}
use Rattle.job_step.specs.declared.runs.Run.{Run}
use Rattle.tenant_model.specs.State.{State}
use Rattle.tenant_model.specs.Walks.{pick}
use Rattle.tenant_model.specs.Changes.{is_full}
use Rattle.tenant_model.specs.Advance.{advance_run, after_run, begin, is_idle_wait, nest_pick, run_on, unless_full}
use Rattle.tenant_model.proofs.Entries.{unless_full-room, unless_full-full}
use Rattle.tenant_model.proofs.Within.{either_way}
use Rattle.arena_steps.proofs.Rooms.{IsEntry, is_recorded, after_run_enters, nest_enters}
use Rattle.arena_steps.proofs.Takes.{advance_run_on, advance_run_waits}

pub none_is : {A : Type 0} (o : Option A) (b : Bool) → is_some o ≡ not b → b ≡ true → o ≡ None
none_is None b says is = refl
none_is (Some x) b says is = absurd (grind (arith, says, is))

-- an idle step is idle at a full history too
idle_stays : (s : State) (r : Moved × State) → r.0 ≡ moved.Idle → (unless_full s r).0 ≡ moved.Idle
idle_stays s r idle = rw idle refl

pub idle_waits : (s : State) (slot n : ℕ) (r : Run) → r ≡ run_on s slot n → is_idle_wait s n r.count r.stop ≡ true → pick s slot ≡ None →
    (unless_full s (advance_run s slot n (run_on s slot n))).0 ≡ moved.Idle
idle_waits s slot n r run waits none =
    let all : advance_run s slot n (run_on s slot n) ≡ (moved.Idle, s) = advance_run_waits s slot n r run waits ∙ ap (nest_pick s slot n) none in
    idle_stays s (advance_run s slot n (run_on s slot n)) (ap (λ (q : Moved × State). q.0) all)

pub idle_reserved : (s : State) (slot : ℕ) → nat_lt slot s.config.reserved ≡ true → (o : Option ℕ) → (unless_full s (begin s slot o)).0 ≡ moved.Idle
idle_reserved s slot reserved None = rw reserved refl
idle_reserved s slot reserved (Some n) = rw reserved refl

-- Steps that are not idle.
pub some_is : {A : Type 0} (o : Option A) (b : Bool) → is_some o ≡ not b → b ≡ false → (x : A) × (o ≡ Some x)
some_is None b says is = absurd (grind (arith, says, is))
some_is (Some x) b says is = (x, refl)

not_idle : (m : Moved) → is_entry (answer.Moved m) ≡ true → m ≢ moved.Idle
not_idle m enters = λ idle. let e : is_entry (answer.Moved moved.Idle) ≡ true = subst (λ q. is_entry (answer.Moved q) ≡ true) idle enters in absurd (grind (arith, e))

full_not_idle : moved.Full ≢ moved.Idle
full_not_idle = λ e. absurd (grind (arith, e))

entry_moves : (s : State) (r : Moved × State) → IsEntry r → (unless_full s r).0 ≢ moved.Idle
entry_moves s r enters = elim (either_way (is_full s)) [
  | inl full ↦ subst (λ (q : Moved × State). q.0 ≢ moved.Idle) (sym (unless_full-full s r (is_recorded r.0 enters) full)) full_not_idle
  | inr room ↦ subst (λ (q : Moved × State). q.0 ≢ moved.Idle) (sym (unless_full-room s r room)) (not_idle r.0 enters)
]

pub run_moves : (s : State) (slot n : ℕ) (r : Run) → r ≡ run_on s slot n → is_idle_wait s n r.count r.stop ≡ false → (unless_full s (advance_run s slot n (run_on s slot n))).0 ≢ moved.Idle
run_moves s slot n r run runs =
    subst (λ q. (unless_full s q).0 ≢ moved.Idle) (sym (advance_run_on s slot n r run runs)) (entry_moves s (after_run s slot n r.count r.end r.stop) (after_run_enters s slot n r.count r.end r.stop))

pub pick_moves : (s : State) (slot n m : ℕ) (r : Run) → r ≡ run_on s slot n → is_idle_wait s n r.count r.stop ≡ true → pick s slot ≡ Some m →
    (unless_full s (advance_run s slot n (run_on s slot n))).0 ≢ moved.Idle
pick_moves s slot n m r run waits some =
    let all : advance_run s slot n (run_on s slot n) ≡ nest_pick s slot n (Some m) = advance_run_waits s slot n r run waits ∙ ap (nest_pick s slot n) some in
    subst (λ q. (unless_full s q).0 ≢ moved.Idle) (sym all) (entry_moves s (nest_pick s slot n (Some m)) (nest_enters s slot n m))

left_not_idle : moved.Left ≢ moved.Idle
left_not_idle = λ e. absurd (grind (arith, e))

pub worker_moves : (s : State) (slot : ℕ) → nat_lt slot s.config.reserved ≡ false → (o : Option ℕ) → (unless_full s (begin s slot o)).0 ≢ moved.Idle
worker_moves s slot free None = rw free left_not_idle
worker_moves s slot free (Some n) = let enters : IsEntry (begin s slot (Some n)) = rw free refl in entry_moves s (begin s slot (Some n)) enters
