-- Which advances are entries: what a private run leads to, and a pick that is taken.
use Rattle.std.proofs.Common.{◌≡◌, ℕ, ◌+◌, ◌==◌, Bool, true, false, ◌&&◌, Some, refl, nat_lt, arith}
use Rattle.std.specs.Prelude.{if◌then◌else◌}
use Rattle.std.proofs.lemmas.Bool.{cond_both, and_right}
use Rattle.job_language.specs.declared.errors.JobFault.{JobFault}
use Rattle.job_language.specs.declared.errors.JobFault.TheVariants as fault
use Rattle.job_language.specs.declared.instructions.Instr.{Instr}
use Rattle.job_language.specs.declared.instructions.Instr.TheVariants.{Set, Add, Sub, Mul, Div, Lt, Rem, And, Or, Xor, Shl, Shr, Eq, Le, Jz, Jmp, Slot, Width, Spawn, Post, Wait, Cancel, Ask, Isolate}
use Rattle.job_language.specs.declared.instructions.Instr.TheVariants.{Load, Store, Sum, Count, Ret}
use Rattle.job_language.specs.declared.answers.Answer.TheVariants as answer
use Rattle.job_language.specs.declared.answers.Moved.{Moved}
use Rattle.job_language.specs.declared.answers.Moved.TheVariants as moved
use Rattle.job_language.specs.Recorded.{is_entry}
use Rattle.job_step.specs.declared.frames.Frame.{Frame}
use Rattle.job_step.specs.declared.runs.Stop.{Stop}
use Rattle.job_step.specs.declared.runs.Stop.TheVariants.{Shared, Yield, Fault}
use Rattle.tenant_model.specs.declared.rows.TheConstants.{MAX_HEIGHT}
use Rattle.tenant_model.specs.State.{State, row}
use Rattle.tenant_model.specs.Walks.{height}
use Rattle.tenant_model.specs.Changes.{is_full, is_row_limit_met, finish_step, faults, with_frame}
use Rattle.tenant_model.specs.Shared.{execute, has_used_group}
use Rattle.tenant_model.specs.Advance.{would_be_recorded, unless_full, pay, is_poor, with_fuel, with_fuel_paid, is_blocked, move_on, after_run, nest_pick}

-- If the history has room, a step is answered as it is without the limit.
pub unless_full-room : (s : State) (r : Moved × State) → is_full s ≡ false → unless_full s r ≡ r
unless_full-room s r room = rw (room, and_right (would_be_recorded r.0) false refl) refl

-- an entry at a full history
pub unless_full-full : (s : State) (r : Moved × State) → would_be_recorded r.0 ≡ true → is_full s ≡ true → unless_full s r ≡ (moved.Full, s)
unless_full-full s r entry full = rw (entry, full) refl

abbrev pub IsEntry : Moved × State → Type 0
IsEntry r = is_entry (answer.Moved r.0) ≡ true

pub is_recorded : (m : Moved) → is_entry (answer.Moved m) ≡ true → would_be_recorded m ≡ true
is_recorded moved.Ran enters = refl
is_recorded (moved.Nested n) enters = refl
is_recorded moved.Freed enters = refl
is_recorded moved.Left enters = absurd (grind (arith, enters))
is_recorded moved.Idle enters = absurd (grind (arith, enters))
is_recorded moved.Stale enters = refl
is_recorded moved.Full enters = refl

either : (b : Bool) (r q : Moved × State) → IsEntry r → IsEntry q → IsEntry (if b then r else q)
either b r q yes_then yes_else = cond_both b r q IsEntry (λ _. yes_then) (λ _. yes_else)

freed_or_ran : (b : Bool) → is_entry (answer.Moved (if b then moved.Freed else moved.Ran)) ≡ true
freed_or_ran true = refl
freed_or_ran false = refl

ran_enters : (slot : ℕ) (s : State) → IsEntry (finish_step slot s)
ran_enters slot s = freed_or_ran (nat_lt slot s.config.reserved && (height s.rows slot == 0))

faults_enters : (slot j : ℕ) (f : JobFault) (s : State) → IsEntry (faults slot j f s)
faults_enters slot j f s = search freed_or_ran

pay_enters : (s : State) (slot n cost : ℕ) (next : State → Moved × State) → ((t : State) → IsEntry (next t)) → IsEntry (pay s slot n cost next)
pay_enters s slot n cost next enters = either (is_poor s n cost) _ _ (faults_enters slot (row s.rows n).job fault.Fuel (with_fuel s n 0)) (enters (with_fuel_paid s n cost))

limited : (s : State) (slot n : ℕ) (r : Moved × State) → IsEntry r → IsEntry (if is_row_limit_met s then faults slot (row s.rows n).job fault.TaskLimit s else r)
limited s slot n r enters = either (is_row_limit_met s) _ r (faults_enters slot (row s.rows n).job fault.TaskLimit s) enters

execute_enters : (s : State) (slot n : ℕ) (f : Frame) (i : Instr) → IsEntry (execute s slot n f i)
execute_enters s slot n f (Spawn g p a b) = limited s slot n _ (search freed_or_ran)
execute_enters s slot n f (Post p a b) = limited s slot n _ (search freed_or_ran)
execute_enters s slot n f (Isolate d p a b) =
    either (height s.rows slot == MAX_HEIGHT) _ _ (faults_enters slot (row s.rows n).job fault.TooDeep s) (limited s slot n _ (search freed_or_ran))
execute_enters s slot n f (Wait d e g) = search freed_or_ran
execute_enters s slot n f (Cancel g) = search freed_or_ran
execute_enters s slot n f (Ask d) = search freed_or_ran
execute_enters s slot n f (Load d k) = search freed_or_ran
execute_enters s slot n f (Store k a) = search freed_or_ran
execute_enters s slot n f (Sum d k) = search freed_or_ran
execute_enters s slot n f (Count d k) = search freed_or_ran
execute_enters s slot n f (Ret a) = either (has_used_group s n) _ _ (faults_enters slot (row s.rows n).job fault.MissingWait s) (search freed_or_ran)
execute_enters s slot n f (Set d v) = search freed_or_ran
execute_enters s slot n f (Add d a b) = search freed_or_ran
execute_enters s slot n f (Sub d a b) = search freed_or_ran
execute_enters s slot n f (Mul d a b) = search freed_or_ran
execute_enters s slot n f (Div d a b) = search freed_or_ran
execute_enters s slot n f (Lt d a b) = search freed_or_ran
execute_enters s slot n f (Rem d a b) = search freed_or_ran
execute_enters s slot n f (And d a b) = search freed_or_ran
execute_enters s slot n f (Or d a b) = search freed_or_ran
execute_enters s slot n f (Xor d a b) = search freed_or_ran
execute_enters s slot n f (Shl d a b) = search freed_or_ran
execute_enters s slot n f (Shr d a b) = search freed_or_ran
execute_enters s slot n f (Eq d a b) = search freed_or_ran
execute_enters s slot n f (Le d a b) = search freed_or_ran
execute_enters s slot n f (Jz a t) = search freed_or_ran
execute_enters s slot n f (Jmp t) = search freed_or_ran
execute_enters s slot n f (Slot d) = search freed_or_ran
execute_enters s slot n f (Width d) = search freed_or_ran

move_on_enters : (s : State) (slot n count : ℕ) (f : Frame) → IsEntry (move_on s slot n count f)
move_on_enters s slot n count f = pay_enters s slot n count (λ t. finish_step slot (with_frame t n f)) (λ t. ran_enters slot (with_frame t n f))

pub after_run_enters : (s : State) (slot n count : ℕ) (f : Frame) (stop : Stop) → IsEntry (after_run s slot n count f stop)
after_run_enters s slot n count f Yield = move_on_enters s slot n count f
after_run_enters s slot n count f Fault = pay_enters s slot n count (λ t. faults slot (row t.rows n).job fault.Division t) (λ t. faults_enters slot (row t.rows n).job fault.Division t)
after_run_enters s slot n count f (Shared i) =
    either (is_blocked s n i) _ _ (move_on_enters s slot n count f) (pay_enters s slot n (count + 1) (λ t. execute t slot n f i) (λ t. execute_enters t slot n f i))

-- and so it would be recorded
pub after_run_recorded : (s : State) (slot n count : ℕ) (f : Frame) (stop : Stop) → would_be_recorded (after_run s slot n count f stop).0 ≡ true
after_run_recorded s slot n count f stop = is_recorded (after_run s slot n count f stop).0 (after_run_enters s slot n count f stop)

pub nest_enters : (s : State) (slot n m : ℕ) → IsEntry (nest_pick s slot n (Some m))
nest_enters s slot n m = either (height s.rows slot == MAX_HEIGHT) _ _ (faults_enters slot (row s.rows n).job fault.TooDeep s) refl
