-- A slot for workers is never freed: its worker leaves it.
use Rattle.std.proofs.Common.{◌≡◌, ℕ, ◌+◌, ◌==◌, ◌≤◌, Bool, true, false, ◌&&◌, Option, Some, None, refl, sym, ap, ◌∙◌, nat_lt, arith}
use Rattle.std.specs.Prelude.{if◌then◌else◌, not, ℤ}
use Rattle.std.proofs.lemmas.Bool.{cond_both}
use Rattle.job_language.specs.declared.errors.JobFault.{JobFault}
use Rattle.job_language.specs.declared.errors.JobFault.TheVariants as fault
use Rattle.job_language.specs.declared.instructions.Instr.{Instr}
use Rattle.job_language.specs.declared.instructions.Instr.TheVariants.{Set, Add, Sub, Mul, Div, Lt, Rem, And, Or, Xor, Shl, Shr, Eq, Le, Jz, Jmp, Slot, Width, Spawn, Post, Wait, Cancel, Ask, Isolate}
use Rattle.job_language.specs.declared.instructions.Instr.TheVariants.{Load, Store, Sum, Count, Ret}
use Rattle.job_language.specs.declared.answers.Answer.TheVariants as answer
use Rattle.job_language.specs.declared.answers.Moved.{Moved}
use Rattle.job_language.specs.declared.answers.Moved.TheVariants as moved
use Rattle.job_language.specs.Recorded.{is_entry}
use Rattle.job_step.specs.declared.frames.Frame.{Frame}
use Rattle.job_step.specs.Frame.{register}
use Rattle.job_step.specs.declared.runs.Run.{Run}
use Rattle.job_step.specs.declared.runs.Stop.{Stop}
use Rattle.job_step.specs.declared.runs.Stop.TheVariants.{Shared, Yield, Fault}
use Rattle.tenant_model.specs.declared.rows.Phase.TheVariants.{Done}
use Rattle.tenant_model.specs.declared.rows.Kind.{Kind}
use Rattle.tenant_model.specs.declared.rows.Kind.TheVariants.{Root, Posted, Spawned, Region}
use Rattle.tenant_model.specs.declared.rows.TheConstants.{MAX_HEIGHT}
use Rattle.tenant_model.specs.State.{State, row}
use Rattle.tenant_model.specs.Told.{is_freed}
use Rattle.tenant_model.specs.Walks.{height, pick, top}
use Rattle.tenant_model.specs.Changes.{is_full, is_row_limit_met, finish_step, faults, on_row, with_frame}
use Rattle.tenant_model.specs.Shared.{execute, hand_back, has_used_group}
use Rattle.tenant_model.specs.Advance.{would_be_recorded, unless_full, pay, is_poor, with_fuel, with_fuel_paid, is_blocked, is_idle_wait, move_on, after_run, nest_pick, begin, run_on, advance_run}
use Rattle.tenant_model.specs.Advance.{advance_top, advance}
use Rattle.arena_steps.specs.Within.{advance_within}

abbrev NotFreed : Moved × State → Type 0
NotFreed r = is_freed (answer.Moved r.0) ≡ false

-- The slot is none of those that are reserved.
abbrev IsForWorkers : ℕ → State → Type 0
IsForWorkers slot s = nat_lt slot s.config.reserved ≡ false

either : (b : Bool) (r q : Moved × State) → NotFreed r → NotFreed q → NotFreed (if b then r else q)
either b r q first second = cond_both b r q NotFreed (λ _. first) (λ _. second)

ran_only : (low is_empty : Bool) → low ≡ false → is_freed (answer.Moved (if low && is_empty then moved.Freed else moved.Ran)) ≡ false
ran_only low is_empty is = rw is refl

finished : (slot : ℕ) (s : State) → IsForWorkers slot s → NotFreed (finish_step slot s)
finished slot s is = ran_only (nat_lt slot s.config.reserved) (height s.rows slot == 0) is

faulted : (slot j : ℕ) (f : JobFault) (s : State) → IsForWorkers slot s → NotFreed (faults slot j f s)
faulted slot j f s is = ran_only (nat_lt slot s.config.reserved) _ is

paid : (s : State) (slot n cost : ℕ) (next : State → Moved × State) → IsForWorkers slot s → ((t : State) → IsForWorkers slot t → NotFreed (next t)) → NotFreed (pay s slot n cost next)
paid s slot n cost next is after = either (is_poor s n cost) _ _ (faulted slot (row s.rows n).job fault.Fuel (with_fuel s n 0) is) (after (with_fuel_paid s n cost) is)

limited : (s : State) (slot n : ℕ) (r : Moved × State) → IsForWorkers slot s → NotFreed r → NotFreed (if is_row_limit_met s then faults slot (row s.rows n).job fault.TaskLimit s else r)
limited s slot n r is rest = either (is_row_limit_met s) _ r (faulted slot (row s.rows n).job fault.TaskLimit s is) rest

handed : (slot : ℕ) (s : State) (k : Kind) (v : ℤ) → IsForWorkers slot s → IsForWorkers slot (hand_back s k v)
handed slot s Root v is = is
handed slot s Posted v is = is
handed slot s (Spawned m g) v is = is
handed slot s (Region m) v is = is

executed : (s : State) (slot n : ℕ) (f : Frame) (i : Instr) → IsForWorkers slot s → NotFreed (execute s slot n f i)
executed s slot n f (Spawn g p a b) is = limited s slot n _ is (ran_only (nat_lt slot s.config.reserved) _ is)
executed s slot n f (Post p a b) is = limited s slot n _ is (ran_only (nat_lt slot s.config.reserved) _ is)
executed s slot n f (Isolate d p a b) is =
    either (height s.rows slot == MAX_HEIGHT) _ _ (faulted slot (row s.rows n).job fault.TooDeep s is) (limited s slot n _ is (ran_only (nat_lt slot s.config.reserved) _ is))
executed s slot n f (Wait d e g) is = ran_only (nat_lt slot s.config.reserved) _ is
executed s slot n f (Cancel g) is = ran_only (nat_lt slot s.config.reserved) _ is
executed s slot n f (Ask d) is = ran_only (nat_lt slot s.config.reserved) _ is
executed s slot n f (Load d k) is = ran_only (nat_lt slot s.config.reserved) _ is
executed s slot n f (Store k a) is = ran_only (nat_lt slot s.config.reserved) _ is
executed s slot n f (Sum d k) is = ran_only (nat_lt slot s.config.reserved) _ is
executed s slot n f (Count d k) is = ran_only (nat_lt slot s.config.reserved) _ is
executed s slot n f (Ret a) is =
    either (has_used_group s n) _ _ (faulted slot (row s.rows n).job fault.MissingWait s is)
    (ran_only _ _ (handed slot (on_row s n (λ r. record r { frame = f; phase = Done (register f a) })) (row s.rows n).kind (register f a) is))
executed s slot n f (Set d v) is = ran_only (nat_lt slot s.config.reserved) _ is
executed s slot n f (Add d a b) is = ran_only (nat_lt slot s.config.reserved) _ is
executed s slot n f (Sub d a b) is = ran_only (nat_lt slot s.config.reserved) _ is
executed s slot n f (Mul d a b) is = ran_only (nat_lt slot s.config.reserved) _ is
executed s slot n f (Div d a b) is = ran_only (nat_lt slot s.config.reserved) _ is
executed s slot n f (Lt d a b) is = ran_only (nat_lt slot s.config.reserved) _ is
executed s slot n f (Rem d a b) is = ran_only (nat_lt slot s.config.reserved) _ is
executed s slot n f (And d a b) is = ran_only (nat_lt slot s.config.reserved) _ is
executed s slot n f (Or d a b) is = ran_only (nat_lt slot s.config.reserved) _ is
executed s slot n f (Xor d a b) is = ran_only (nat_lt slot s.config.reserved) _ is
executed s slot n f (Shl d a b) is = ran_only (nat_lt slot s.config.reserved) _ is
executed s slot n f (Shr d a b) is = ran_only (nat_lt slot s.config.reserved) _ is
executed s slot n f (Eq d a b) is = ran_only (nat_lt slot s.config.reserved) _ is
executed s slot n f (Le d a b) is = ran_only (nat_lt slot s.config.reserved) _ is
executed s slot n f (Jz a t) is = ran_only (nat_lt slot s.config.reserved) _ is
executed s slot n f (Jmp t) is = ran_only (nat_lt slot s.config.reserved) _ is
executed s slot n f (Slot d) is = ran_only (nat_lt slot s.config.reserved) _ is
executed s slot n f (Width d) is = ran_only (nat_lt slot s.config.reserved) _ is

moved_on : (s : State) (slot n count : ℕ) (f : Frame) → IsForWorkers slot s → NotFreed (move_on s slot n count f)
moved_on s slot n count f is = paid s slot n count (λ t. finish_step slot (with_frame t n f)) is (λ t here. finished slot (with_frame t n f) here)

ran : (s : State) (slot n count : ℕ) (f : Frame) (stop : Stop) → IsForWorkers slot s → NotFreed (after_run s slot n count f stop)
ran s slot n count f Yield is = moved_on s slot n count f is
ran s slot n count f Fault is = paid s slot n count (λ t. faults slot (row t.rows n).job fault.Division t) is (λ t here. faulted slot (row t.rows n).job fault.Division t here)
ran s slot n count f (Shared i) is =
    either (is_blocked s n i) _ _ (moved_on s slot n count f is) (paid s slot n (count + 1) (λ t. execute t slot n f i) is (λ t here. executed t slot n f i here))

nested : (s : State) (slot n : ℕ) (o : Option ℕ) → IsForWorkers slot s → NotFreed (nest_pick s slot n o)
nested s slot n None is = refl
nested s slot n (Some m) is = either (height s.rows slot == MAX_HEIGHT) _ _ (faulted slot (row s.rows n).job fault.TooDeep s is) refl

run : (s : State) (slot n : ℕ) (r : Run) → IsForWorkers slot s → NotFreed (advance_run s slot n r)
run s slot n r is = either (is_idle_wait s n r.count r.stop) _ _ (nested s slot n (pick s slot) is) (ran s slot n r.count r.end r.stop is)

begun : (s : State) (slot : ℕ) (o : Option ℕ) → IsForWorkers slot s → NotFreed (begin s slot o)
begun s slot None is = rw is refl
begun s slot (Some n) is = rw is refl

topped : (s : State) (slot : ℕ) (o : Option ℕ) → IsForWorkers slot s → NotFreed (advance_top s slot o)
topped s slot None is = begun s slot (pick s slot) is
topped s slot (Some n) is = run s slot n (run_on s slot n) is

advanced : (s : State) (slot : ℕ) → IsForWorkers slot s → NotFreed (advance s slot)
advanced s slot is =
    let r = advance_top s slot (top s.rows slot) in
    either (nat_lt slot s.config.slots) (unless_full s r) (moved.Idle, s) (either (would_be_recorded r.0 && is_full s) (moved.Full, s) r refl (topped s slot (top s.rows slot) is)) refl

-- An advance that frees its slot is one of a reserved slot.
pub worker_not_freed : (b : Bool) (s : State) (slot : ℕ) → nat_lt slot s.config.reserved ≡ false → is_freed (answer.Moved (advance_within b s slot).0) ≡ false
worker_not_freed b s slot is = either (is_entry (answer.Moved (advance s slot).0) && not b) (moved.Full, s) (advance s slot) refl (advanced s slot is)
