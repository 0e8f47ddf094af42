-- The serial value of a program: the result of its root if each task runs as soon as it is made, to its end.
use Rattle.std.specs.Prelude.{ℕ, zero, suc, ◌<◌, ◌≡◌, ℤ, pos, Bool, if◌then◌else◌, List, replicate, Option, Some, None, IfSome, is_some, unwrap_or, slice_index_or, slice_set}
use Rattle.std.specs.Int.{int_wrapping_add, w64}
use Rattle.std.specs.List.{list_any}
use Rattle.std.specs.Option.{option_map}
use Rattle.job_language.specs.declared.instructions.Instr.{Instr}
use Rattle.job_language.specs.declared.instructions.Instr.TheVariants.{Spawn, Wait, Isolate, Ret}
use Rattle.job_language.specs.declared.instructions.TheConstants.{GROUPS}
use Rattle.job_step.specs.declared.frames.Frame.{Frame}
use Rattle.job_step.specs.declared.effects.Effect.{Effect}
use Rattle.job_step.specs.declared.effects.Effect.TheVariants.{Moves, DividesByZero, IsShared}
use Rattle.job_step.specs.Frame.{new_frame, register, write_and_step, instr_at, effect}
use Rattle.tenant_model.specs.declared.serials.SerialTask.{SerialTask}
use Rattle.tenant_model.specs.declared.serials.ValueTo.{ValueTo}
use Rattle.tenant_model.specs.declared.serials.ValueTo.TheVariants as to
use Rattle.tenant_model.specs.declared.serials.SerialMaker.{SerialMaker}
use Rattle.tenant_model.specs.declared.serials.SerialTurn.{SerialTurn}
use Rattle.tenant_model.specs.declared.serials.SerialTurn.TheVariants.{Goes, Makes, Gives, Fails}
use Rattle.tenant_model.specs.Shared.{next_place, called_frame}

-- a task that begins, with nothing in its groups
abbrev pub new_task : Frame → SerialTask
new_task f = record { frame = f; sums = replicate GROUPS None }

-- the sum of a group so far
abbrev pub sum_of : SerialTask → ℕ → ℤ
sum_of t g = unwrap_or (slice_index_or t.sums g None) (pos 0)

-- Has a group been given a value since its last wait?
abbrev pub is_owing : SerialTask → Bool
is_owing t = list_any (λ (sum : Option ℤ). is_some sum) t.sums

abbrev pub with_value_to : ValueTo → SerialTask → ℤ → SerialTask
with_value_to (to.Group g) t v = record t { sums = slice_set t.sums g (Some (int_wrapping_add w64 (sum_of t g) v)) }
with_value_to (to.Register d) t v = record t { frame = record t.frame { registers = slice_set t.frame.registers d v } }

-- the maker of a task, after that task returned a value
abbrev pub with_value : SerialMaker → ℤ → SerialTask
with_value m v = with_value_to m.to m.task v

abbrev pub make_task : SerialTask → (p a b : ℕ) → ValueTo → SerialTurn
make_task t p a b to = Makes (new_task (called_frame t.frame p a b)) (record { task = record t { frame = next_place t.frame }; to = to })

-- the task after a wait: nothing was cancelled, so the status is 1
abbrev pub after_wait : SerialTask → (d e g : ℕ) → SerialTask
after_wait t d e g = record {
  frame = write_and_step (record t.frame { registers = slice_set t.frame.registers d (sum_of t g) }) e (pos 1);
  sums = slice_set t.sums g None;
}

-- A private instruction that reads neither the slot nor the width has the same effect on every slot of every arena.
abbrev pub turn_by : SerialTask → Effect → SerialTurn
turn_by t (Moves f) = Goes (record t { frame = f })
turn_by t DividesByZero = Fails
turn_by t IsShared = Fails

-- what a task does by an instruction of a serial program
abbrev pub turn_of : Instr → SerialTask → SerialTurn
turn_of (Spawn g p a b) t = make_task t p a b (to.Group g)
turn_of (Isolate d p a b) t = make_task t p a b (to.Register d)
turn_of (Wait d e g) t = Goes (after_wait t d e g)
turn_of (Ret a) t = if is_owing t then Fails else Gives (register t.frame a)
turn_of i t = turn_by t (effect i 0 0 t.frame)

abbrev pub turn_at : Option Instr → SerialTask → SerialTurn
turn_at (Some i) t = turn_of i t
turn_at None t = Fails

-- the value that a task returns, with the number of instructions that are left then
abbrev pub Given : Type 0
Given = Option (ℤ × ℕ)

abbrev pub given_then : Given → (ℤ → ℕ → Given) → Given
given_then None next = None
given_then (Some p) next = next p.0 p.1

-- the result of a task whose next turn is known, with `left` instructions after that turn; `next` evaluates the rest
abbrev pub given_by : (next : ℕ → SerialTask → Given) → (left : ℕ) → SerialTurn → Given
given_by next left (Goes t) = next left t
given_by next left (Makes t m) = given_then (next left t) (λ v rest. next rest (with_value m v))
given_by next left (Gives v) = Some (v, left)
given_by next left Fails = None

-- the result of a task with `left` instructions; `bound` limits the recursion, so that the definition ends
unfoldable pub given_within : (bound : ℕ) → List (List Instr) → (left : ℕ) → SerialTask → Given
given_within zero procs left t = None
given_within (suc bound) procs zero t = None
given_within (suc bound) procs (suc left) t = given_by (given_within bound procs) left (turn_at (instr_at procs t.frame) t)

-- the result of a task with `left` instructions; each turn takes one, so `left` is also a sufficient bound
abbrev pub given_of : List (List Instr) → (left : ℕ) → SerialTask → Given
given_of procs left t = given_within left procs left t

-- The rule of serial values: a task takes its turn, and continues with one instruction fewer.
unfoldable pub FollowsItsTurn : Type 0
FollowsItsTurn =
    (procs : List (List Instr)) (left : ℕ) (t : SerialTask) → given_of procs (suc left) t ≡ given_by (given_of procs) left (turn_at (instr_at procs t.frame) t)

-- Without an instruction left there is no result.
unfoldable pub NeedsInstructions : Type 0
NeedsInstructions = (procs : List (List Instr)) (t : SerialTask) → given_of procs 0 t ≡ None

-- Every task takes at least one instruction.
unfoldable pub TakesInstructions : Type 0
TakesInstructions = (procs : List (List Instr)) (left : ℕ) (t : SerialTask) → IfSome (given_of procs left t) (λ p. p.1 < left)

-- the root of a program with its two arguments
abbrev pub root_task : List ℤ → SerialTask
root_task args = new_task (new_frame 0 (slice_index_or args 0 (pos 0)) (slice_index_or args 1 (pos 0)))

-- the serial value of a program, if n instructions suffice and nothing fails
abbrev pub serial_value : List (List Instr) → (args : List ℤ) → (n : ℕ) → Option ℤ
serial_value procs args n = option_map (λ (p : ℤ × ℕ). p.0) (given_of procs n (root_task args))
