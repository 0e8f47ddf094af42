-- What a tenant answers to the operations of its rows.
use Rattle.std.specs.Prelude.{ℕ, ◌+◌, ◌==◌, nat_lt, nat_le, ℤ, pos, Bool, false, if◌then◌else◌, List, [], ◌∷◌, ◌++◌, Option, Some, None, option_and_then, option_to_list, unwrap_or, length}
use Rattle.std.specs.Option.{option_map}
use Rattle.job_language.specs.declared.instructions.Instr.{Instr}
use Rattle.job_language.specs.declared.instructions.Instr.TheVariants.{Isolate, Ret}
use Rattle.job_language.specs.declared.steps.Step.{Step}
use Rattle.job_language.specs.declared.steps.Step.TheVariants.{Advance}
use Rattle.job_step.specs.declared.frames.Frame.{Frame}
use Rattle.job_step.specs.declared.runs.Stop.{Stop}
use Rattle.job_step.specs.declared.runs.Stop.TheVariants.{Shared}
use Rattle.job_step.specs.Frame.{register, instr_at}
use Rattle.source_language.specs.Meaning.{Operation, Spawns, Posts, Isolates, Waits, Cancels, Asks, Loads, Sums, Counts, Stores, Returns}
use Rattle.job_compiler.specs.Operations.{operation_of}
use Rattle.thread_cells.specs.Cells.{cell, cell_sum, cell_count}
use Rattle.tenant_model.specs.declared.rows.Kind.{Kind}
use Rattle.tenant_model.specs.declared.rows.Kind.TheVariants.{Region}
use Rattle.tenant_model.specs.Advance.{is_blocked, is_poor, run_on}
use Rattle.tenant_model.specs.Changes.{is_full, is_row_limit_met}
use Rattle.tenant_model.specs.Shared.{group_status, has_used_group}
use Rattle.tenant_model.specs.Solo.{step}
use Rattle.tenant_model.specs.State.{State, row, job}
use Rattle.tenant_model.specs.Walks.{total, is_context_cancelled, top}
use Rattle.source_rows.specs.Tasks.{Answer, Past}

-- What is answered at once to an operation of row n, on a slot. An operation that is a fault is not answered, nor is a return; a region is answered when it returns.
abbrev pub answer_to : State → (slot n : ℕ) → Operation → Option (ℤ × ℤ)
answer_to s slot n (Spawns g p x y) = if is_row_limit_met s then None else Some (pos 0, pos 0)
answer_to s slot n (Posts p x y) = if is_row_limit_met s then None else Some (pos 0, pos 0)
answer_to s slot n (Isolates p x y) = None
answer_to s slot n (Waits g) = Some (total s.rows n g, group_status s n g)
answer_to s slot n (Cancels g) = Some (pos 0, pos 0)
answer_to s slot n Asks = Some (if is_context_cancelled s n then pos 1 else pos 0, pos 0)
answer_to s slot n (Loads k) = Some (unwrap_or (cell s.cells k slot) (pos 0), pos 0)
answer_to s slot n (Sums k) = Some (cell_sum s.cells k, pos 0)
answer_to s slot n (Counts k) = Some (pos (cell_count s.cells k), pos 0)
answer_to s slot n (Stores k v) = Some (pos 0, pos 0)
answer_to s slot n (Returns v) = None

abbrev pub with_numbers : Operation → (ℤ × ℤ) → Answer
with_numbers o numbers = record { operation = o; first = numbers.0; second = numbers.1 }

-- the operation that row n's frame f asks for at an instruction, with its answer
abbrev pub answer_at : State → (slot n : ℕ) → Frame → Instr → Option Answer
answer_at s slot n f i = option_and_then (λ o. option_map (with_numbers o) (answer_to s slot n o)) (operation_of i f)

-- the value that row n returns at an instruction, unless that is a fault
abbrev pub value_at : State → (n : ℕ) → Frame → Instr → Option ℤ
value_at s n f (Ret a) = if has_used_group s n then None else Some (register f a)
value_at s n f i = None

-- what a frame is answered at an isolate whose region returns a value
abbrev pub answer_by_region : Frame → Option Instr → Option ℤ → Option Answer
answer_by_region f (Some (Isolate d p a b)) (Some v) = Some (with_numbers (Isolates p (register f a) (register f b)) (v, pos 0))
answer_by_region f i v = None

abbrev pub is_region_of : ℕ → Kind → Bool
is_region_of m (Region k) = k == m
is_region_of m kind = false

-- what row m is answered where row n executes an instruction: row n is that row, or its region
abbrev pub answer_when : State → (slot n : ℕ) → Frame → Instr → (m : ℕ) → Option Answer
answer_when s slot n f i m =
    if n == m then answer_at s slot n f i
    else if is_region_of m (row s.rows n).kind then answer_by_region (row s.rows m).frame (instr_at (job s.jobs (row s.rows m).job).program (row s.rows m).frame) (value_at s n f i)
    else None

-- the same after a run of `count` instructions that ended at frame f: the instruction must not be blocked, and its fuel must be paid
abbrev pub answer_after : State → (slot n count : ℕ) → Frame → Stop → (m : ℕ) → Option Answer
answer_after s slot n count f (Shared i) m = if is_blocked s n i then None else if is_poor s n (count + 1) then None else answer_when s slot n f i m
answer_after s slot n count f stop m = None

abbrev pub answer_by : State → (slot : ℕ) → Option ℕ → (m : ℕ) → Option Answer
answer_by s slot None m = None
answer_by s slot (Some n) m = let r = run_on s slot n in answer_after s slot n r.count r.end r.stop m

-- what a step answers to row m
abbrev pub answer_in : State → Step → (m : ℕ) → Option Answer
answer_in s (Advance slot) m = if nat_lt slot s.config.slots then if is_full s then None else answer_by s slot (top s.rows slot) m else None
answer_in s x m = None

-- and several steps, in order
abbrev pub answers_in : State → List Step → (m : ℕ) → List Answer
answers_in s [] m = []
answers_in s (x ∷ xs) m = option_to_list (answer_in s x m) ++ answers_in (step s x).1 xs m

-- the frame with which row m is made, in these steps or before them
abbrev pub frame_made : State → List Step → (m : ℕ) → Frame
frame_made s [] m = (row s.rows m).frame
frame_made s (x ∷ xs) m = if nat_le m (length s.rows) then (row s.rows m).frame else frame_made (step s x).1 xs m

-- what row m has been through in these steps
abbrev pub past_in : State → List Step → (m : ℕ) → Past
past_in s xs m = record { new = frame_made s xs m; answers = answers_in s xs m }
