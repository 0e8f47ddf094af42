-- Shared instructions: what the topmost row n of a slot does if its frame f is at one.
use Rattle.std.specs.Prelude.{ℕ, ◌+◌, ◌==◌, ℤ, pos, Bool, true, false, ◌||◌, if◌then◌else◌, Option, Some, None, unwrap_or, length, slice_set}
use Rattle.job_language.specs.declared.errors.JobFault.TheVariants.{TooDeep, TaskLimit, MissingWait}
use Rattle.job_language.specs.declared.instructions.Instr.{Instr}
use Rattle.job_language.specs.declared.instructions.Instr.TheVariants.{Spawn, Post, Wait, Cancel, Ask, Isolate, Load, Store, Sum, Count, Ret}
use Rattle.job_language.specs.declared.answers.Moved.{Moved}
use Rattle.job_step.specs.declared.frames.Frame.{Frame}
use Rattle.job_step.specs.Frame.{new_frame, register, at_place, write_and_step, instr_at}
use Rattle.tenant_model.specs.declared.rows.Kind.{Kind}
use Rattle.tenant_model.specs.declared.rows.Kind.TheVariants.{Posted, Spawned, Region}
use Rattle.tenant_model.specs.declared.rows.Row.{Row}
use Rattle.tenant_model.specs.declared.rows.Phase.TheVariants.{Unstarted, Live, Done}
use Rattle.tenant_model.specs.declared.rows.TheConstants.{MAX_HEIGHT}
use Rattle.tenant_model.specs.State.{State, row, job}
use Rattle.tenant_model.specs.Walks.{mark, total, is_used, is_context_cancelled, height}
use Rattle.tenant_model.specs.Changes.{on_row, with_frame, new_row, add_row, is_row_limit_met, with_cells, finish_step, faults}
use Rattle.thread_cells.specs.Cells.{cell, with_cell, cell_sum, cell_count}

-- the frame at the next place
abbrev pub next_place : Frame → Frame
next_place f = at_place f (f.place + 1)

-- a new frame at a procedure, with the values of two registers
abbrev pub called_frame : Frame → (p a b : ℕ) → Frame
called_frame f p a b = new_frame p (register f a) (register f b)

-- Row n continues from a frame and makes a row, if one more row may be open.
abbrev pub make : State → (slot n : ℕ) → Frame → Row → Moved × State
make s slot n f made =
    if is_row_limit_met s then faults slot (row s.rows n).job TaskLimit s
    else finish_step slot (add_row (with_frame s n f) made)

-- (`task_group::run`)
abbrev pub spawn : State → (slot n : ℕ) → Frame → (g p a b : ℕ) → Moved × State
spawn s slot n f g p a b = make s slot n (next_place f) (new_row (Spawned n g) (row s.rows n).job (Some slot) (called_frame f p a b) Unstarted)

-- (`enqueue`)
abbrev pub post : State → (slot n : ℕ) → Frame → (p a b : ℕ) → Moved × State
post s slot n f p a b = make s slot n (next_place f) (new_row Posted (row s.rows n).job None (called_frame f p a b) Unstarted)

-- While the region runs, its maker stays at the isolate (`this_task_arena::isolate`).
abbrev pub isolate_at : State → (slot n : ℕ) → (f called_frame : Frame) → Moved × State
isolate_at s slot n f g =
    if height s.rows slot == MAX_HEIGHT then faults slot (row s.rows n).job TooDeep s
    else make s slot n f (new_row (Region n) (row s.rows n).job (Some slot) g (Live slot (height s.rows slot + 1)))

-- the status that a wait stores: 2 if the group was cancelled, directly or from above, else 1
abbrev pub group_status : State → (n g : ℕ) → ℤ
group_status s n g = if (mark s.rows n g).cancelled || is_context_cancelled s n then pos 2 else pos 1

-- A wait passes: it stores the total, then the status, and the group starts afresh (`task_group::wait`).
abbrev pub wait : State → (slot n : ℕ) → Frame → (d e g : ℕ) → Moved × State
wait s slot n f d e g = finish_step slot (on_row s n (λ r. record r {
  frame = write_and_step (record f { registers = slice_set f.registers d (total s.rows n g) }) e (group_status s n g);
  marks = slice_set r.marks g (record { rows = length s.rows; cancelled = false });
}))

-- (`task_group::cancel`)
abbrev pub cancel : State → (slot n : ℕ) → Frame → (g : ℕ) → Moved × State
cancel s slot n f g = finish_step slot (on_row s n (λ r. record r {
  frame = next_place f;
  marks = slice_set r.marks g (record (mark s.rows n g) { cancelled = true });
}))

-- a register changed, and nothing else
abbrev pub write_register : State → (slot n : ℕ) → Frame → (d : ℕ) → ℤ → Moved × State
write_register s slot n f d v = finish_step slot (with_frame s n (write_and_step f d v))

-- The cell is made if it is absent (`enumerable_thread_specific::local`).
abbrev pub load : State → (slot n : ℕ) → Frame → (d k : ℕ) → Moved × State
load s slot n f d k = let v = unwrap_or (cell s.cells k slot) (pos 0) in finish_step slot (with_cells (with_frame s n (write_and_step f d v)) (with_cell s.cells k slot v))

abbrev pub store : State → (slot n : ℕ) → Frame → (k a : ℕ) → Moved × State
store s slot n f k a = finish_step slot (with_cells (with_frame s n (next_place f)) (with_cell s.cells k slot (register f a)))

abbrev pub has_used_group : State → ℕ → Bool
has_used_group s n = is_used s.rows n 0 || is_used s.rows n 1 || is_used s.rows n 2 || is_used s.rows n 3

-- the frame at an isolate, after its region returned a value; a frame elsewhere is unchanged
abbrev pub handed_frame : Option Instr → ℤ → Frame → Frame
handed_frame (Some (Isolate d p a b)) v f = write_and_step f d v
handed_frame i v f = f

-- The value of a region goes to the register that its maker's isolate names, and the maker continues.
abbrev pub hand_to : State → (maker : ℕ) → ℤ → State
hand_to s m v = on_row s m (λ r. record r { frame = handed_frame (instr_at (job s.jobs r.job).program r.frame) v r.frame })

abbrev pub hand_back : State → Kind → ℤ → State
hand_back s (Region m) v = hand_to s m v
hand_back s k v = s

abbrev pub ret : State → (slot n : ℕ) → Frame → (a : ℕ) → Moved × State
ret s slot n f a =
    if has_used_group s n then faults slot (row s.rows n).job MissingWait s
    else finish_step slot (hand_back (on_row s n (λ r. record r { frame = f; phase = Done (register f a) })) (row s.rows n).kind (register f a))

abbrev pub execute : State → (slot n : ℕ) → Frame → Instr → Moved × State
execute s slot n f (Spawn g p a b) = spawn s slot n f g p a b
execute s slot n f (Post p a b) = post s slot n f p a b
execute s slot n f (Isolate d p a b) = isolate_at s slot n f (called_frame f p a b)
execute s slot n f (Wait d e g) = wait s slot n f d e g
execute s slot n f (Cancel g) = cancel s slot n f g
execute s slot n f (Ask d) = write_register s slot n f d (if is_context_cancelled s n then pos 1 else pos 0)
execute s slot n f (Load d k) = load s slot n f d k
execute s slot n f (Store k a) = store s slot n f k a
execute s slot n f (Sum d k) = write_register s slot n f d (cell_sum s.cells k)
execute s slot n f (Count d k) = write_register s slot n f d (pos (cell_count s.cells k))
execute s slot n f (Ret a) = ret s slot n f a
execute s slot n f i = finish_step slot (with_frame s n f)
