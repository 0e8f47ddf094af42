-- Marks of groups, and rows that are dropped as they are made: what they change in a state and in what is held.
use Rattle.std.specs.Prelude.{ℕ, ◌≡◌, ◌+◌, Bool, true, false, Some, length, slice_set}
use Rattle.cancel_context.specs.Forest.{with_request}
use Rattle.job_step.specs.declared.frames.Frame.{Frame}
use Rattle.task_group.specs.Groups.{unused, group}
use Rattle.tenant_model.specs.declared.rows.Mark.{Mark}
use Rattle.tenant_model.specs.State.{State}
use Rattle.tenant_model.specs.Changes.{on_row}
use Rattle.tenant_model.specs.Walks.{is_pending, mark, top}
use Rattle.arena_rows.specs.declared.rows.OpenRow.{OpenRow}
use Rattle.arena_rows.specs.Held.{Held}
use Rattle.arena_rows.specs.Represents.{Holds, Rests}

-- another mark of group g of row n
abbrev pub marked : State → (n g : ℕ) → Mark → State
marked s n g m = on_row s n (λ r. record r { marks = slice_set r.marks g m })

-- the mark of a group that was cancelled, and of one whose wait has passed
abbrev pub cancelled_mark : State → (n g : ℕ) → Mark
cancelled_mark s n g = record (mark s.rows n g) { cancelled = true }

abbrev pub passed_mark : State → Mark
passed_mark s = record { rows = length s.rows; cancelled = false }

-- the state with such a mark, and its row at another frame
abbrev pub with_group_cancelled : State → (n g : ℕ) → Frame → State
with_group_cancelled s n g f = on_row s n (λ r. record r { frame = f; marks = slice_set r.marks g (cancelled_mark s n g) })

abbrev pub with_wait_passed : State → (n g : ℕ) → Frame → State
with_wait_passed s n g f = on_row s n (λ r. record r { frame = f; marks = slice_set r.marks g (passed_mark s) })

-- A row is on a slot, in some state that is held, and no member of a group of it is open.
abbrev pub HasEndedGroup : Held → (slot g : ℕ) → Type 0
HasEndedGroup a slot g = (s : State) × (n : ℕ) × Holds a s × (top s.rows slot ≡ Some n) × (is_pending s.rows n g ≡ false)

-- A row is on a slot, in some settled state that is held.
abbrev pub RestsWithTop : Held → (slot : ℕ) → Type 0
RestsWithTop a slot = (s : State) × (n : ℕ) × Rests a s × (top s.rows slot ≡ Some n)

-- the entry of a row with a group that has no member
abbrev pub with_group_emptied : ℕ → OpenRow → OpenRow
with_group_emptied g e = record e { groups = slice_set e.groups g unused }

-- a request on a context, made or taken back
abbrev pub requested : Held → (context : ℕ) → Bool → Held
requested a c asked = record a { contexts = with_request a.contexts c asked }

-- the entry of a row with one member more in a group, which has ended
abbrev pub with_ended_member : ℕ → OpenRow → OpenRow
with_ended_member g e = record e { groups = slice_set e.groups g (record (group e.groups g) { is_used = true }) }

-- a row more that has no place
abbrev pub more_made : Held → Held
more_made a = record a { made = a.made + 1 }
