-- What the parts of an arena are after a row has ended.
use Rattle.std.specs.Prelude.{◌≡◌, ◌≢◌, ℕ, zero, suc, ◌+◌, ◌-◌, ◌<◌, ◌==◌, ℤ, Bool, true, false, if◌then◌else◌, List, [], ◌∷◌, Option, Some, None, slice_index_or, slice_set, length, map, IsSome}
use Rattle.std.specs.List.{list_any}
use Rattle.std.specs.Option.{option_map}
use Rattle.std.specs.Int.{int_wrapping_add, w64}
use Rattle.job_language.specs.declared.instructions.TheConstants.{GROUPS}
use Rattle.region_tag.specs.declared.row_id.RowId.{RowId}
use Rattle.task_group.specs.Groups.{group}
use Rattle.cancel_context.specs.Forest.{Forest, Binding, binding, IsHeld, IsForest, held_count, is_cancelled, parent}
use Rattle.tenant_model.specs.declared.rows.Kind.TheVariants as kind
use Rattle.nest_stack.specs.Nest as nest
use Rattle.nest_stack.specs.Nest.{stack, with_stack}
use Rattle.tenant_model.specs.State.{State, row, job}
use Rattle.tenant_model.specs.Walks.{is_open, is_unstarted, top}
use Rattle.tenant_model.specs.Changes.{task_height, faulted_row}
use Rattle.tenant_model.specs.Shared.{has_used_group}
use Rattle.arena_rows.specs.declared.rows.OpenRow.{OpenRow}
use Rattle.arena_rows.specs.declared.rows.CurrentJob.{CurrentJob}
use Rattle.arena_rows.specs.declared.rows.Source.{Source}
use Rattle.arena_rows.specs.declared.rows.Source.TheVariants.{Root, Posted, Spawned, Region}
use Rattle.arena_rows.specs.Held.{Held}
use Rattle.arena_rows.specs.OpenRows.{OpenRows, IsDoomed}
use Rattle.arena_rows.specs.HeldChanges.{index_of, no_job}
use Rattle.arena_rows.specs.Represents.{at_place, id_of, is_spawned, Assigned, Holds}

abbrev pub is_in : ℕ → List ℕ → Bool
is_in d cs = list_any (λ c. c == d) cs

-- a context whose parent was released
abbrev pub orphaned : Binding → Binding
orphaned b = record { parent = None; is_asked = b.is_asked; is_orphan = true }

-- the contexts after some of them were released
pub record Left (forest forest' : Forest) (cs : List ℕ) : Type 0 where
  pub long : length forest' ≡ length forest
  pub gone : (d : ℕ) → is_in d cs ≡ true → binding forest' d ≡ None
  pub orphans : (d c : ℕ) (b : Binding) → is_in d cs ≡ false → binding forest d ≡ Some b → b.parent ≡ Some c → is_in c cs ≡ true → binding forest' d ≡ Some (orphaned b)
  pub kept : (d : ℕ) → is_in d cs ≡ false → ((c : ℕ) → parent forest d ≡ Some c → is_in c cs ≡ false) → binding forest' d ≡ binding forest d
  pub cancelled : (d : ℕ) → is_in d cs ≡ false → is_cancelled forest' d ≡ is_cancelled forest d
  pub count : held_count forest' + length cs ≡ held_count forest
  pub sound : IsForest forest → IsForest forest'

abbrev pub with_some : Option ℕ → List ℕ → List ℕ
with_some None cs = cs
with_some (Some c) cs = c ∷ cs

-- the contexts of the groups below a number
abbrev pub below : List (Option ℕ) → ℕ → List ℕ
below groups zero = []
below groups (suc k) = with_some (slice_index_or groups k None) (below groups k)

-- The contexts of groups can be released: each is held, once, and what is bound to it is so only if it is cancelled.
pub record MayLeave (forest : Forest) (groups : List (Option ℕ)) : Type 0 where
  pub held : (g c : ℕ) → g < GROUPS → slice_index_or groups g None ≡ Some c → IsHeld forest c
  pub ends : (g c d : ℕ) → g < GROUPS → slice_index_or groups g None ≡ Some c → parent forest d ≡ Some c → is_cancelled forest c ≡ true
  pub apart : (g h c : ℕ) → g < GROUPS → h < GROUPS → slice_index_or groups g None ≡ Some c → slice_index_or groups h None ≡ Some c → g ≡ h

-- the context of a row, if that is its own
abbrev pub own_context : OpenRow → Option ℕ
own_context e = if is_spawned e.source then Some e.context else None

-- the contexts of a row: its own, and those of its groups
abbrev pub contexts_of : OpenRow → List ℕ
contexts_of e = with_some (own_context e) (below e.group_contexts GROUPS)

-- And so can its own: nothing but its groups is bound to it.
pub record MayEnd (forest : Forest) (e : OpenRow) : Type 0 where
  pub groups : MayLeave forest e.group_contexts
  pub held : (c : ℕ) → own_context e ≡ Some c → IsHeld forest c
  pub apart : (c : ℕ) → own_context e ≡ Some c → is_in c (below e.group_contexts GROUPS) ≡ false
  pub alone : (c d : ℕ) → own_context e ≡ Some c → parent forest d ≡ Some c → is_in d (below e.group_contexts GROUPS) ≡ true

-- the entry of a row, of whose group a pending member has ended with a value
abbrev pub member_left : (group : ℕ) → ℤ → OpenRow → OpenRow
member_left g v e = let left = group e.groups g in record e { groups = slice_set e.groups g (record left { pending = left.pending - 1; total = int_wrapping_add w64 left.total v }) }

abbrev pub is_of_row : Option OpenRow → (number : ℕ) → Bool
is_of_row None n = false
is_of_row (Some e) n = e.number == n

-- the place of what spawned a row, if that is open, and the group that it was spawned into
abbrev pub open_maker : List (Option OpenRow) → Source → Option (ℕ × ℕ)
open_maker table Root = None
open_maker table Posted = None
open_maker table (Region m) = None
open_maker table (Spawned m g) = if is_of_row (at_place table m.place) m.number then Some (m.place, g) else None

abbrev pub parted_by : List (Option OpenRow) → ℤ → Option (ℕ × ℕ) → List (Option OpenRow)
parted_by table v None = table
parted_by table v (Some p) = slice_set table p.0 (option_map (member_left p.1 v) (at_place table p.0))

-- the table after a row from some source ended with a value
abbrev pub parted : List (Option OpenRow) → Source → ℤ → List (Option OpenRow)
parted table source v = parted_by table v (open_maker table source)

-- a job of which a row ended with a value
abbrev pub with_ended : (number : ℕ) → ℤ → CurrentJob → CurrentJob
with_ended n v it = record it { value = if it.work.root == n then v else it.value; open_rows = it.open_rows - 1 }

-- what is held after a row ended with a value, but for its contexts
abbrev pub ended : Held → RowId → OpenRow → ℤ → Held
ended a id e v = record a {
  table = slice_set (parted a.table e.source v) id.place None;
  regions = slice_set a.regions id.place None;
  jobs = slice_set a.jobs (index_of a e.job) (with_ended id.number v (slice_index_or a.jobs (index_of a e.job) no_job));
}

-- A row ended with a value: it is on no slot and in no pool any more, or will be taken off.
pub record HasEnded (a b : Held) (id : RowId) (e : OpenRow) (v : ℤ) : Type 0 where
  pub left : Left a.contexts b.contexts (contexts_of e)
  pub rest : b ≡ record (ended a id e v) { contexts = b.contexts }

-- The contexts of a row can be released: what is bound to those of its groups is so only if they are cancelled, and what is its own is no other row's.
pub record IsLoose (a : Held) (s : State) (at : Assigned) (n : ℕ) : Type 0 where
  pub ends : (g c d : ℕ) → g < GROUPS → at.of_group n g ≡ Some c → parent a.contexts d ≡ Some c → is_cancelled a.contexts c ≡ true
  pub alone : (m g x : ℕ) → (row s.rows n).kind ≡ kind.Spawned m g → is_open (row s.rows x).phase ≡ true → x ≢ n → at.of_row x ≢ at.of_row n

-- A row is open and can end, in some state that is held.
abbrev pub CanEnd : Held → RowId → Type 0
CanEnd a id = (s : State) × (n : ℕ) × (is : Holds a s) × (is_open (row s.rows n).phase ≡ true) × (id ≡ id_of is.places n) × IsLoose a s is.assigned n

-- a slot without its topmost row
abbrev pub popped : Held → (slot : ℕ) → Held
popped a slot = record a { nests = with_stack a.nests slot (nest.below (stack a.nests slot) (length (stack a.nests slot))) }

-- The topmost row of a slot has no used group, in some state that is held.
abbrev pub HasUnused : Held → (slot : ℕ) → Type 0
HasUnused a slot = (s : State) × (n : ℕ) × Holds a s × (top s.rows slot ≡ Some n) × (has_used_group s n ≡ false)

-- The job of a slot's topmost row has a fault, in some state that is held.
abbrev pub HasFaulty : Held → (slot : ℕ) → Type 0
HasFaulty a slot = (s : State) × (n : ℕ) × Holds a s × (top s.rows slot ≡ Some n) × IsSome (job s.jobs (row s.rows n).job).fault

-- A row waits, in some state that is held.
abbrev pub IsWaiting : Held → RowId → Type 0
IsWaiting a id = (s : State) × (n : ℕ) × (is : Holds a s) × (is_unstarted (row s.rows n).phase ≡ true) × (id ≡ id_of is.places n)

-- the number of the row that stands at a place
abbrev pub number_at : List (Option OpenRow) → ℕ → Option ℕ
number_at table q = option_map (λ (e : OpenRow). e.number) (at_place table q)

-- the open rows and the contexts of an arena
abbrev pub rows_of : Held → OpenRows
rows_of a = record { table = a.table; contexts = a.contexts }

-- A row stands at its place and waits, and its context is cancelled.
pub record IsCancelled (a : Held) (id : RowId) : Type 0 where
  pub doomed : IsDoomed (rows_of a) id.place
  pub number : doomed.entry.number ≡ id.number

-- The topmost row of a slot has faulted, and those below it, down to and including the first that is not a region.
abbrev pub faulted_rows : State → (slot : ℕ) → State
faulted_rows s slot = record s { rows = map (faulted_row slot (task_height s.rows slot)) s.rows }
