-- What an isolated region protects: touches of cells, and the interval of a region on its slot.
use Rattle.std.specs.Prelude.{ℕ, ◌≡◌, ◌+◌, ◌<◌, ◌≤◌, ℤ, pos, true, ◌==◌, nat_lt, if◌then◌else◌, List, [], ◌∷◌, ◌++◌, Option, Some, None, is_some, option_to_list, length, map, fold, take, drop}
use Rattle.std.specs.Prelude.{slice_index_or, slice_set, All}
use Rattle.std.specs.Option.{option_map}
use Rattle.job_language.specs.declared.instructions.Instr.{Instr}
use Rattle.job_language.specs.declared.instructions.Instr.TheVariants.{Load, Store}
use Rattle.job_language.specs.declared.steps.Step.{Step}
use Rattle.job_language.specs.declared.steps.Step.TheVariants.{Advance}
use Rattle.job_language.specs.declared.tenants.Tenant.{Tenant}
use Rattle.job_language.specs.declared.tenants.TheConstants.{MAX_SLOTS}
use Rattle.job_step.specs.declared.frames.Frame.{Frame}
use Rattle.job_step.specs.Frame.{register}
use Rattle.job_step.specs.declared.runs.Stop.{Stop}
use Rattle.job_step.specs.declared.runs.Stop.TheVariants.{Shared}
use Rattle.tenant_model.specs.declared.rows.Phase.TheVariants.{Live}
use Rattle.tenant_model.specs.State.{State, empty, row}
use Rattle.tenant_model.specs.Walks.{is_region, is_within, is_live_on, top}
use Rattle.tenant_model.specs.Changes.{is_full}
use Rattle.thread_cells.specs.Cells.{Table, cell}
use Rattle.tenant_model.specs.Advance.{is_poor, is_blocked, run_on}
use Rattle.tenant_model.specs.Solo.{step, after}

-- a key, and the value that its cell was given
abbrev pub Change : Type 0
Change = ℕ × ℤ

-- a change of a cell, with the number of the row that made it
abbrev pub Touch : Type 0
Touch = ℕ × Change

abbrev pub changes : List Touch → List Change
changes ts = map (λ (t : Touch). t.1) ts

-- the cells of a slot, by key
abbrev pub cells_on : Table → ℕ → List (Option ℤ)
cells_on t slot = map (λ cells. slice_index_or cells slot None) t

-- cells after changes, one after another
abbrev pub cells_after : List (Option ℤ) → List Change → List (Option ℤ)
cells_after cells cs = fold (λ now (c : Change). slice_set now c.0 (Some c.1)) cells cs

-- the cell that an instruction makes or sets
abbrev pub change_of : Table → (slot : ℕ) → Frame → Instr → Option Change
change_of t slot f (Load d k) = if is_some (cell t k slot) then None else Some (k, pos 0)
change_of t slot f (Store k a) = Some (k, register f a)
change_of t slot f i = None

-- the same, after a run of `count` instructions: the instruction must not be blocked, and its fuel must be paid
abbrev pub change_after : State → (slot n count : ℕ) → Frame → Stop → Option Change
change_after s slot n count f (Shared i) = if is_blocked s n i then None else if is_poor s n (count + 1) then None else change_of s.cells slot f i
change_after s slot n count f stop = None

abbrev pub touch_by : State → (slot : ℕ) → Option ℕ → Option Touch
touch_by s slot None = None
touch_by s slot (Some n) = let r = run_on s slot n in option_map (λ (c : Change). (n, c)) (change_after s slot n r.count r.end r.stop)

-- The touch of an advance: the cell of its slot that the topmost row's load makes or its store sets.
abbrev pub touch : State → ℕ → Option Touch
touch s slot = if nat_lt slot s.config.slots then if is_full s then None else touch_by s slot (top s.rows slot) else None

abbrev pub touch_at : State → ℕ → Step → Option Touch
touch_at s slot (Advance t) = if t == slot then touch s t else None
touch_at s slot x = None

-- the touches of a slot's advances, in order
abbrev pub touches : State → ℕ → List Step → List Touch
touches s slot [] = []
touches s slot (x ∷ xs) = option_to_list (touch_at s slot x) ++ touches (step s x).1 slot xs

-- Row r is live on the slot before each of the steps.
abbrev pub IsInterval : State → (slot r : ℕ) → List Step → Type 0
IsInterval s slot r xs = (k : ℕ) → k < length xs → is_live_on slot (row (after s (take k xs)).rows r).phase ≡ true

-- Every row above a region on its slot is within it.
abbrev pub IsolatesRows : State → Type 0
IsolatesRows s =
    (slot r n low high : ℕ) → is_region (row s.rows r).kind ≡ true → (row s.rows r).phase ≡ Live slot low → (row s.rows n).phase ≡ Live slot high → low ≤ high →
    is_within s.rows n r ≡ true

-- While a region is live on a slot, only rows within it advance there.
abbrev pub AdvancesWithin : State → Type 0
AdvancesWithin s =
    (slot r n : ℕ) → is_region (row s.rows r).kind ≡ true → is_live_on slot (row s.rows r).phase ≡ true → top s.rows slot ≡ Some n → is_within s.rows n r ≡ true

-- The cells of a slot after an interval are those before it, with the changes of the slot's advances.
abbrev pub CellsFollowTouches : State → List Step → Type 0
CellsFollowTouches s xs =
    (slot r : ℕ) → IsInterval s slot r xs → cells_on (after s xs).cells slot ≡ cells_after (cells_on s.cells slot) (changes (touches s slot xs))

-- While a region is live on a slot, each touch of the slot's cells is by a row within the region.
abbrev pub TouchesAreWithin : State → List Step → Type 0
TouchesAreWithin s xs =
    (slot r : ℕ) → is_region (row s.rows r).kind ≡ true → IsInterval s slot r xs → All (λ (t : Touch). is_within (after s xs).rows t.0 r ≡ true) (touches s slot xs)

-- Two intervals, even of different tenants, that begin with equal cells and have equal changes end with equal cells.
abbrev pub EqualChangesEqualCells : State → List Step → Type 0
EqualChangesEqualCells s xs =
    (slot r : ℕ) → IsInterval s slot r xs →
    (c : Tenant) (zs ys : List Step) (slot' r' : ℕ) → c.slots ≤ MAX_SLOTS → IsInterval (after (empty c) zs) slot' r' ys →
    cells_on (after (empty c) zs).cells slot' ≡ cells_on s.cells slot → changes (touches (after (empty c) zs) slot' ys) ≡ changes (touches s slot xs) →
    cells_on (after (after (empty c) zs) ys).cells slot' ≡ cells_on (after s xs).cells slot

-- What regions protect in a run of steps, at each moment of it and in each part of it.
pub record KeepsRegions (s : State) (xs : List Step) : Type 0 where
  pub rows : (k : ℕ) → IsolatesRows (after s (take k xs))
  pub advances : (k : ℕ) → AdvancesWithin (after s (take k xs))
  pub cells : (k n : ℕ) → CellsFollowTouches (after s (take k xs)) (take n (drop k xs))
  pub touches : (k n : ℕ) → TouchesAreWithin (after s (take k xs)) (take n (drop k xs))
  pub equal : (k n : ℕ) → EqualChangesEqualCells (after s (take k xs)) (take n (drop k xs))
