-- What a look at a slot under the lock shows.
use Rattle.std.specs.Prelude.{ℕ, ◌≡◌, nat_lt, Bool, true, false, List, length, Option, Some, None, option_map, if◌then◌else◌}
use Rattle.std.specs.List.{sum_by}
use Rattle.arena_core.specs.Views.{IsSeen}
use Rattle.job_language.specs.declared.instructions.Instr.{Instr}
use Rattle.job_step.specs.declared.segments.View.{View}
use Rattle.job_step.specs.declared.segments.View.TheVariants.{Top, Bare, Unshared}
use Rattle.tenant_model.specs.Walks.{height}
use Rattle.tenant_record.specs.Cell.{CellData, state_of}
use Rattle.tenant_record.specs.PassData.{PassData}
use Rattle.tenant_record.specs.Places.{is_one_out}
use Rattle.tenant_lock.specs.declared.held.MovedAndSeen.{MovedAndSeen}
use Rattle.tenant_lock.specs.declared.looks.TheConstants.{MOST_COMPARED}

-- Is no pass of the cell out but that one?
abbrev pub is_alone : CellData → PassData → Bool
is_alone c p = is_one_out c.config.slots c.home p.slot

-- Has the program more instructions than are compared?
abbrev pub is_long : List (List Instr) → Bool
is_long program = nat_lt MOST_COMPARED (sum_by length program)

-- what a slot of which that is seen is moved by: a long program is advanced
abbrev pub by_length : View → View
by_length (Top t) = if is_long t.program then Unshared else Top t
by_length seen = seen

-- The slot of a pass that is alone is to be advanced; any other one is moved by what is seen of it.
pub record IsShown (c : CellData) (p : PassData) (view : View) : Type 0 where
  pub alone : is_alone c p ≡ true → view ≡ Unshared
  pub beside : is_alone c p ≡ false → (seen : View) × (IsSeen (state_of c) p.slot seen × (view ≡ by_length seen))

-- how many rows are on the slot of a pass, if there is one
abbrev pub rows_on : CellData → Option PassData → Option ℕ
rows_on c pass = option_map (λ p. height (state_of c).rows p.slot) pass

-- With a pass it is what its slot shows, and how many rows are on the slot; without one nothing.
abbrev pub IsLook : CellData → Option PassData → View → Option ℕ → Type 0
IsLook c None view rows = (view ≡ Bare) × (rows ≡ None)
IsLook c (Some p) view rows = IsShown c p view × (rows ≡ Some (height (state_of c).rows p.slot))

-- What is seen of the slot of a move's pass after it, and how many rows are on it, are those of the cell.
abbrev pub IsLookAfter : MovedAndSeen → View → CellData → Type 0
IsLookAfter t view c = IsLook c t.advanced.pass view t.height

-- How many rows are on the slot of a move's pass after it is that of the cell.
abbrev pub IsCountAfter : MovedAndSeen → CellData → Type 0
IsCountAfter t c = t.height ≡ rows_on c t.advanced.pass
