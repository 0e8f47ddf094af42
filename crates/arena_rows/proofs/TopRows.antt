-- The topmost row of a slot among what is held.
use Rattle.std.proofs.Common.{◌≡◌, ℕ, ◌+◌, ◌-◌, ◌<◌, ◌≤◌, length, Option, Some, None, true, refl, sym, ap, ◌∙◌, arith, map}
use Rattle.nest_stack.specs.Nest as nest
use Rattle.nest_stack.specs.Nest.{stack}
use Rattle.region_tag.specs.declared.row_id.RowId.{RowId}
use Rattle.tenant_model.specs.declared.rows.Phase.TheVariants.{Live}
use Rattle.tenant_model.specs.State.{State, row}
use Rattle.tenant_model.specs.Walks.{is_open, height, top}
use Rattle.tenant_model.proofs.Picks.{top_is}
use Rattle.tenant_model.proofs.Invariance.{IsAt}
use Rattle.std.specs.Option.{option_map}
use Rattle.arena_rows.specs.Held.{Held}
use Rattle.nest_stack.specs.declared.stack.Nested.{Nested}
use Rattle.arena_rows.specs.Represents.{id_of, nested_of, Stands, Holds, HasTop}
use Rattle.arena_rows.proofs.Started.{some_is, some_none}
use Rattle.arena_rows.proofs.Tops.{height_is, top_of_stack}
use Rattle.arena_rows.specs.HeldJobs.{IsCurrent}
use Rattle.arena_rows.proofs.JobPlaces.{current_told}

module _ (a : Held) (s : State) (is : Holds a s) where
  module _ (slot n : ℕ) (on_top : top s.rows slot ≡ Some n) where
    live : (row s.rows n).phase ≡ Live slot (height s.rows slot)
    live = (top_is s.rows slot n on_top).2

    pub top_open : is_open (row s.rows n).phase ≡ true
    top_open = rw live refl

    pub top_there : (1 ≤ n) × (n ≤ length s.rows)
    top_there = let it = top_is s.rows slot n on_top in (it.0, it.1)

    pub on_slot : slot < a.config.slots
    on_slot = (is.nests.each n slot (height s.rows slot) live).0

    pub top_at : IsAt s slot n
    top_at = let it = top_is s.rows slot n on_top in record { well = is.steady.formed; slots = rw is.config at on_slot; from = it.0; to = it.1; live = it.2 }

    pub top_high : 0 < length (stack a.nests slot)
    top_high = omega (arith, height_is s.rows is.places a.config.slots a.nests is.steady.formed.stacked is.nests slot, (is.nests.each n slot (height s.rows slot) live).1)

    pub top_stands : Stands s.rows is.places a.table n
    top_stands = is.table.each n top_open

    pub maker_within : (id : RowId) → id ≡ id_of is.places n → id.place < length a.table
    maker_within id same = rw same top_stands.within

    pub top_nested : nest.top (stack a.nests slot) ≡ Some (nested_of s.rows is.places n)
    top_nested = top_of_stack s.rows is.places a.config.slots a.nests is.steady.formed.stacked is.nests slot ∙ ap (option_map (nested_of s.rows is.places)) on_top

    -- its job is held
    pub top_job : IsCurrent a.jobs (row s.rows n).job
    top_job = current_told a s is (row s.rows n).job (is.jobs.later n top_open) (is.steady.formed.linked.jobs n top_there.0 top_there.1).1

pub top_within : (a : Held) (slot : ℕ) → HasTop a slot → slot < length a.nests
top_within a slot h = omega (arith, on_slot a h.0 h.2 slot h.1 h.3, h.2.nests.long)

-- what stands on top, as the stack tells it
pub top_told : (a : Held) (s : State) (is : Holds a s) (slot n : ℕ) (o : Option Nested) (x : Nested) → top s.rows slot ≡ Some n → o ≡ nest.top (stack a.nests slot) → o ≡ Some x →
    x ≡ nested_of s.rows is.places n
top_told a s is slot n o x on_top told some = some_is x (nested_of s.rows is.places n) (sym some ∙ told ∙ top_nested a s is slot n on_top)

pub top_not_none : (a : Held) (slot : ℕ) (o : Option Nested) → HasTop a slot → o ≡ nest.top (stack a.nests slot) → o ≡ None → ⊥
top_not_none a slot o h told none = some_none (nested_of h.0.rows h.2.places h.1) (sym (top_nested a h.0 h.2 slot h.1 h.3) ∙ sym told ∙ none)

pub some_row : (a : Held) (slot : ℕ) → HasTop a slot → 0 < length (stack a.nests slot)
some_row a slot h = top_high a h.0 h.2 slot h.1 h.3
