-- What a slot takes, and what is on top of it.
use Rattle.std.proofs.Common.{◌≡◌, ℕ, nat_lt, length, Option, Some, None, true, false, refl, sym, ap, ◌∙◌, arith}
use Rattle.std.specs.Option.{option_map}
use Rattle.job_language.specs.declared.answers.Moved.TheVariants as moved
use Rattle.job_step.specs.declared.runs.Run.{Run}
use Rattle.nest_stack.specs.declared.stack.Nested.{Nested}
use Rattle.nest_stack.specs.Nest.{stack}
use Rattle.nest_stack.specs.Nest as nest_stack
use Rattle.tenant_model.specs.State.{State}
use Rattle.tenant_model.specs.Walks.{height, pick, top}
use Rattle.tenant_model.specs.Changes.{entry, nest}
use Rattle.tenant_model.specs.Advance.{advance, advance_run, advance_top, after_run, begin, is_idle_wait, nest_pick, run_on, unless_full}
use Rattle.tenant_model.proofs.Picks.{top_is, top_none}
use Rattle.arena_rows.specs.Held.{Held}
use Rattle.arena_rows.specs.HeldChanges.{picked}
use Rattle.arena_rows.specs.Represents.{id_of, nested_of, Rests, Holds}
use Rattle.arena_rows.proofs.Picking.{picked_is}
use Rattle.arena_rows.proofs.Tops.{height_is, top_of_stack}

none_before : {A B : Type 0} (f : A → B) (o : Option A) → option_map f o ≡ None → o ≡ None
none_before f None none = refl
none_before f (Some x) none = absurd (grind (arith, none))

some_before : {A B : Type 0} (f : A → B) (o : Option A) (y : B) → option_map f o ≡ Some y → (x : A) × (o ≡ Some x)
some_before f None y some = absurd (grind (arith, some))
some_before f (Some x) y some = (x, refl)

-- no row for a slot
pub none_picked : (a : Held) (s : State) (slot : ℕ) → Rests a s → picked a slot ≡ None → pick s slot ≡ None
none_picked a s slot rests none = none_before (id_of rests.holds.places) (pick s slot) (sym (picked_is a s rests slot) ∙ none)

-- a row on top of a slot, and none
pub some_on_top : (a : Held) (s : State) (slot : ℕ) (x : Nested) → Holds a s → nest_stack.top (stack a.nests slot) ≡ Some x → (n : ℕ) × (top s.rows slot ≡ Some n)
some_on_top a s slot x is some =
    some_before (nested_of s.rows is.places) (top s.rows slot) x (sym (top_of_stack s.rows is.places a.config.slots a.nests is.steady.formed.stacked is.nests slot) ∙ some)

pub none_on_top : (a : Held) (s : State) (slot : ℕ) → Holds a s → nest_stack.top (stack a.nests slot) ≡ None → top s.rows slot ≡ None
none_on_top a s slot is none =
    none_before (nested_of s.rows is.places) (top s.rows slot) (sym (top_of_stack s.rows is.places a.config.slots a.nests is.steady.formed.stacked is.nests slot) ∙ none)

pub empty_stack : (a : Held) (s : State) (slot : ℕ) → Holds a s → nest_stack.top (stack a.nests slot) ≡ None → length (stack a.nests slot) ≡ 0
empty_stack a s slot is none =
    height_is s.rows is.places a.config.slots a.nests is.steady.formed.stacked is.nests slot ∙ top_none s.rows slot is.steady.formed.stacked (none_on_top a s slot is none)

-- A slot with a row is one of the tenant's.
pub slot_there : (a : Held) (s : State) (slot n : ℕ) → Holds a s → top s.rows slot ≡ Some n → nat_lt slot s.config.slots ≡ true
slot_there a s slot n is on_top =
    let within = is.steady.tended.slots n slot (height s.rows slot) (top_is s.rows slot n on_top).2 in
    grind (arith, within)

-- an advance, by what is on top
pub advance_on_top : (s : State) (slot n : ℕ) → nat_lt slot s.config.slots ≡ true → top s.rows slot ≡ Some n → advance s slot ≡ unless_full s (advance_run s slot n (run_on s slot n))
advance_on_top s slot n low on_top =
    let first : advance s slot ≡ unless_full s (advance_top s slot (top s.rows slot)) = rw low refl in
    first ∙ ap (λ o. unless_full s (advance_top s slot o)) on_top

pub advance_on_none : (s : State) (slot : ℕ) → nat_lt slot s.config.slots ≡ true → top s.rows slot ≡ None → advance s slot ≡ unless_full s (begin s slot (pick s slot))
advance_on_none s slot low none =
    let first : advance s slot ≡ unless_full s (advance_top s slot (top s.rows slot)) = rw low refl in
    first ∙ ap (λ o. unless_full s (advance_top s slot o)) none

-- and by the run
pub advance_run_on : (s : State) (slot n : ℕ) (r : Run) → r ≡ run_on s slot n → is_idle_wait s n r.count r.stop ≡ false →
    advance_run s slot n (run_on s slot n) ≡ after_run s slot n r.count r.end r.stop
advance_run_on s slot n r run runs =
    let moves : is_idle_wait s n (run_on s slot n).count (run_on s slot n).stop ≡ false = rw (← run) runs in
    let all : advance_run s slot n r ≡ after_run s slot n r.count r.end r.stop = rw runs refl in
    sym (ap (advance_run s slot n) run) ∙ all

pub advance_run_waits : (s : State) (slot n : ℕ) (r : Run) → r ≡ run_on s slot n → is_idle_wait s n r.count r.stop ≡ true → advance_run s slot n (run_on s slot n) ≡ nest_pick s slot n (pick s slot)
advance_run_waits s slot n r run waits =
    let all : advance_run s slot n r ≡ nest_pick s slot n (pick s slot) = rw waits refl in
    sym (ap (advance_run s slot n) run) ∙ all

-- an empty slot
pub begin-reserved : (s : State) (slot : ℕ) (o : Option ℕ) → nat_lt slot s.config.reserved ≡ true → begin s slot o ≡ (moved.Idle, s)
begin-reserved s slot None reserved = rw reserved refl
begin-reserved s slot (Some n) reserved = rw reserved refl

pub begin-none : (s : State) (slot : ℕ) (o : Option ℕ) → nat_lt slot s.config.reserved ≡ false → o ≡ None → begin s slot o ≡ (moved.Left, s)
begin-none s slot o free none = rw (none, free) refl

pub begin-some : (s : State) (slot n : ℕ) (o : Option ℕ) → nat_lt slot s.config.reserved ≡ false → o ≡ Some n → begin s slot o ≡ (moved.Nested n, entry (nest s slot n))
begin-some s slot n o free some = rw (some, free) refl
