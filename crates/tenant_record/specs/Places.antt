-- Where the passes of a tenant's slots are.
use Rattle.std.specs.Prelude.{ℕ, ◌≡◌, IfSome, nat_lt, ◌==◌, not, Bool, true, false, List, Option, Some, None, if◌then◌else◌, slice_get, unwrap_or, slice_set, find, map}
use Rattle.std.specs.List.{range_with_len}
use Rattle.std.specs.Option.{is_some}
use Rattle.job_language.specs.Recorded.{is_entry}
use Rattle.job_language.specs.declared.answers.Answer.TheVariants as answer
use Rattle.job_language.specs.declared.answers.Came.{Came}
use Rattle.job_language.specs.declared.answers.Came.TheVariants.{At}
use Rattle.job_language.specs.declared.answers.Moved.{Moved}
use Rattle.job_language.specs.declared.tenants.Tenant.{Tenant}
use Rattle.tenant_model.specs.State.{State}
use Rattle.tenant_model.specs.Walks.{has_unstarted}
use Rattle.tenant_record.specs.PassData.{PassData, goes_home, has_room, arrived, placed, first_pass, IsPassOf}
use Rattle.tenant_record.specs.declared.places.Place.{Place}
use Rattle.tenant_record.specs.declared.places.Place.TheVariants.{Home, Due, Out}

abbrev pub place : List Place → ℕ → Place
place home slot = unwrap_or (slice_get home slot) Out

abbrev pub is_home : Place → Bool
is_home (Home p) = true
is_home p = false

-- Is the pass with the tenant, whether its slot is due or not?
abbrev pub is_in : Place → Bool
is_in Out = false
is_in p = true

abbrev pub pass_in : Place → Option PassData
pass_in (Home p) = Some p
pass_in (Due p) = Some p
pass_in Out = None

-- Is the pass there, and was it told that the history is at its limit?
abbrev pub is_told_full : Place → Bool
is_told_full (Home p) = p.full
is_told_full (Due p) = p.full
is_told_full Out = false

abbrev pub due_place : Place → Place
due_place (Home p) = Due p
due_place p = p

-- a place to which nobody is called
abbrev pub home_place : Place → Place
home_place (Due p) = Home p
home_place p = p

-- Is it a slot for workers whose pass is home, with nobody called?
unfoldable pub is_worker_home : (reserved : ℕ) → List Place → ℕ → Bool
is_worker_home reserved home slot = if nat_lt slot reserved then false else is_home (place home slot)

-- the lowest such slot, if a row waits to be started
abbrev pub due_slot : Tenant → State → List Place → Option ℕ
due_slot c s home = if has_unstarted s then find (is_worker_home c.reserved home) (range_with_len 0 c.slots) else None

-- Is that another slot than the one of that number, whose pass is out?
unfoldable pub is_other_out : List Place → (slot other : ℕ) → Bool
is_other_out home slot other = if other == slot then false else not (is_in (place home other))

-- the lowest such slot
abbrev pub other_out : (slots : ℕ) → List Place → (slot : ℕ) → Option ℕ
other_out slots home slot = find (is_other_out home slot) (range_with_len 0 slots)

-- Is no pass out but that of the slot?
abbrev pub is_one_out : (slots : ℕ) → List Place → (slot : ℕ) → Bool
is_one_out slots home slot = not (is_some (other_out slots home slot))

-- what is due after an answer: nothing, if it is no entry
abbrev pub due_after : (is_entry : Bool) → Tenant → State → List Place → Option ℕ
due_after is_entry c s home = if is_entry then due_slot c s home else None

-- the places when that slot is due
abbrev pub woken : Option ℕ → List Place → List Place
woken None home = home
woken (Some slot) home = slice_set home slot (due_place (place home slot))

-- the places after an advance with that answer: the pass is home again, or still out
abbrev pub returned : List Place → PassData → Moved → List Place
returned home p m = if goes_home m then slice_set home p.slot (Home p) else home

-- the places when the pass of a slot, if one is named, was handed out
abbrev pub taken : Option ℕ → List Place → List Place
taken None home = home
taken (Some slot) home = slice_set home slot Out

abbrev pub option_placed : Option PassData → Option PassData
option_placed None = None
option_placed (Some p) = Some (placed p)

-- the pass that is handed out with a job that was placed on its slot
abbrev pub placed_pass : Option ℕ → List Place → Option PassData
placed_pass None home = None
placed_pass (Some slot) home = option_placed (pass_in (place home slot))

-- the pass that is handed out with an arrival
abbrev pub arrived_pass : Came → Option PassData → Option PassData
arrived_pass (At row) (Some p) = Some (arrived p row)
arrived_pass came p = None

-- the place of a slot after an arrival there: if nobody came in, it is not due any more
abbrev pub arrived_place : Came → Place → Place
arrived_place (At row) p = Out
arrived_place came p = home_place p

-- The pass of a place, if there is one, is that of the slot.
abbrev pub IsPlaceOf : (tenant slot : ℕ) → Place → Type 0
IsPlaceOf tenant slot (Home p) = IsPassOf tenant slot p
IsPlaceOf tenant slot (Due p) = IsPassOf tenant slot p
IsPlaceOf tenant slot Out = Unit {0}

-- The log of the pass of a slot has room for an arrival there, if that is an entry.
abbrev pub HasRoomFor : Came → List Place → (slot : ℕ) → Type 0
HasRoomFor came home slot = is_entry (answer.Came came) ≡ true → IfSome (pass_in (place home slot)) (λ p. has_room p ≡ true)

-- the places of a tenant that has done nothing yet
abbrev pub first_places : (tenant limit slots : ℕ) → List Place
first_places tenant limit slots = map (λ slot. Home (first_pass tenant limit slot)) (range_with_len 0 slots)
