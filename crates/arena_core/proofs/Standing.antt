-- What is known of an arena between steps.
use Rattle.std.proofs.Common.{◌≡◌, ◌<◌, ◌≤◌, ◌^◌, ◌∙◌, ◌&&◌, ℕ, Bool, true, false, not, List, [], ◌∷◌, length, sym, ap, arith}
use Rattle.std.specs.Prelude.{if◌then◌else◌}
use Rattle.std.proofs.lemmas.List.{get_or_past}
use Rattle.job_language.specs.Recorded.{is_entry}
use Rattle.job_language.specs.declared.answers.Answer.TheVariants as answer
use Rattle.job_language.specs.declared.answers.Came.TheVariants as came
use Rattle.job_language.specs.declared.answers.Moved.TheVariants as moved
use Rattle.job_language.specs.declared.requests.Request.{Request}
use Rattle.job_language.specs.declared.steps.Step.TheVariants.{Advance}
use Rattle.job_language.specs.Brought.{BringsValid}
use Rattle.job_language.specs.declared.tenants.Tenant.{Tenant}
use Rattle.job_language.specs.Tenant.{IsValidTenant}
use Rattle.tenant_model.specs.State.{State, empty}
use Rattle.nest_stack.specs.Nest.{stack}
use Rattle.nest_stack.specs.declared.stack.Nested.{Nested}
use Rattle.tenant_model.specs.Walks.{height}
use Rattle.tenant_model.specs.Advance.{advance, arrive}
use Rattle.tenant_model.specs.Asks.{ask}
use Rattle.tenant_model.specs.Naming.{IsUnstuck}
use Rattle.tenant_model.specs.Regions.{KeepsRegions}
use Rattle.tenant_model.specs.Sound.{IsCounted, IsSound}
use Rattle.tenant_model.proofs.SoundSteps.{advance_sound, ask_sound, arrive_sound, empty_sound}
use Rattle.tenant_model.proofs.UnstuckSteps.{advance_unstuck, ask_unstuck, arrive_unstuck, empty_unstuck}
use Rattle.tenant_model.proofs.RegionLaws.{sound_keeps_regions}
use Rattle.arena_rows.specs.Held.{Held}
use Rattle.arena_rows.specs.Represents.{Holds, Rests}
use Rattle.arena_rows.proofs.Tops.{height_is}
use Rattle.arena_steps.specs.Within.{advance_within, arrive_within}
use Rattle.arena_core.specs.Stands.{StandsFor}

pub sound : (a : Held) (s : State) → StandsFor a s → IsSound s
sound a s is = record {
  well_formed = is.rests.holds.steady.formed;
  tended = is.rests.holds.steady.tended;
  counted = is.counted;
  settled = is.rests.settled;
}

-- a tenant that has done nothing yet
pub stands_first : (a : Held) (c : Tenant) → IsValidTenant c → Rests a (empty c) → StandsFor a (empty c)
stands_first a c valid rests = record {
  rests = rests;
  counted = (empty_sound c valid.most_slots valid.reserved).counted;
  unstuck = empty_unstuck c;
}

-- the state after an ask
pub stands_asked : (a b : Held) (s : State) (r : Request) → StandsFor a s → BringsValid r → Rests b (ask s r).1 → StandsFor b (ask s r).1
stands_asked a b s r is valid rests = record {
  rests = rests;
  counted = (ask_sound s r (sound a s is)).counted;
  unstuck = ask_unstuck s r is.rests.holds.steady.formed.linked valid is.unstuck;
}

-- the state after an arrival
pub stands_arrived : (a b : Held) (s : State) (slot : ℕ) → StandsFor a s → Rests b (arrive s slot).1 → StandsFor b (arrive s slot).1
stands_arrived a b s slot is rests = record {
  rests = rests;
  counted = (arrive_sound s slot (sound a s is)).counted;
  unstuck = arrive_unstuck s slot is.unstuck;
}

-- the state after an advance
pub stands_advanced : (a b : Held) (s : State) (slot : ℕ) → StandsFor a s → Rests b (advance s slot).1 → StandsFor b (advance s slot).1
stands_advanced a b s slot is rests = record {
  rests = rests;
  counted = (advance_sound s slot (sound a s is)).counted;
  unstuck = advance_unstuck s slot is.rests.holds.steady.formed.linked is.unstuck;
}

-- what is known of a state apart from what is held
record Lasts (s : State) : Type 0 where
  counted : IsCounted s
  unstuck : IsUnstuck s

either : {A : Type 0} (b : Bool) (answer : A) (s : State) (step : A × State) → Lasts s → Lasts step.1 → Lasts (if b then (answer, s) else step).1
either {A = A} true answer s step here there = here
either {A = A} false answer s step here there = there

standing : (b : Held) (s : State) → Rests b s → Lasts s → StandsFor b s
standing b s rests lasts = record { rests = rests; counted = lasts.counted; unstuck = lasts.unstuck }

module _ (a b : Held) (has_room : Bool) (s : State) (slot : ℕ) (is : StandsFor a s) where
  before : Lasts s
  before = record { counted = is.counted; unstuck = is.unstuck }

  -- and those after steps that may have no room
  pub stands_advanced_within : Rests b (advance_within has_room s slot).1 → StandsFor b (advance_within has_room s slot).1
  stands_advanced_within rests =
      let after : Lasts (advance s slot).1 = record { counted = (advance_sound s slot (sound a s is)).counted; unstuck = advance_unstuck s slot is.rests.holds.steady.formed.linked is.unstuck } in
      standing b (advance_within has_room s slot).1 rests (either (is_entry (answer.Moved (advance s slot).0) && not has_room) moved.Full s (advance s slot) before after)

  pub stands_arrived_within : Rests b (arrive_within has_room s slot).1 → StandsFor b (arrive_within has_room s slot).1
  stands_arrived_within rests =
      let after : Lasts (arrive s slot).1 = record { counted = (arrive_sound s slot (sound a s is)).counted; unstuck = arrive_unstuck s slot is.unstuck } in
      standing b (arrive_within has_room s slot).1 rests (either (is_entry (answer.Came (arrive s slot).0) && not has_room) came.Full s (arrive s slot) before after)

-- What regions protect when a slot advances.
pub keeps_regions : (a : Held) (s : State) (slot : ℕ) → StandsFor a s → KeepsRegions s (Advance slot ∷ [])
keeps_regions a s slot is = sound_keeps_regions s (Advance slot ∷ []) (sound a s is)

-- There are no more rows than entries.
pub made_counted : (a : Held) (s : State) → StandsFor a s → a.made ≤ a.entries
made_counted a s is = omega (arith, is.rests.holds.made, is.counted.rows, is.rests.holds.entries)

-- where an entry has room, so has a row's number
pub made_few : (a : Held) (s : State) → StandsFor a s → IsValidTenant a.config → a.entries < a.config.steps → a.made < 2 ^ 32
made_few a s is valid room = omega (arith, is.rests.holds.made, is.counted.rows, is.rests.holds.entries, valid.most_steps, room)

-- A stack is as high as its slot.
pub held_height : (a : Held) (s : State) → Holds a s → (slot : ℕ) → length (stack a.nests slot) ≡ height s.rows slot
held_height a s is = height_is s.rows is.places a.config.slots a.nests is.steady.formed.stacked is.nests

-- and nothing is on a slot that the tenant lacks
pub no_stack : (a : Held) (s : State) → Holds a s → (slot : ℕ) → a.config.slots ≤ slot → 0 ≡ height s.rows slot
no_stack a s is slot lacks =
    let past : stack a.nests slot ≡ [] = get_or_past a.nests slot [] (omega (arith, lacks, is.nests.long)) in
    sym (ap (λ (xs : List Nested). length xs) past) ∙ held_height a s is slot
