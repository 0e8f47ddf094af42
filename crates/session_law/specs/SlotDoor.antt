-- The door of a slot, by the definitions: in every state that its arena stands for.
use Rattle.std.specs.Prelude.{ℕ, ◌≡◌, Bool, true}
use Rattle.job_language.specs.declared.answers.Moved.{Moved}
use Rattle.job_step.specs.declared.segments.Top.{Top}
use Rattle.job_step.specs.declared.segments.View.{View}
use Rattle.tenant_model.specs.State.{State}
use Rattle.tenant_model.specs.Walks.{height}
use Rattle.tenant_model.specs.Advance.{advance}
use Rattle.arena_core.specs.Stands.{StandsFor, Takes}
use Rattle.arena_core.specs.Views.{IsSeen}
use Rattle.arena_core.specs.Views.{Commits as CommitsIn}
use Rattle.session_law.specs.declared.slot_door.ArenaDoor.{ArenaDoor}

-- the same slot of the same arena, perhaps later
abbrev pub IsSameDoor : ArenaDoor → ArenaDoor → Type 0
IsSameDoor d e = (e.arena.ghost_name ≡ d.arena.ghost_name) × (e.slot ≡ d.slot)

abbrev pub SeesSlot : ArenaDoor → View → Type 0
SeesSlot d seen = (s : State) → StandsFor d.arena.now s → IsSeen s d.slot seen

abbrev pub IsSlotAsHigh : ArenaDoor → ℕ → Type 0
IsSlotAsHigh d h = (s : State) → StandsFor d.arena.now s → h ≡ height s.rows d.slot

-- An advance is the definitions' advance.
abbrev pub AdvancesSlot : ArenaDoor → Moved → ArenaDoor → Type 0
AdvancesSlot d m e = IsSameDoor d e × ((s : State) → StandsFor d.arena.now s → Takes e.arena.now m (advance s d.slot))

-- A commit is an advance too, or stale.
abbrev pub CommitsSlot : ArenaDoor → Top → Moved → ArenaDoor → Type 0
CommitsSlot d seen m e = IsSameDoor d e × ((s : State) → StandsFor d.arena.now s → (t : State) × (CommitsIn true s d.slot seen m t × StandsFor e.arena.now t))

-- A pause says to stop, and changes nothing.
abbrev pub PausesSlot : ArenaDoor → Bool → ArenaDoor → Type 0
PausesSlot d stops e = (stops ≡ true) × (e ≡ d)
