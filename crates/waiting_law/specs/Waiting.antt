-- Which slots can move, and whether a row is on one.
use Rattle.std.specs.Prelude.{ℕ, ◌≡◌, ◌<◌, ◌≤◌, true, false}
use Rattle.tenant_model.specs.declared.rows.Phase.TheVariants.{Live}
use Rattle.tenant_model.specs.Advance.{advance, would_be_recorded}
use Rattle.tenant_model.specs.State.{State, row}
use Rattle.tenant_model.specs.Walks.{height}

-- An advance of the slot would be no entry, and not for want of room: the slot is idle, or a worker would leave it.
abbrev pub CanNotMove : State → (slot : ℕ) → Type 0
CanNotMove s slot = would_be_recorded (advance s slot).0 ≡ false

-- No slot with a row on it can move.
abbrev pub NoneMoves : State → Type 0
NoneMoves s = (n slot h : ℕ) → (row s.rows n).phase ≡ Live slot h → CanNotMove s slot

-- No row is on a slot.
abbrev pub NoneLive : State → Type 0
NoneLive s = (n slot h : ℕ) → (row s.rows n).phase ≡ Live slot h → ⊥

-- A slot with rows on it can move. In a full history its advance is answered Full.
pub record SomeMoves (s : State) : Type 0 where
  pub slot : ℕ
  pub low : slot < s.config.slots
  pub rows : 1 ≤ height s.rows slot
  pub moves : would_be_recorded (advance s slot).0 ≡ true
