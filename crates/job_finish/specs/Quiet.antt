-- A tenant that has come to rest: no slot can move, and what is done then.
use Rattle.std.specs.Prelude.{ℕ, ◌≡◌, ◌<◌, false}
use Rattle.tenant_model.specs.State.{State, row}
use Rattle.tenant_model.specs.Walks.{is_open}
use Rattle.waiting_law.specs.Waiting.{CanNotMove}

-- No slot of the tenant can move.
abbrev pub IsQuiet : State → Type 0
IsQuiet s = (slot : ℕ) → slot < s.config.slots → CanNotMove s slot

-- No row is open.
abbrev pub AllClosed : State → Type 0
AllClosed s = (n : ℕ) → is_open (row s.rows n).phase ≡ false
