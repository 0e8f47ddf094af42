-- That rows which are on slots go on.
use Rattle.std.specs.Prelude.{ℕ, ◌≡◌, ◌<◌, true, false}
use Rattle.tenant_model.specs.Advance.{advance, would_be_recorded}
use Rattle.tenant_record.specs.Cell.{CellData, state_of}
use Rattle.tenant_record.specs.Places.{place, is_in}

-- A slot can move whose pass is out. In a full history its advance is answered Full.
pub record HasMover (c : CellData) : Type 0 where
  pub slot : ℕ
  pub low : slot < c.config.slots
  pub out : is_in (place c.home slot) ≡ false
  pub moves : would_be_recorded (advance (state_of c) slot).0 ≡ true
