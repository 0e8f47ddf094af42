-- When those who wait for a tenant have to stop.
use Rattle.std.specs.Prelude.{Bool, ◌||◌, nat_le, length}
use Rattle.tenant_record.specs.Cell.{CellData}

-- Were they told to, or is the history full?
abbrev pub has_to_stop : (stopped : Bool) → CellData → Bool
has_to_stop stopped c = stopped || nat_le c.config.steps (length c.history)
