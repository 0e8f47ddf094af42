-- What a history has of a seat.
use Rattle.std.specs.Prelude.{ℕ, ◌≡◌, ◌==◌, List, [], ◌∷◌, if◌then◌else◌}
use Rattle.job_language.specs.declared.steps.Entry.{Entry}
use Rattle.tenant_record.specs.Cell.{CellData, is_ask}
use Rattle.tenant_record.specs.SeatData.{SeatData}

-- the asks of a history that belong to a seat, in order, if the seat of each ask is named
abbrev pub asks_on : (number : ℕ) → (askers : List ℕ) → List Entry → List Entry
asks_on number [] history = []
asks_on number (asker ∷ askers) [] = []
asks_on number (asker ∷ askers) (e ∷ history) =
    if is_ask e.step then (if asker == number then e ∷ asks_on number askers history else asks_on number askers history) else asks_on number (asker ∷ askers) history

-- The log of the seat is exactly the history's asks that the askers give to it, in order.
abbrev pub HasAsks : CellData → SeatData → Type 0
HasAsks c s = s.log ≡ asks_on s.number c.askers c.history
