-- The lines of moves.
use Rattle.std.specs.Prelude.{ℕ, List, ◌++◌, codes, decimal}

-- what ends the line of an advance of a slot, behind what is before its number
abbrev pub advance_text : List ℕ → ℕ → List ℕ
advance_text before slot = before ++ decimal slot ++ codes ",\"step\":\"advance\"}\n"

-- the same of an advance that put a row on the slot
abbrev pub nested_text : (row slot : ℕ) → List ℕ
nested_text row slot = codes "{\"moved\":\"nested\",\"row\":" ++ decimal row ++ advance_text (codes ",\"slot\":") slot

-- the line of an arrival
abbrev pub arrived_text : (row slot : ℕ) → List ℕ
arrived_text row slot = codes "{\"moved\":\"arrived\",\"row\":" ++ decimal row ++ (codes ",\"slot\":" ++ decimal slot ++ codes ",\"step\":\"arrive\"}\n")
