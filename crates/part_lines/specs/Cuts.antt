-- Cutting off the first line of a part.
use Rattle.std.specs.Prelude.{◌≡◌, ◌<◌, ℕ, List, [], ◌∷◌, Option, Some, None, length}
use Rattle.part_lines.specs.Parts.{whole_lines}

-- the first line and what follows it, if it is whole
abbrev pub IsFirstLine : List ℕ → Option (List ℕ × List ℕ) → Type 0
IsFirstLine bytes None = whole_lines bytes ≡ []
IsFirstLine bytes (Some cut) = (whole_lines bytes ≡ cut.0 ∷ whole_lines cut.1) × (length cut.1 < length bytes)
