-- What is added to a text.
use Rattle.std.specs.Prelude.{◌≡◌, List, ℕ, ◌++◌}

-- whatever stands behind it: what was added, with that behind it, stands behind the old text
abbrev pub Adds : (old new : List ℕ) → (List ℕ → List ℕ) → Type 0
Adds old new then = (rest : List ℕ) → new ++ rest ≡ old ++ then rest
