-- What reads back from its canonical text.
use Rattle.std.specs.Prelude.{◌≡◌, ℕ, ◌≤◌, Some}
use Rattle.json.specs.Tree as tree
use Rattle.serde_json.specs.Data.{Data}
use Rattle.serde_json.specs.Read.{of_json}
use Rattle.serde_json.specs.Written.{outline}

-- JSON that nests no deeper than the number, and that its text, with no space and with its members in order, spells
pub record IsCanonical (deep : ℕ) (d : Data) : Type 0 where
  pub reads : of_json (outline d) ≡ Some d
  pub numbers : tree.HasNumbers (outline d)
  pub depth : tree.depth (outline d) ≤ deep
