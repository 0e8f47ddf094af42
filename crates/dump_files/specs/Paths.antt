-- Parts of dumps, and their paths.
use Rattle.std.specs.Prelude.{◌≡◌, ◌≤◌, ◌==◌, ℕ, ◌++◌, List, codes, decimal, if◌then◌else◌}

-- a part: what was written to its file, and its path
pub record PartSeen (F : Type 0) : Type 0 where
  pub file : F
  pub path : List ℕ

-- the path of the part of a number, of the dump at a path
abbrev pub part_path : List ℕ → ℕ → List ℕ
part_path path number = if number == 1 then path ++ codes ".part" else path ++ (codes ".part" ++ decimal number)

-- It is the path of a part of the dump at that path: the first one, or another one up to the 64th.
abbrev pub IsPathOfPart : List ℕ → List ℕ → Type 0
IsPathOfPart path part = (number : ℕ) × (1 ≤ number) × (number ≤ 64) × (part ≡ part_path path number)
