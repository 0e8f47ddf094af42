-- The lines of a stream of bytes.
use Rattle.std.specs.Prelude.{◌≢◌, ℕ, List, [], ◌∷◌, length, map, ◌==◌, nat_le, if◌then◌else◌, All}

-- the byte that ends a line
abbrev pub newline : ℕ
newline = 10

abbrev pub HasNoNewline : List ℕ → Type 0
HasNoNewline bytes = All (λ b. b ≢ newline) bytes

-- a line, or one that has too many bytes
pub data Line : Type 0 where
  whole : List ℕ → Line
  too_long : Line

abbrev pub with_first : ℕ → List (List ℕ) → List (List ℕ)
with_first b [] = (b ∷ []) ∷ []
with_first b (text ∷ texts) = (b ∷ text) ∷ texts

-- the texts that newlines end, and then what follows the last newline, if any byte does
abbrev pub split_lines : List ℕ → List (List ℕ)
split_lines [] = []
split_lines (b ∷ bytes) = if b == newline then [] ∷ split_lines bytes else with_first b (split_lines bytes)

abbrev pub line_of : (limit : ℕ) → List ℕ → Line
line_of limit text = if nat_le (length text) limit then whole text else too_long

-- the lines of all the bytes
abbrev pub lines_of : (limit : ℕ) → List ℕ → List Line
lines_of limit bytes = map (line_of limit) (split_lines bytes)
