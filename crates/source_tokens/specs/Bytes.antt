-- Bytes of a source, and how long words and lines are.
use Rattle.std.specs.Prelude.{ℕ, ◌==◌, ◌&&◌, ◌||◌, nat_le, not, Bool, List, length, Option, Some, None, position}

abbrev pub is_space : ℕ → Bool
is_space b = (b == 32 || b == 9) || b == 13

abbrev pub is_digit : ℕ → Bool
is_digit b = nat_le 48 b && nat_le b 57

-- a letter of ASCII, or `_`
abbrev pub is_letter : ℕ → Bool
is_letter b = ((nat_le 65 b && nat_le b 90) || (nat_le 97 b && nat_le b 122)) || b == 95

abbrev pub is_word : ℕ → Bool
is_word b = is_letter b || is_digit b

abbrev pub found_or : Option ℕ → ℕ → ℕ
found_or None n = n
found_or (Some k) n = k

-- how many letters and digits there are at the front
abbrev pub word_len : List ℕ → ℕ
word_len bs = found_or (position (λ b. not (is_word b)) bs) (length bs)

-- how many bytes there are before the end of the line
abbrev pub line_len : List ℕ → ℕ
line_len bs = found_or (position (λ b. b == 10) bs) (length bs)
