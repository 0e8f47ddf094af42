-- Places in a text: a line and a column in bytes, both from 1.
use Rattle.std.specs.Prelude.{ℕ, ◌+◌, ◌-◌, ◌==◌, List, [], ◌∷◌, length, take, drop, if◌then◌else◌}
use Rattle.source_tokens.specs.declared.tokens.Token.{Token}
use Rattle.source_reader.specs.declared.places.Place.{Place}

-- the place behind a text that begins there
abbrev pub place_from : (line column : ℕ) → List ℕ → Place
place_from l c [] = record { line = l; column = c }
place_from l c (b ∷ bs) = if b == 10 then place_from (l + 1) 1 bs else place_from l (c + 1) bs

abbrev pub place_of : List ℕ → ℕ → Place
place_of text at = place_from 1 1 (take at text)

-- where the first token begins, or where the text ends
abbrev pub beginning : List Token → List ℕ → ℕ
beginning [] text = length text
beginning (t ∷ ts) text = t.at

-- where so many tokens are left
abbrev pub place_left : List Token → List ℕ → (left : ℕ) → Place
place_left ts text left = place_of text (beginning (drop (length ts - left) ts) text)
