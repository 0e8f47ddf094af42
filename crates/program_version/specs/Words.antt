-- The word that asks for the version.
use Rattle.std.specs.Prelude.{ℕ, Bool, List, [], ◌∷◌, false, codes}
use Rattle.std.specs.Str.{bytes_eq}

-- the words are that one alone
abbrev pub is_version_word : List (List ℕ) → Bool
is_version_word (word ∷ []) = bytes_eq word (codes "--version")
is_version_word words = false
