-- What is read of the texts that a host wrote.
use Rattle.std.specs.Prelude.{◌≡◌, ◌≢◌, ℕ, ◌<◌, ◌^◌, ◌==◌, List, ◌∷◌, ◌++◌, Bool, Option, Some, IfSome, decimal}
use Rattle.std.specs.List.{slice_split}
use Rattle.std.specs.Option.{MatchOption}
use Rattle.request_reader.specs.Lines.{newline}

-- what follows a word in a text that begins with it
abbrev pub Follows : (word text : List ℕ) → Option (List ℕ) → Type 0
Follows word text r = MatchOption r ((rest : List ℕ) → text ≢ word ++ rest) (λ rest. text ≡ word ++ rest)

-- the number of 64 bits that a text is, as a host writes it, if it is one
pub record IsNumberOf (text : List ℕ) (r : Option ℕ) : Type 0 where
  pub said : IfSome r (λ n. (n < 2 ^ 64) × (text ≡ decimal n))
  pub found : (n : ℕ) → n < 2 ^ 64 → text ≡ decimal n → r ≡ Some n

-- the number of 64 bits with which a text begins, as a host writes it, and what follows the byte behind it
pub record ReadsNumber (end : ℕ) (text : List ℕ) (r : Option (ℕ × List ℕ)) : Type 0 where
  pub said : IfSome r (λ read. (read.0 < 2 ^ 64) × (text ≡ decimal read.0 ++ (end ∷ read.1)))
  pub found : (n : ℕ) (rest : List ℕ) → n < 2 ^ 64 → text ≡ decimal n ++ (end ∷ rest) → r ≡ Some (n, rest)

abbrev pub is_newline : ℕ → Bool
is_newline b = b == newline

-- the lines of a text, without their ends; the last one is what follows the last newline
abbrev pub lines_in : List ℕ → List (List ℕ)
lines_in text = slice_split is_newline text
