-- Numbers among words.
use Rattle.std.specs.Prelude.{◌≡◌, ◌≤◌, ℕ, Option, MatchOption}
use Rattle.std.specs.Str.Parse.{IsNumeral, digits_value, without_leading_plus}
use Rattle.clap.specs.Words.{Text}
use Rattle.program_words.specs.declared.numbers.Range.{Range}

-- The text is that number in digits of the radix, with or without a plus before them, and the number is one of the range.
pub record NamesNumber (range : Range) (text : Text) (n : ℕ) : Type 0 where
  pub digits : IsNumeral range.radix (without_leading_plus text)
  pub value : n ≡ digits_value range.radix (without_leading_plus text)
  pub least : range.least ≤ n
  pub most : n ≤ range.most

-- The text names no such number.
abbrev pub NamesNoNumber : Range → Text → Type 0
NamesNoNumber range text = (n : ℕ) → NamesNumber range text n → ⊥

-- the number that an option was given, or the other one if it was given none
abbrev pub IsGiven : Range → (other : ℕ) → Option Text → ℕ → Type 0
IsGiven range other value n = MatchOption value (n ≡ other) (λ text. NamesNumber range text n)

-- The option was given a text that names no number of the range.
abbrev pub IsMisgiven : Range → Option Text → Type 0
IsMisgiven range value = MatchOption value ⊥ (NamesNoNumber range)
