-- The tokens of a text, each with where it begins.
use Rattle.std.specs.Prelude.{ℕ, ◌==◌, ◌&&◌, ◌||◌, ℤ, Bool, true, List, [], ◌∷◌, Option, Some, None, ◌+◌, if◌then◌else◌}
use Rattle.std.specs.List.{flat_map}
use Rattle.std.specs.Str.{bytes_eq}
use Rattle.source_tokens.specs.declared.tokens.Kind.{Kind}
use Rattle.source_tokens.specs.declared.tokens.Kind.TheVariants as kind
use Rattle.source_tokens.specs.declared.tokens.Token.{Token}
use Rattle.source_tokens.specs.Bytes.{is_space, is_digit, is_letter}
use Rattle.source_tokens.specs.Numbers.{number_of, width_of}
use Rattle.source_tokens.specs.Words.{kind_named}
use Rattle.source_tokens.specs.Lexemes.{lexemes_of}
use Rattle.source_tokens.specs.Breaks.{unbroken}
use Rattle.source_tokens.specs.BuiltIns.{name_kind as name_kind_of, settled}

-- a space or a comment
abbrev pub is_blank : List ℕ → Bool
is_blank [] = true
is_blank (a ∷ []) = is_space a || a == 35
is_blank (a ∷ b ∷ bs) = a == 35 || (a == 47 && b == 47)

-- the place of the first lexeme with that text, if the first of all is at n
abbrev pub first_with : List ℕ → (place : ℕ) → List (ℕ × List ℕ) → Option ℕ
first_with text n [] = None
first_with text n (l ∷ ls) = if bytes_eq l.1 text then Some n else first_with text (n + 1) ls

abbrev pub number_or_other : Option ℤ → Kind
number_or_other (Some n) = kind.Number n
number_or_other None = kind.Other

abbrev pub number_kind : List ℕ → Kind
number_kind text = number_or_other (number_of text)

abbrev pub name_or_other : List ℕ → Option ℕ → Kind
name_or_other text (Some n) = name_kind_of text n
name_or_other text None = kind.Other

-- A name is known by the first lexeme that is the same.
abbrev pub name_kind : List ℕ → List (ℕ × List ℕ) → Kind
name_kind text all = name_or_other text (first_with text 0 all)

abbrev pub other_kind : List ℕ → List (ℕ × List ℕ) → Kind
other_kind [] all = kind.Other
other_kind (b ∷ bs) all = if is_digit b then number_kind (b ∷ bs) else (if is_letter b then name_kind (b ∷ bs) all else kind.Other)

abbrev pub kind_or : Option Kind → Kind → Kind
kind_or (Some k) k' = k
kind_or None k' = k'

abbrev pub kind_of : List ℕ → List (ℕ × List ℕ) → Kind
kind_of text all = kind_or (kind_named text) (other_kind text all)

-- The token of a lexeme, if it has one. What is a width behind `:` is a name elsewhere.
abbrev pub token_of : List (ℕ × List ℕ) → ℕ × List ℕ → List Token
token_of all l = if is_blank l.1 then [] else record { kind = kind_of l.1 all; at = l.0; bits = width_of l.1 } ∷ []

-- the token of each lexeme
abbrev pub each_token : List ℕ → List Token
each_token text = flat_map (token_of (lexemes_of text)) (lexemes_of text)

abbrev pub tokens_of : List ℕ → List Token
tokens_of text = settled (unbroken (each_token text))
