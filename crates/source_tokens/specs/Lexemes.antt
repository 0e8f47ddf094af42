-- Lexemes: the pieces of a source, each with where it begins. A lexeme is a word, a point and a word, a comment, a sign, or one byte.
use Rattle.std.specs.Prelude.{ℕ, zero, suc, ◌+◌, ◌-◌, ◌==◌, ◌&&◌, ◌||◌, Bool, false, List, [], ◌∷◌, take, if◌then◌else◌}
use Rattle.source_tokens.specs.declared.lexemes.Lexeme.{Lexeme}
use Rattle.source_tokens.specs.Bytes.{is_letter, is_word, word_len, line_len}

abbrev pub view_lexeme : Lexeme → ℕ × List ℕ
view_lexeme l = (l.at, l.text.now)

-- whether two bytes are one sign
abbrev pub is_pair : ℕ → ℕ → Bool
is_pair a b =
    if a == 61 then b == 61
    else if a == 33 then b == 61
    else if a == 60 then b == 61 || b == 60
    else if a == 62 then b == 61 || b == 62
    else if a == 38 then b == 61 || b == 38
    else if a == 124 then b == 61 || b == 124
    else if a == 43 then b == 61
    else if a == 45 then b == 61
    else if a == 42 then b == 61 || b == 42
    else if a == 47 then b == 61
    else if a == 37 then b == 61
    else if a == 94 then b == 61
    else if a == 46 then b == 46
    else false

-- `#`, or `//`
abbrev pub is_comment : ℕ → List ℕ → Bool
is_comment a [] = a == 35
is_comment a (b ∷ bs) = a == 35 || (a == 47 && b == 47)

-- whether two bytes and those behind them begin with `<<=` or `>>=`
abbrev pub is_triple : ℕ → ℕ → List ℕ → Bool
is_triple a b [] = false
is_triple a b (c ∷ cs) = ((a == 60 && b == 60) || (a == 62 && b == 62)) && c == 61

abbrev pub sign_len : ℕ → List ℕ → ℕ
sign_len a [] = 1
sign_len a (b ∷ bs) = if is_triple a b bs then 3 else (if is_pair a b then 2 else 1)

-- whether a part of a cell begins with this byte, before the others
abbrev pub is_part : ℕ → List ℕ → Bool
is_part a [] = false
is_part a (b ∷ bs) = a == 46 && is_letter b

abbrev pub mark_len : ℕ → List ℕ → ℕ
mark_len a bs = if is_part a bs then 1 + word_len bs else sign_len a bs

-- the length of the lexeme at the front
abbrev pub lexeme_len : List ℕ → ℕ
lexeme_len [] = 1
lexeme_len (b ∷ bs) = if is_word b then word_len (b ∷ bs) else (if is_comment b bs then line_len (b ∷ bs) else mark_len b bs)

-- The first bytes are still in the lexeme before; the next lexeme begins behind it.
unfoldable pub lexemes_at : (skip at : ℕ) → List ℕ → List (ℕ × List ℕ)
lexemes_at skip at [] = []
lexemes_at (suc k) at (b ∷ bs) = lexemes_at k (at + 1) bs
lexemes_at zero at (b ∷ bs) = (at, take (lexeme_len (b ∷ bs)) (b ∷ bs)) ∷ lexemes_at (lexeme_len (b ∷ bs) - 1) (at + 1) bs

abbrev pub lexemes_of : List ℕ → List (ℕ × List ℕ)
lexemes_of text = lexemes_at 0 0 text
