-- Numbers that params are given from outside, in place of those in the text.
use Rattle.std.specs.Prelude.{ℕ, ℤ, ◌&&◌, ◌||◌, Bool, true, false, List, [], ◌∷◌, take, drop, Option, Some, None, if◌then◌else◌}
use Rattle.std.specs.Str.{bytes_eq}
use Rattle.source_tokens.specs.declared.givens.Given.{Given}
use Rattle.source_tokens.specs.declared.tokens.Kind.{Kind}
use Rattle.source_tokens.specs.declared.tokens.Kind.TheVariants as kind
use Rattle.source_tokens.specs.declared.tokens.Token.{Token}
use Rattle.source_tokens.specs.Bytes.{word_len}
use Rattle.source_tokens.specs.Tokens.{tokens_of}

-- names, each with the number that it is given
abbrev pub Givens : Type 0
Givens = List (List ℕ × ℤ)

abbrev pub view_given : Given → List ℕ × ℤ
view_given g = (g.name.now, g.number)

-- the word that begins at a place of a text
abbrev pub word_at : (at : ℕ) → List ℕ → List ℕ
word_at at text = take (word_len (drop at text)) (drop at text)

-- the word of the first token
abbrev pub first_word : (text : List ℕ) → List Token → List ℕ
first_word text [] = []
first_word text (t ∷ ts) = word_at t.at text

abbrev pub if_other : (later : Option ℤ) → Option ℤ → Option ℤ
if_other (Some z) o = Some z
if_other None o = o

-- the number that a name is given; if it is given several, the last one
abbrev pub given_to : (name : List ℕ) → Givens → Option ℤ
given_to name [] = None
given_to name (g ∷ gs) = if_other (given_to name gs) (if bytes_eq g.0 name then Some g.1 else None)

-- `param` with the number that the name behind it is given; every other token is as it was
abbrev pub given_kind : (text : List ℕ) → Givens → Kind → (rest : List Token) → Kind
given_kind text gs (kind.Param o) ts = kind.Param (given_to (first_word text ts) gs)
given_kind text gs k ts = k

abbrev pub given_from : (text : List ℕ) → Givens → List Token → List Token
given_from text gs [] = []
given_from text gs (t ∷ ts) = record { kind = given_kind text gs t.kind ts; at = t.at; bits = t.bits } ∷ given_from text gs ts

-- the tokens of a text whose params are given these numbers
abbrev pub tokens_with : Givens → List ℕ → List Token
tokens_with gs text = given_from text gs (tokens_of text)

abbrev pub is_param : Kind → Bool
is_param (kind.Param o) = true
is_param k = false

-- whether there is a `param` of that name
abbrev pub has_param : (text name : List ℕ) → List Token → Bool
has_param text name [] = false
has_param text name (t ∷ ts) = (is_param t.kind && bytes_eq (first_word text ts) name) || has_param text name ts

-- whether each of these names is that of a `param`
abbrev pub are_params : (text : List ℕ) → Givens → List Token → Bool
are_params text [] ts = true
are_params text (g ∷ gs) ts = has_param text g.0 ts && are_params text gs ts
