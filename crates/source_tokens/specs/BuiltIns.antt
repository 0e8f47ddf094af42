-- Functions that the language has, unless the source has one of the same name.
use Rattle.std.specs.Prelude.{ℕ, ◌==◌, ◌&&◌, ◌||◌, not, Bool, true, false, List, [], ◌∷◌, Option, Some, None, codes, if◌then◌else◌}
use Rattle.std.specs.Str.{bytes_eq}
use Rattle.source_tokens.specs.declared.tokens.BuiltIn.{BuiltIn}
use Rattle.source_tokens.specs.declared.tokens.BuiltIn.TheVariants as built_in
use Rattle.source_tokens.specs.declared.tokens.Kind.{Kind}
use Rattle.source_tokens.specs.declared.tokens.Kind.TheVariants as kind
use Rattle.source_tokens.specs.declared.tokens.Token.{Token}

abbrev pub built_in_word : List ℕ → Option BuiltIn
built_in_word lexeme =
    if bytes_eq lexeme (codes "min") then Some built_in.Min
    else if bytes_eq lexeme (codes "max") then Some built_in.Max
    else if bytes_eq lexeme (codes "abs") then Some built_in.Abs
    else None

abbrev pub name_or_built_in : Option BuiltIn → ℕ → Kind
name_or_built_in (Some f) x = kind.BuiltIn f x
name_or_built_in None x = kind.Name x

-- a name that is known by its first lexeme, before it is settled whether it is a function that the language has
abbrev pub name_kind : List ℕ → ℕ → Kind
name_kind lexeme x = name_or_built_in (built_in_word lexeme) x

abbrev pub is_fn : Kind → Bool
is_fn kind.Fn = true
is_fn k = false

abbrev pub is_open_of : Kind → Bool
is_open_of kind.Open = true
is_open_of k = false

abbrev pub is_open : List Token → Bool
is_open [] = false
is_open (t ∷ ts) = is_open_of t.kind

abbrev pub has_name_of : ℕ → Kind → Bool
has_name_of x (kind.BuiltIn f y) = y == x
has_name_of x k = false

abbrev pub has_name : ℕ → List Token → Bool
has_name x [] = false
has_name x (t ∷ ts) = has_name_of x t.kind

-- whether a function of the source has that name, which stands behind its `fn`
abbrev pub is_own : ℕ → List Token → Bool
is_own x [] = false
is_own x (t ∷ ts) = (is_fn t.kind && has_name x ts) || is_own x ts

-- `min`, `max` and `abs` are names like others, but before `(`, if the source has no function of that name.
abbrev pub settled_kind : (all : List Token) → Kind → (rest : List Token) → Kind
settled_kind all (kind.BuiltIn f x) ts = if is_open ts && not (is_own x all) then kind.BuiltIn f x else kind.Name x
settled_kind all k ts = k

abbrev pub settled_from : (all left : List Token) → List Token
settled_from all [] = []
settled_from all (t ∷ ts) = record { kind = settled_kind all t.kind ts; at = t.at; bits = t.bits } ∷ settled_from all ts

abbrev pub settled : List Token → List Token
settled ts = settled_from ts ts
