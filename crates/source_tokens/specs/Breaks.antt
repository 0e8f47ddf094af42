-- Broken lines: inside parentheses, and behind what a value follows, the end of a line is no token.
use Rattle.std.specs.Prelude.{◌-◌, ◌||◌, Bool, true, false, List, [], ◌∷◌, ◌++◌, length, take, Option, Some, slice_get, if◌then◌else◌}
use Rattle.source_tokens.specs.declared.breaks.Before.{Before}
use Rattle.source_tokens.specs.declared.breaks.Before.TheVariants as before
use Rattle.source_tokens.specs.declared.breaks.Bracket.{Bracket}
use Rattle.source_tokens.specs.declared.breaks.Bracket.TheVariants as bracket
use Rattle.source_tokens.specs.declared.tokens.Kind.{Kind}
use Rattle.source_tokens.specs.declared.tokens.Kind.TheVariants as kind
use Rattle.source_tokens.specs.declared.tokens.Sign.{Sign}
use Rattle.source_tokens.specs.declared.tokens.Sign.TheVariants as sign
use Rattle.source_tokens.specs.declared.tokens.Token.{Token}

-- A minus sign is an operator between two values only behind one.
abbrev pub behind_sign : Before → Sign → Before
behind_sign before.Value sign.Minus = before.Operator
behind_sign b sign.Minus = before.Other
behind_sign b s = before.Operator

-- what a token is for the one behind it: what a value may end with, what a line may be broken behind, or another one
abbrev pub behind : Before → Kind → Before
behind b (kind.Sign s) = behind_sign b s
behind b (kind.Update o) = before.Operator
behind b kind.Set = before.Operator
behind b kind.Range = before.Operator
behind b (kind.Number n) = before.Value
behind b (kind.Name x) = before.Value
behind b (kind.BuiltIn f x) = before.Value
behind b (kind.Part p) = before.Value
behind b kind.Close = before.Value
behind b kind.End = before.Value
behind b k = before.Other

-- the brackets that are open behind a token, the innermost last; one that closes closes the innermost, whichever it is
abbrev pub opened_behind : Kind → List Bracket → List Bracket
opened_behind kind.Open bs = bs ++ bracket.Parenthesis ∷ []
opened_behind kind.Begin bs = bs ++ bracket.Brace ∷ []
opened_behind kind.Close bs = take (length bs - 1) bs
opened_behind kind.End bs = take (length bs - 1) bs
opened_behind k bs = bs

abbrev pub is_operator : Before → Bool
is_operator before.Operator = true
is_operator b = false

abbrev pub is_parenthesis : Option Bracket → Bool
is_parenthesis (Some bracket.Parenthesis) = true
is_parenthesis b = false

-- whether a line is broken here, where these brackets are open
abbrev pub is_break : List Bracket → Before → Kind → Bool
is_break bs b kind.LineEnd = is_operator b || is_parenthesis (slice_get bs (length bs - 1))
is_break bs b k = false

unfoldable pub unbroken_from : List Bracket → Before → List Token → List Token
unbroken_from bs b [] = []
unbroken_from bs b (t ∷ ts) = if is_break bs b t.kind then unbroken_from bs b ts else t ∷ unbroken_from (opened_behind t.kind bs) (behind b t.kind) ts

-- the tokens, but for the line ends at which a line is broken
abbrev pub unbroken : List Token → List Token
unbroken ts = unbroken_from [] before.Other ts
