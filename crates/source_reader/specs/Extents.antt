-- How far what gives a value reaches, and whether it stands alone.
use Rattle.std.specs.Prelude.{ℕ, ◌+◌, ◌-◌, ◌==◌, ◌&&◌, ◌||◌, Bool, true, false, List, [], ◌∷◌, drop, length, Option, Some, None, is_some, if◌then◌else◌}
use Rattle.source_tokens.specs.declared.tokens.Kind.{Kind}
use Rattle.source_tokens.specs.declared.tokens.Kind.TheVariants as kind
use Rattle.source_tokens.specs.declared.tokens.Token.{Token}
use Rattle.source_reader.specs.Givers.{giver_at}
use Rattle.source_reader.specs.Lines.{is_line_end, is_end}
use Rattle.source_reader.specs.Marks.{is_close_of}
use Rattle.source_reader.specs.Names.{Scope}
use Rattle.source_reader.specs.Ranges.{is_begin, after_block}

abbrev pub is_open : Kind → Bool
is_open kind.Open = true
is_open k = false

-- what follows the end of parentheses in which so many others have begun
abbrev pub after_parentheses : (inner : ℕ) → List Token → List Token
after_parentheses n [] = []
after_parentheses n (t ∷ ts) =
    if is_open t.kind then after_parentheses (n + 1) ts
    else (if is_close_of t.kind then (if n == 0 then ts else after_parentheses (n - 1) ts) else after_parentheses n ts)

-- what follows the first `{`
abbrev pub behind_begin : List Token → List Token
behind_begin [] = []
behind_begin (t ∷ ts) = if is_begin t.kind then ts else behind_begin ts

abbrev pub or_nothing : Option (List Token) → List Token
or_nothing (Some ts) = ts
or_nothing None = []

-- what follows the giver whose word stands before the tokens
abbrev pub giver_end : Kind → List Token → List Token
giver_end kind.Call ts = after_parentheses 0 (drop 1 (drop 1 ts))
giver_end kind.Isolate ts = after_parentheses 0 (drop 1 (drop 1 ts))
giver_end kind.Cancelled ts = after_parentheses 0 (drop 1 ts)
giver_end (kind.Gathers g) ts = or_nothing (after_block 0 (behind_begin ts))
giver_end k ts = drop 1 ts

-- whether a statement may end here
abbrev pub is_ended : List Token → Bool
is_ended [] = false
is_ended (t ∷ ts) = is_line_end t.kind || is_end t.kind

abbrev pub if_alone : Scope → List Token → ℕ
if_alone names [] = 0
if_alone names (t ∷ ts) = if is_some (giver_at names (t ∷ ts)) && is_ended (giver_end t.kind ts) then length (t ∷ ts) else 0

abbrev pub is_set : Kind → Bool
is_set kind.Set = true
is_set k = false

abbrev pub behind_set : List Token → List Token
behind_set [] = []
behind_set (t ∷ ts) = if is_set t.kind then ts else []

-- what a statement gives, behind its first token: what follows `=`, `return` or `give`
abbrev pub given_place : Kind → List Token → List Token
given_place kind.Let ts = behind_set (drop 1 ts)
given_place (kind.Name x) ts = behind_set ts
given_place kind.Return ts = ts
given_place kind.Give ts = ts
given_place k ts = []

-- Where a giver is all that the statement at the front gives: how many tokens are left there. Elsewhere it is 0.
abbrev pub alone : Scope → List Token → ℕ
alone names [] = 0
alone names (t ∷ ts) = if_alone names (given_place t.kind ts)
