-- The widths of parameters, behind `:`; 0 stands for none.
use Rattle.std.specs.Prelude.{ℕ, zero, suc, ◌==◌, Bool, true, false, List, [], ◌∷◌, ◌++◌, drop, Option, Some, None, if◌then◌else◌}
use Rattle.source_tokens.specs.declared.tokens.Kind.{Kind}
use Rattle.source_tokens.specs.declared.tokens.Kind.TheVariants as kind
use Rattle.source_tokens.specs.declared.tokens.Token.{Token}
use Rattle.source_reader.specs.declared.widths.TheConstants.{MOST_PARAMETERS}
use Rattle.source_reader.specs.Marks.{is_close}

abbrev pub is_colon : Kind → Bool
is_colon kind.Colon = true
is_colon k = false

abbrev pub is_comma_of : Kind → Bool
is_comma_of kind.Comma = true
is_comma_of k = false

abbrev pub is_comma : List Token → Bool
is_comma [] = false
is_comma (t ∷ ts) = is_comma_of t.kind

-- Behind `:`: the width, and the tokens after it, if there is one.
abbrev pub width_behind : List Token → Option (ℕ × List Token)
width_behind [] = None
width_behind (t ∷ ts) = if t.bits == 0 then None else Some (t.bits, ts)

-- behind the name of a parameter
abbrev pub width_in : List Token → Option (ℕ × List Token)
width_in [] = Some (0, [])
width_in (t ∷ ts) = if is_colon t.kind then width_behind ts else Some (0, t ∷ ts)

abbrev pub width_or : Option (ℕ × List Token) → List Token → ℕ × List Token
width_or (Some x) ts = x
width_or None ts = (0, drop 1 (drop 1 ts))

-- The same, where 0 stands for what is no width, too.
abbrev pub width_or_none : List Token → ℕ × List Token
width_or_none ts = width_or (width_in ts) ts

abbrev pub one_width : (List ℕ → List Token → List ℕ) → (before : List ℕ) → ℕ × List Token → List ℕ
one_width next before x = if is_comma x.1 then next (before ++ x.0 ∷ []) (drop 1 x.1) else before ++ x.0 ∷ []

-- with those of so many parameters more at most, of which the first begins here
unfoldable pub widths_from : ℕ → (before : List ℕ) → List Token → List ℕ
widths_from zero before ts = before
widths_from (suc n) before ts = one_width (widths_from n) before (width_or_none (drop 1 ts))

-- Behind `(`: the widths of all parameters, up to what is no list of them.
abbrev pub widths_in : List Token → List ℕ
widths_in ts = if is_close ts then [] else widths_from MOST_PARAMETERS [] ts
