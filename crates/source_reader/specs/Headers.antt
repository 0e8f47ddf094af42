-- The functions that tokens declare, in order.
use Rattle.std.specs.Prelude.{ℕ, ◌==◌, ◌&&◌, not, Bool, true, false, List, [], ◌∷◌, ◌++◌, drop, length, Option, Some, None, is_some, if◌then◌else◌}
use Rattle.source_tokens.specs.declared.tokens.Gathers.{Gathers}
use Rattle.source_tokens.specs.declared.tokens.Kind.{Kind}
use Rattle.source_tokens.specs.declared.tokens.Kind.TheVariants as kind
use Rattle.source_tokens.specs.declared.tokens.Token.{Token}
use Rattle.source_reader.specs.declared.headers.Title.{Title}
use Rattle.source_reader.specs.declared.headers.Title.TheVariants as title
use Rattle.source_reader.specs.Names.{number_after}
use Rattle.source_reader.specs.Trees.{HeaderTree, CalleeTree}
use Rattle.source_reader.specs.Widths.{widths_in}

abbrev pub is_fn : Kind → Bool
is_fn kind.Fn = true
is_fn k = false

abbrev pub is_inline : Kind → Bool
is_inline kind.Inline = true
is_inline k = false

-- whether a function begins with this token, and not an inline one, for which there is `inline` before `fn`
abbrev pub begins : (behind_inline : Bool) → Kind → Bool
begins behind_inline k = is_fn k && not behind_inline

abbrev pub title_of : Kind → Title
title_of kind.Main = title.Main
title_of (kind.Name x) = title.Name x
title_of k = title.Missing

abbrev pub title_at : List Token → Title
title_at [] = title.Missing
title_at (t ∷ ts) = title_of t.kind

-- behind `fn`
abbrev pub header_of : List Token → HeaderTree
header_of ts = record { title = title_at ts; widths = widths_in (drop 1 (drop 1 ts)) }

abbrev pub headers_behind : (behind_inline : Bool) → List Token → List HeaderTree
headers_behind b [] = []
headers_behind b (t ∷ ts) = if begins b t.kind then header_of ts ∷ headers_behind (is_inline t.kind) ts else headers_behind (is_inline t.kind) ts

abbrev pub gathers_of : Kind → Option Gathers
gathers_of (kind.Gathers g) = Some g
gathers_of k = None

-- the functions of parallel loops: each is known by how many tokens are behind its word, and no call with parameters names it
abbrev pub gathering_headers : List Token → List HeaderTree
gathering_headers [] = []
gathering_headers (t ∷ ts) = if is_some (gathers_of t.kind) then record { title = title.Gathering (length ts); widths = [] } ∷ gathering_headers ts else gathering_headers ts

-- first those of the source, and then those of parallel loops
abbrev pub headers_of : List Token → List HeaderTree
headers_of ts = headers_behind false ts ++ gathering_headers ts

abbrev pub is_same : Title → Title → Bool
is_same title.Main title.Main = true
is_same (title.Name x) (title.Name y) = x == y
is_same (title.Gathering n) (title.Gathering m) = n == m
is_same s t = false

-- the first function of that title, if the first of all has that number
abbrev pub callee_in : Title → List HeaderTree → (number : ℕ) → Option CalleeTree
callee_in t [] n = None
callee_in t (h ∷ hs) n = if is_same t h.title then Some (record { number = n; widths = h.widths }) else callee_in t hs (number_after n)
