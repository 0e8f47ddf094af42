-- Words and signs of the language.
use Rattle.std.specs.Prelude.{ℕ, List, [], ◌∷◌, Option, Some, None, if◌then◌else◌, codes}
use Rattle.std.specs.Str.{bytes_eq}
use Rattle.source_language.specs.declared.syntax.Operator.{Operator}
use Rattle.source_language.specs.declared.syntax.Operator.TheVariants as op
use Rattle.source_tokens.specs.declared.tokens.Sign.{Sign}
use Rattle.source_tokens.specs.declared.tokens.Sign.TheVariants as sign
use Rattle.source_tokens.specs.declared.tokens.Gathers.TheVariants as gathers
use Rattle.source_tokens.specs.declared.tokens.Part.TheVariants as part
use Rattle.source_tokens.specs.declared.tokens.Kind.{Kind}
use Rattle.source_tokens.specs.declared.tokens.Kind.TheVariants as kind

abbrev pub first_of : Option Kind → Option Kind → Option Kind
first_of (Some k) o = Some k
first_of None o = o

-- `fn`, `main` or `let`
abbrev pub opening_word : List ℕ → Option Kind
opening_word lexeme =
    if bytes_eq lexeme (codes "fn") then Some kind.Fn
    else if bytes_eq lexeme (codes "main") then Some kind.Main
    else if bytes_eq lexeme (codes "let") then Some kind.Let
    else None

-- `if`, `else` or `while`
abbrev pub choice_word : List ℕ → Option Kind
choice_word lexeme =
    if bytes_eq lexeme (codes "if") then Some kind.If
    else if bytes_eq lexeme (codes "else") then Some kind.Else
    else if bytes_eq lexeme (codes "while") then Some kind.While
    else None

-- `break`, `continue` or `return`
abbrev pub leaving_word : List ℕ → Option Kind
leaving_word lexeme =
    if bytes_eq lexeme (codes "break") then Some kind.Break
    else if bytes_eq lexeme (codes "continue") then Some kind.Continue
    else if bytes_eq lexeme (codes "return") then Some kind.Return
    else None

-- `slot`, `width` or `call`
abbrev pub asking_word : List ℕ → Option Kind
asking_word lexeme =
    if bytes_eq lexeme (codes "slot") then Some kind.Slot
    else if bytes_eq lexeme (codes "width") then Some kind.Width
    else if bytes_eq lexeme (codes "call") then Some kind.Call
    else None

-- `for`, `in` or `step`
abbrev pub counting_word : List ℕ → Option Kind
counting_word lexeme =
    if bytes_eq lexeme (codes "for") then Some kind.For
    else if bytes_eq lexeme (codes "in") then Some kind.In
    else if bytes_eq lexeme (codes "step") then Some kind.Step
    else None

-- `const`, `param` or `inline`
abbrev pub item_word : List ℕ → Option Kind
item_word lexeme =
    if bytes_eq lexeme (codes "const") then Some kind.Const
    else if bytes_eq lexeme (codes "param") then Some (kind.Param None)
    else if bytes_eq lexeme (codes "inline") then Some kind.Inline
    else None

-- the word of a parallel loop
abbrev pub gathering_word : List ℕ → Option Kind
gathering_word lexeme =
    if bytes_eq lexeme (codes "psum") then Some (kind.Gathers gathers.Sum)
    else if bytes_eq lexeme (codes "pmin") then Some (kind.Gathers gathers.Least)
    else if bytes_eq lexeme (codes "pmax") then Some (kind.Gathers gathers.Greatest)
    else None

-- `grain` or `give`
abbrev pub giving_word : List ℕ → Option Kind
giving_word lexeme =
    if bytes_eq lexeme (codes "grain") then Some kind.Grain
    else if bytes_eq lexeme (codes "give") then Some kind.Give
    else None

-- `spawn`, `wait` or `sync`
abbrev pub waiting_word : List ℕ → Option Kind
waiting_word lexeme =
    if bytes_eq lexeme (codes "spawn") then Some kind.Spawn
    else if bytes_eq lexeme (codes "wait") then Some kind.Wait
    else if bytes_eq lexeme (codes "sync") then Some kind.Sync
    else None

-- `group` or `cancel`
abbrev pub group_word : List ℕ → Option Kind
group_word lexeme =
    if bytes_eq lexeme (codes "group") then Some kind.Group
    else if bytes_eq lexeme (codes "cancel") then Some kind.Cancel
    else None

-- `isolate` or `post`
abbrev pub region_word : List ℕ → Option Kind
region_word lexeme =
    if bytes_eq lexeme (codes "isolate") then Some kind.Isolate
    else if bytes_eq lexeme (codes "post") then Some kind.Post
    else None

-- `cell` or `cancelled`
abbrev pub cell_word : List ℕ → Option Kind
cell_word lexeme =
    if bytes_eq lexeme (codes "cell") then Some kind.Cell
    else if bytes_eq lexeme (codes "cancelled") then Some kind.Cancelled
    else None

-- a part of a cell
abbrev pub part_word : List ℕ → Option Kind
part_word lexeme =
    if bytes_eq lexeme (codes ".local") then Some (kind.Part part.Local)
    else if bytes_eq lexeme (codes ".sum") then Some (kind.Part part.Sum)
    else if bytes_eq lexeme (codes ".count") then Some (kind.Part part.Count)
    else None

-- a word of what tasks share, or of regions
abbrev pub shared_word : List ℕ → Option Kind
shared_word lexeme = first_of (region_word lexeme) (first_of (cell_word lexeme) (part_word lexeme))

-- a word of tasks and their groups, or of what tasks share
abbrev pub task_word : List ℕ → Option Kind
task_word lexeme = first_of (waiting_word lexeme) (first_of (group_word lexeme) (shared_word lexeme))

-- a word of parallel loops, of tasks and their groups, or of what tasks share
abbrev pub parallel_word : List ℕ → Option Kind
parallel_word lexeme = first_of (gathering_word lexeme) (first_of (giving_word lexeme) (task_word lexeme))

-- a word of counting loops, of what stands above functions, or of what runs in parallel
abbrev pub later_word : List ℕ → Option Kind
later_word lexeme = first_of (counting_word lexeme) (first_of (item_word lexeme) (parallel_word lexeme))

-- a word that is taken
abbrev pub word_named : List ℕ → Option Kind
word_named lexeme = first_of (opening_word lexeme) (first_of (choice_word lexeme) (first_of (leaving_word lexeme) (first_of (asking_word lexeme) (later_word lexeme))))

-- a sign that is no operator
abbrev pub mark_named : List ℕ → Option Kind
mark_named lexeme =
    if bytes_eq lexeme (10 ∷ []) then Some kind.LineEnd
    else if bytes_eq lexeme (codes ";") then Some kind.Semicolon
    else if bytes_eq lexeme (codes "(") then Some kind.Open
    else if bytes_eq lexeme (codes ")") then Some kind.Close
    else if bytes_eq lexeme (codes "{") then Some kind.Begin
    else if bytes_eq lexeme (codes "}") then Some kind.End
    else if bytes_eq lexeme (codes ",") then Some kind.Comma
    else if bytes_eq lexeme (codes ":") then Some kind.Colon
    else if bytes_eq lexeme (codes "..") then Some kind.Range
    else if bytes_eq lexeme (codes "=") then Some kind.Set
    else if bytes_eq lexeme (codes "!") then Some kind.Not
    else if bytes_eq lexeme (codes "~") then Some kind.Complement
    else if bytes_eq lexeme (codes "@") then Some kind.At
    else None

-- an operator
abbrev pub sign_named : List ℕ → Option Sign
sign_named lexeme =
    if bytes_eq lexeme (codes "||") then Some sign.Or
    else if bytes_eq lexeme (codes "&&") then Some sign.And
    else if bytes_eq lexeme (codes "==") then Some sign.Equal
    else if bytes_eq lexeme (codes "!=") then Some sign.Unequal
    else if bytes_eq lexeme (codes "<") then Some sign.Below
    else if bytes_eq lexeme (codes "<=") then Some sign.AtMost
    else if bytes_eq lexeme (codes ">") then Some sign.Above
    else if bytes_eq lexeme (codes ">=") then Some sign.AtLeast
    else if bytes_eq lexeme (codes "+") then Some sign.Plus
    else if bytes_eq lexeme (codes "-") then Some sign.Minus
    else if bytes_eq lexeme (codes "*") then Some sign.Times
    else if bytes_eq lexeme (codes "/") then Some sign.Over
    else if bytes_eq lexeme (codes "%") then Some sign.Remainder
    else if bytes_eq lexeme (codes "&") then Some sign.BitAnd
    else if bytes_eq lexeme (codes "|") then Some sign.BitOr
    else if bytes_eq lexeme (codes "^") then Some sign.BitXor
    else if bytes_eq lexeme (codes "<<") then Some sign.ShiftLeft
    else if bytes_eq lexeme (codes ">>") then Some sign.ShiftRight
    else None

-- an operator with `=`
abbrev pub update_named : List ℕ → Option Operator
update_named lexeme =
    if bytes_eq lexeme (codes "+=") then Some op.Plus
    else if bytes_eq lexeme (codes "-=") then Some op.Minus
    else if bytes_eq lexeme (codes "*=") then Some op.Times
    else if bytes_eq lexeme (codes "/=") then Some op.Over
    else if bytes_eq lexeme (codes "%=") then Some op.Remainder
    else if bytes_eq lexeme (codes "&=") then Some op.BitAnd
    else if bytes_eq lexeme (codes "|=") then Some op.BitOr
    else if bytes_eq lexeme (codes "^=") then Some op.BitXor
    else if bytes_eq lexeme (codes "<<=") then Some op.ShiftLeft
    else if bytes_eq lexeme (codes ">>=") then Some op.ShiftRight
    else None

abbrev pub update_kind : Option Operator → Option Kind
update_kind (Some o) = Some (kind.Update o)
update_kind None = None

abbrev pub sign_kind_of : Option Sign → List ℕ → Option Kind
sign_kind_of (Some s) lexeme = Some (kind.Sign s)
sign_kind_of None lexeme = update_kind (update_named lexeme)

abbrev pub sign_kind : List ℕ → Option Kind
sign_kind lexeme = sign_kind_of (sign_named lexeme) lexeme

abbrev pub kind_named : List ℕ → Option Kind
kind_named lexeme = first_of (word_named lexeme) (first_of (mark_named lexeme) (sign_kind lexeme))
