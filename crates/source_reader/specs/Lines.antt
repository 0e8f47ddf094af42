-- Parts of statements, and what statements are made of them.
use Rattle.std.specs.Prelude.{ℕ, pos, Bool, true, false, ◌&&◌, ◌||◌, List, [], ◌∷◌, Option, Some, None, Result, Ok, Err, if◌then◌else◌}
use Rattle.source_tokens.specs.declared.tokens.Kind.{Kind}
use Rattle.source_tokens.specs.declared.tokens.Kind.TheVariants as kind
use Rattle.source_tokens.specs.declared.tokens.Token.{Token}
use Rattle.source_reader.specs.declared.faults.Fault.{Fault}
use Rattle.source_reader.specs.Trees.{ValueTree, StmtTree, Constant, NumberTree, TruthTree, SkipTree, ThenTree, AssignTree, IfTree, LoopTree, RepeatTree, BreakTree, ContinueTree, ReturnTree, MakeTree}
use Rattle.source_reader.specs.Trees.{WaitTree, CancelTree, ReadTree, StoreTree}
use Rattle.source_reader.specs.declared.faults.Wrong.TheVariants as wrong
use Rattle.source_reader.specs.Faults.{◌>>=◌, fault_at}
use Rattle.source_reader.specs.Names.{Scope, is_taken}
use Rattle.source_reader.specs.Marks.{unexpected}

-- A comparison is 1 or 0.
abbrev pub assigned : ℕ → ValueTree → StmtTree
assigned x (NumberTree e) = AssignTree x e
assigned x (TruthTree t) = IfTree t (AssignTree x (Constant (pos 1))) (AssignTree x (Constant (pos 0)))

abbrev pub returned : ValueTree → StmtTree
returned (NumberTree e) = ReturnTree e
returned (TruthTree t) = IfTree t (ReturnTree (Constant (pos 1))) (ReturnTree (Constant (pos 0)))

-- whether what follows is never reached
abbrev pub leaves : StmtTree → Bool
leaves SkipTree = false
leaves (ThenTree a b) = leaves a || leaves b
leaves (AssignTree x e) = false
leaves (IfTree c a b) = leaves a && leaves b
leaves (LoopTree c b s) = false
leaves (RepeatTree c b s) = false
leaves (BreakTree k) = true
leaves (ContinueTree k) = true
leaves (ReturnTree e) = true
leaves (MakeTree m p a b) = false
leaves (WaitTree d e g) = false
leaves (CancelTree g) = false
leaves (ReadTree d q) = false
leaves (StoreTree k e) = false

abbrev pub after_begin_of : Kind → List Token → List Token → Result (List Token) Fault
after_begin_of kind.Begin rest ts = Ok rest
after_begin_of k rest ts = unexpected ts

abbrev pub after_begin : List Token → Result (List Token) Fault
after_begin [] = unexpected []
after_begin (t ∷ ts) = after_begin_of t.kind ts (t ∷ ts)

abbrev pub after_set_of : Kind → List Token → List Token → Result (List Token) Fault
after_set_of kind.Set rest ts = Ok rest
after_set_of k rest ts = unexpected ts

abbrev pub after_set : List Token → Result (List Token) Fault
after_set [] = unexpected []
after_set (t ∷ ts) = after_set_of t.kind ts (t ∷ ts)

abbrev pub after_in_of : Kind → List Token → List Token → Result (List Token) Fault
after_in_of kind.In rest ts = Ok rest
after_in_of k rest ts = unexpected ts

abbrev pub after_in : List Token → Result (List Token) Fault
after_in [] = unexpected []
after_in (t ∷ ts) = after_in_of t.kind ts (t ∷ ts)

abbrev pub after_range_of : Kind → List Token → List Token → Result (List Token) Fault
after_range_of kind.Range rest ts = Ok rest
after_range_of k rest ts = unexpected ts

abbrev pub after_range : List Token → Result (List Token) Fault
after_range [] = unexpected []
after_range (t ∷ ts) = after_range_of t.kind ts (t ∷ ts)

abbrev pub after_comma_of : Kind → List Token → List Token → Result (List Token) Fault
after_comma_of kind.Comma rest ts = Ok rest
after_comma_of k rest ts = unexpected ts

abbrev pub after_comma : List Token → Result (List Token) Fault
after_comma [] = unexpected []
after_comma (t ∷ ts) = after_comma_of t.kind ts (t ∷ ts)

abbrev pub name_at_of : Kind → List Token → Result ℕ Fault
name_at_of (kind.Name x) ts = Ok x
name_at_of k ts = unexpected ts

abbrev pub name_at : List Token → Result ℕ Fault
name_at [] = unexpected []
name_at (t ∷ ts) = name_at_of t.kind (t ∷ ts)

-- a name at the front that can be declared
abbrev pub free_name : Scope → List Token → Result ℕ Fault
free_name names ts = name_at ts >>= λ x. if is_taken x names then Err (fault_at ts wrong.KnownName) else Ok x

abbrev pub is_line_end : Kind → Bool
is_line_end kind.LineEnd = true
is_line_end kind.Semicolon = true
is_line_end k = false

abbrev pub is_end : Kind → Bool
is_end kind.End = true
is_end k = false

abbrev pub after_line_ends : List Token → List Token
after_line_ends [] = []
after_line_ends (t ∷ ts) = if is_line_end t.kind then after_line_ends ts else t ∷ ts

-- A statement ends with its line, or before the end of its block.
abbrev pub ended : List Token → Result (List Token) Fault
ended [] = unexpected []
ended (t ∷ ts) = if is_line_end t.kind || is_end t.kind then Ok (t ∷ ts) else unexpected (t ∷ ts)

-- A function or a constant ends with its line, or with the text.
abbrev pub item_ended : List Token → Result (List Token) Fault
item_ended [] = Ok []
item_ended (t ∷ ts) = if is_line_end t.kind then Ok (t ∷ ts) else unexpected (t ∷ ts)

-- a statement that is only in loops, whose word is the first of the tokens
abbrev pub if_in_loop : Bool → StmtTree → List Token → List Token → Result (StmtTree × List Token) Fault
if_in_loop true s rest ts = Ok (s, rest)
if_in_loop false s rest ts = Err (fault_at ts wrong.NoLoop)

abbrev pub is_if_of : Kind → Bool
is_if_of kind.If = true
is_if_of k = false

abbrev pub is_if : List Token → Bool
is_if [] = false
is_if (t ∷ ts) = is_if_of t.kind

-- what follows the end of a block, if it is here
abbrev pub after_end : List Token → Option (List Token)
after_end [] = None
after_end (t ∷ ts) = if is_end t.kind then Some ts else None

abbrev pub is_else : Kind → Bool
is_else kind.Else = true
is_else k = false

-- what follows `else`, if it is here
abbrev pub after_else : List Token → Option (List Token)
after_else [] = None
after_else (t ∷ ts) = if is_else t.kind then Some ts else None

abbrev pub name_in : Kind → Option ℕ
name_in (kind.Name x) = Some x
name_in k = None

abbrev pub let_name_of : Kind → List Token → Option ℕ
let_name_of kind.Let [] = None
let_name_of kind.Let (t ∷ ts) = name_in t.kind
let_name_of kind.Group [] = None
let_name_of kind.Group (t ∷ ts) = name_in t.kind
let_name_of k ts = None

-- the name that the statement at the front declares
abbrev pub let_name : List Token → Option ℕ
let_name [] = None
let_name (t ∷ ts) = let_name_of t.kind ts
