-- Functions.
use Rattle.std.specs.Prelude.{ℕ, zero, suc, ◌==◌, ◌||◌, nat_lt, Bool, true, false, List, [], ◌∷◌, ◌++◌, drop, Option, Some, None, Result, Ok, Err, if◌then◌else◌}
use Rattle.source_language.specs.declared.syntax.Maker.{Maker}
use Rattle.source_language.specs.declared.syntax.Maker.TheVariants as maker
use Rattle.source_tokens.specs.declared.tokens.Kind.{Kind}
use Rattle.source_tokens.specs.declared.tokens.Kind.TheVariants as kind
use Rattle.source_tokens.specs.declared.tokens.Token.{Token}
use Rattle.source_reader.specs.declared.faults.Fault.{Fault}
use Rattle.source_reader.specs.declared.faults.Wrong.TheVariants as wrong
use Rattle.source_reader.specs.declared.functions.Named.{Named}
use Rattle.source_reader.specs.Faults.{◌>>=◌, fault_at}
use Rattle.source_reader.specs.Trees.{StmtTree, FunctionTree, function_tree_of, SkipTree, ThenTree, AssignTree, IfTree, LoopTree, RepeatTree, BreakTree, ContinueTree, ReturnTree, MakeTree, WaitTree}
use Rattle.source_reader.specs.Trees.{CancelTree, ReadTree, StoreTree}
use Rattle.source_reader.specs.Names.{Scope, number_after}
use Rattle.source_reader.specs.Lines.{after_line_ends, free_name, item_ended}
use Rattle.source_reader.specs.Marks.{unexpected, after_open}
use Rattle.source_reader.specs.Widths.{widths_in}
use Rattle.source_reader.specs.Layouts.{first_variable, with_unpacking}
use Rattle.source_reader.specs.Bodies.{inside_at}

abbrev pub larger : ℕ → ℕ → ℕ
larger a b = if nat_lt a b then b else a

-- with what is given a value, if something is
abbrev pub given : Option ℕ → ℕ
given None = 0
given (Some x) = number_after x

-- with the one that the value of a region goes to
abbrev pub made_for : Maker → ℕ
made_for (maker.Isolate d) = number_after d
made_for m = 0

-- how many variables a statement needs that was read
abbrev pub variables_of : StmtTree → ℕ
variables_of SkipTree = 0
variables_of (ThenTree a b) = larger (variables_of a) (variables_of b)
variables_of (AssignTree x e) = number_after x
variables_of (IfTree c a b) = larger (variables_of a) (variables_of b)
variables_of (LoopTree c a b) = larger (variables_of a) (variables_of b)
variables_of (RepeatTree c a b) = larger (variables_of a) (variables_of b)
variables_of (BreakTree k) = 0
variables_of (ContinueTree k) = 0
variables_of (ReturnTree e) = 0
variables_of (MakeTree m p a b) = made_for m
variables_of (WaitTree d e g) = larger (given d) (given e)
variables_of (CancelTree g) = 0
variables_of (ReadTree d q) = number_after d
variables_of (StoreTree k e) = 0

-- No constant, no cell and no inline function stands below a function.
abbrev pub after_fn_of : Kind → List Token → List Token → Result (List Token) Fault
after_fn_of kind.Fn rest ts = Ok rest
after_fn_of kind.Const rest ts = Err (fault_at ts wrong.LateItem)
after_fn_of (kind.Param o) rest ts = Err (fault_at ts wrong.LateItem)
after_fn_of kind.Cell rest ts = Err (fault_at ts wrong.LateItem)
after_fn_of kind.Inline rest ts = Err (fault_at ts wrong.LateItem)
after_fn_of k rest ts = unexpected ts

abbrev pub after_fn : List Token → Result (List Token) Fault
after_fn [] = unexpected []
after_fn (t ∷ ts) = after_fn_of t.kind ts (t ∷ ts)

abbrev pub is_this : ℕ → Option ℕ → Bool
is_this x None = false
is_this x (Some y) = y == x

abbrev pub is_known : ℕ → List (Option ℕ) → Bool
is_known x [] = false
is_known x (first ∷ others) = is_this x first || is_known x others

abbrev pub main_first : List (Option ℕ) → List Token → Result (Option ℕ) Fault
main_first [] ts = Ok None
main_first (first ∷ others) ts = Err (fault_at ts wrong.KnownFunction)

-- the name of a function, which no other function has, and no constant or cell
abbrev pub new_function : (is_there : Bool) → Scope → List Token → Result (Option ℕ) Fault
new_function true names ts = Err (fault_at ts wrong.KnownFunction)
new_function false names ts = free_name names ts >>= λ x. Ok (Some x)

-- A name is no number for `main`, which only the first function may be called.
abbrev pub function_name_of : Kind → Scope → List (Option ℕ) → List Token → Result (Option ℕ) Fault
function_name_of kind.Main names known ts = main_first known ts
function_name_of (kind.Name x) names known ts = new_function (is_known x known) names ts
function_name_of k names known ts = unexpected ts

abbrev pub function_name : Scope → List (Option ℕ) → List Token → Result (Option ℕ) Fault
function_name names known [] = unexpected []
function_name names known (t ∷ ts) = function_name_of t.kind names known (t ∷ ts)

-- a function with parameters of these widths, and with that body
abbrev pub function_of : (widths : List ℕ) → StmtTree → FunctionTree
function_of bs s = record { variables = larger 2 (variables_of (with_unpacking bs s)); body = with_unpacking bs s }

abbrev pub is_first : List (Option ℕ) → Bool
is_first [] = true
is_first (first ∷ others) = false

-- a function, its name, and what follows it
pub record NamedTree : Type 0 where
  pub name : Option ℕ
  pub function : FunctionTree
  pub rest : List Token

abbrev pub view_named : Named → NamedTree
view_named n = record { name = n.name; function = function_tree_of n.function; rest = n.rest.now }

abbrev pub function_at : Scope → List (Option ℕ) → List Token → Result NamedTree Fault
function_at names known ts = do
  named ← after_fn ts
  name ← function_name names known named
  inside ← after_open (drop 1 named)
  body ← inside_at (is_first known) names (first_variable (widths_in inside)) inside
  Ok (record { name = name; function = function_of (widths_in inside) body.0; rest = body.1 })

abbrev pub Items : Type 0
Items = List (Option ℕ) → List FunctionTree → List Token → Result (List FunctionTree) Fault

abbrev pub one_more : Items → Scope → Items
one_more next names known before [] = Ok before
one_more next names known before (t ∷ ts) = do
  f ← function_at names known (t ∷ ts)
  rest ← item_ended f.rest
  next (known ++ f.name ∷ []) (before ++ f.function ∷ []) rest

abbrev pub no_more : List FunctionTree → List Token → Result (List FunctionTree) Fault
no_more before [] = Ok before
no_more before (t ∷ ts) = Err (fault_at (t ∷ ts) wrong.TooManyFunctions)

-- so many functions at most, behind those before, which see these constants and cells
unfoldable pub functions_from : ℕ → Scope → Items
functions_from zero names known before ts = no_more before (after_line_ends ts)
functions_from (suc n) names known before ts = one_more (functions_from n names) names known before (after_line_ends ts)
