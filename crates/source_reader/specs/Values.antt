-- Values: operators of nine levels between numbers, variables and values in parentheses.
use Rattle.std.specs.Prelude.{ℕ, zero, suc, ◌+◌, ◌-◌, ◌==◌, ◌||◌, nat_lt, pos, negsuc, int_le, Bool, true, List, [], ◌∷◌, ◌++◌, length, drop, Option, Some, None, Result, Ok, Err, if◌then◌else◌}
use Rattle.std.specs.Ordering.{int_eq}
use Rattle.source_tokens.specs.declared.tokens.Sign.{Sign}
use Rattle.source_tokens.specs.declared.tokens.Sign.TheVariants as sign
use Rattle.source_tokens.specs.declared.tokens.BuiltIn.{BuiltIn}
use Rattle.source_tokens.specs.declared.tokens.Kind.{Kind}
use Rattle.source_tokens.specs.declared.tokens.Kind.TheVariants as kind
use Rattle.source_tokens.specs.declared.tokens.Token.{Token}
use Rattle.source_reader.specs.declared.faults.Fault.{Fault}
use Rattle.source_reader.specs.declared.faults.Wrong.TheVariants as wrong
use Rattle.source_reader.specs.declared.values.TheConstants.{VALUE_FUEL}
use Rattle.source_reader.specs.Faults.{◌>>=◌, fault_at}
use Rattle.source_reader.specs.Trees.{ExprTree, ValueTree, InlineTree, Constant, Variable, SlotTree, WidthTree, NumberTree, TruthTree, NotTree}
use Rattle.source_reader.specs.declared.names.Meaning.{Meaning}
use Rattle.source_reader.specs.declared.names.Meaning.TheVariants as meaning
use Rattle.source_reader.specs.Names.{Scope, meaning_of, inline_of, asked_in}
use Rattle.source_reader.specs.Waits.{awaited_at}
use Rattle.source_reader.specs.Joining.{level_of, test_in, minus, complement, joined}
use Rattle.source_reader.specs.Marks.{unexpected, after_open, after_close, is_close, wrong_count, after_last, before_next}
use Rattle.source_reader.specs.Inlines.{given_in, inserted}
use Rattle.source_reader.specs.BuiltIns.{built_in}
use Rattle.source_reader.specs.Lines.{after_comma}

-- the operator of that level at the front
abbrev pub sign_of : ℕ → Kind → Option Sign
sign_of l (kind.Sign s) = if level_of s == l then Some s else None
sign_of l k = None

abbrev pub sign_at : ℕ → List Token → Option Sign
sign_at l [] = None
sign_at l (t ∷ ts) = sign_of l t.kind

-- What is read: a value of operators of that level and tighter ones; more of them behind a value; one without operators; or, behind arguments of an
-- inline function, or of one that the language has, one more and what is inserted.
pub data Wanted : Type 0 where
  Level : ℕ → Wanted
  More : ℕ → ValueTree → Wanted
  Single : Wanted
  Argument : InlineTree → (before : List ExprTree) → (called : List Token) → Wanted
  Operand : BuiltIn → (before : List ExprTree) → (called : List Token) → Wanted

-- a value, and the tokens after it
abbrev pub Read : Type 0
Read = Result (ValueTree × List Token) Fault

-- What a name is worth, which is the first of the tokens. No expression asks a cell.
abbrev pub worth : Meaning → List Token → Result ExprTree Fault
worth (meaning.Variable v) ts = Ok (Variable v)
worth (meaning.Counter v) ts = Ok (Variable v)
worth (meaning.Constant z) ts = Ok (Constant z)
worth (meaning.Awaited v) ts = Ok (Variable v)
worth (meaning.Closed v) ts = Err (fault_at ts wrong.GroupValue)
worth (meaning.Task t) ts = Err (fault_at ts wrong.NotWaited)
worth (meaning.OuterTask t) ts = Err (fault_at ts wrong.NotWaited)
worth (meaning.Cell k) ts = Err (fault_at ts wrong.CellValue)
worth meaning.Inline ts = unexpected ts

abbrev pub named : Option Meaning → List Token → List Token → Read
named None ts rest = Err (fault_at ts wrong.UnknownName)
named (Some m) ts rest = worth m ts >>= λ e. Ok (NumberTree e, rest)

-- Behind `wait`: the value of a task.
abbrev pub awaited_value : Scope → List Token → Read
awaited_value names ts = awaited_at names ts >>= λ v. Ok (NumberTree (Variable v), drop 1 ts)

abbrev pub more : (Wanted → List Token → Read) → ℕ → ValueTree → Option Sign → List Token → Read
more next l left None ts = Ok (left, ts)
more next l left (Some s) ts = do
  right ← next (Level (l + 1)) (drop 1 ts)
  both ← joined s left right.0 ts
  next (More l both) right.1

-- The opposite of 2^63 is a number, but not those of the numbers above.
abbrev pub has_opposite_of : Kind → Bool
has_opposite_of (kind.Number n) = int_le (pos 0) n || int_eq n (negsuc 9223372036854775807)
has_opposite_of k = true

abbrev pub has_opposite : List Token → Bool
has_opposite [] = true
has_opposite (t ∷ ts) = has_opposite_of t.kind

-- Behind a minus sign, which belongs to a number right behind it.
abbrev pub negative : (Wanted → List Token → Read) → List Token → List Token → Read
negative next ts rest = if has_opposite rest then (next Single rest >>= λ v. minus v.0 ts >>= λ x. Ok (x, v.1)) else unexpected rest

-- behind `~`
abbrev pub complemented : (Wanted → List Token → Read) → List Token → List Token → Read
complemented next ts rest = do
  v ← next Single rest
  x ← complement v.0 ts
  Ok (x, v.1)

abbrev pub bracketed : (Wanted → List Token → Read) → List Token → Read
bracketed next rest = do
  v ← next (Level 0) rest
  after ← after_close v.1
  Ok (v.0, after)

abbrev pub without_arguments : ExprTree → List Token → Read
without_arguments e rest = do
  inside ← after_open rest
  after ← after_close inside
  Ok (NumberTree e, after)

abbrev pub no_argument : InlineTree → (called ts : List Token) → Read
no_argument f called ts = if is_close ts then (inserted f [] called >>= λ v. Ok (v, drop 1 ts)) else wrong_count called

abbrev pub some_arguments : (Wanted → List Token → Read) → InlineTree → (called ts : List Token) → Read
some_arguments next f called ts = if is_close ts then wrong_count called else next (Argument f [] called) ts

-- behind the name of an inline function, which is the first of the tokens `called`
abbrev pub applied : (Wanted → List Token → Read) → InlineTree → (called ts : List Token) → Read
applied next f called ts = do
  inside ← after_open ts
  if f.parameters == 0 then no_argument f called inside else some_arguments next f called inside

abbrev pub named_or : (Wanted → List Token → Read) → Option InlineTree → Option Meaning → List Token → List Token → Read
named_or next (Some f) m ts rest = applied next f ts rest
named_or next None m ts rest = named m ts rest

-- behind these arguments: another one, or the end
abbrev pub behind_argument : (Wanted → List Token → Read) → InlineTree → List ExprTree → (called ts : List Token) → Read
behind_argument next f es called ts =
    if length es == f.parameters then (after_last called ts >>= λ after. inserted f es called >>= λ v. Ok (v, after))
    else (before_next called ts >>= λ rest. next (Argument f es called) rest)

abbrev pub one_argument : (Wanted → List Token → Read) → InlineTree → List ExprTree → (called ts : List Token) → Read
one_argument next f before called ts = do
  v ← next (Level 0) ts
  e ← given_in v.0 ts
  behind_argument next f (before ++ e ∷ []) called v.1

-- behind the name of a function of the language, which is the first of the tokens `called`
abbrev pub operands_of : (Wanted → List Token → Read) → BuiltIn → (called ts : List Token) → Read
operands_of next f called ts = do
  inside ← after_open ts
  if is_close inside then wrong_count called else next (Operand f [] called) inside

-- behind these arguments: the end, or another one
abbrev pub behind_operand : (Wanted → List Token → Read) → BuiltIn → List ExprTree → (called ts : List Token) → Read
behind_operand next f es called ts =
    if is_close ts then (built_in f es called >>= λ e. Ok (NumberTree e, drop 1 ts))
    else (after_comma ts >>= λ rest. next (Operand f es called) rest)

abbrev pub one_operand : (Wanted → List Token → Read) → BuiltIn → List ExprTree → (called ts : List Token) → Read
one_operand next f before called ts = do
  v ← next (Level 0) ts
  e ← given_in v.0 ts
  behind_operand next f (before ++ e ∷ []) called v.1

abbrev pub single_of : (Wanted → List Token → Read) → Scope → Kind → List Token → List Token → Read
single_of next names (kind.Number n) ts rest = Ok (NumberTree (Constant n), rest)
single_of next names (kind.Name x) ts rest = named_or next (inline_of x names) (meaning_of x names) ts rest
single_of next names (kind.BuiltIn f x) ts rest = operands_of next f ts rest
single_of next names (kind.Sign sign.Minus) ts rest = negative next ts rest
single_of next names kind.Complement ts rest = complemented next ts rest
single_of next names kind.Not ts rest = next Single rest >>= λ v. Ok (TruthTree (NotTree (test_in v.0)), v.1)
single_of next names kind.Open ts rest = bracketed next rest
single_of next names kind.Slot ts rest = without_arguments SlotTree rest
single_of next names kind.Width ts rest = without_arguments WidthTree rest
single_of next names kind.Wait ts rest = awaited_value names rest
single_of next names k ts rest = unexpected ts

-- What was asked before is a variable.
abbrev pub asked_or : Option (ℕ × ℕ) → List Token → Read → Read
asked_or (Some a) ts else_read = Ok (NumberTree (Variable a.0), drop (length ts - a.1) ts)
asked_or None ts else_read = else_read

abbrev pub single : (Wanted → List Token → Read) → Scope → List Token → Read
single next names [] = unexpected []
single next names (t ∷ ts) = asked_or (asked_in (length (t ∷ ts)) names) (t ∷ ts) (single_of next names t.kind (t ∷ ts) ts)

abbrev pub step : (Wanted → List Token → Read) → Scope → Wanted → List Token → Read
step next names (Level l) ts = if nat_lt l 9 then (next (Level (l + 1)) ts >>= λ first. next (More l first.0) first.1) else next Single ts
step next names (More l left) ts = more next l left (sign_at l ts) ts
step next names Single ts = single next names ts
step next names (Argument f before called) ts = one_argument next f before called ts
step next names (Operand f before called) ts = one_operand next f before called ts

-- The number bounds how deep values are nested and how many operators there are.
unfoldable pub value_at : ℕ → Scope → Wanted → List Token → Read
value_at zero names w ts = Err (fault_at ts wrong.TooLong)
value_at (suc n) names w ts = step (value_at n names) names w ts

-- a value, and the tokens after it
unfoldable pub whole_value : Scope → List Token → Read
whole_value names ts = value_at VALUE_FUEL names (Level 0) ts
