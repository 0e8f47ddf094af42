-- What is done before a line: tasks that it waits for, and what gives a value inside its values, from left to right. Of what the line may skip, only questions are asked.
use Rattle.std.specs.Prelude.{ℕ, ◌==◌, ◌&&◌, not, Bool, true, false, List, [], ◌∷◌, drop, length, Option, Some, None, is_some, if◌then◌else◌}
use Rattle.source_tokens.specs.declared.tokens.Sign.TheVariants as sign
use Rattle.source_tokens.specs.declared.tokens.Kind.{Kind}
use Rattle.source_tokens.specs.declared.tokens.Kind.TheVariants as kind
use Rattle.source_tokens.specs.declared.tokens.Token.{Token}
use Rattle.source_reader.specs.declared.names.Meaning.{Meaning}
use Rattle.source_reader.specs.declared.names.Meaning.TheVariants as meaning
use Rattle.source_reader.specs.declared.names.Task.{Task}
use Rattle.source_reader.specs.declared.tasks.Reach.TheVariants as reach
use Rattle.source_reader.specs.declared.ahead.Ahead.{Ahead}
use Rattle.source_reader.specs.declared.ahead.Ahead.TheVariants as ahead
use Rattle.source_reader.specs.Extents.{alone}
use Rattle.source_reader.specs.Givers.{giver_at}
use Rattle.source_reader.specs.Names.{Scope, meaning_of, inline_of}
use Rattle.source_reader.specs.Questions.{question_in}
use Rattle.source_reader.specs.Tasks.{pending_task}
use Rattle.source_reader.specs.Waits.{is_unread, task_at}
use Rattle.source_reader.specs.Widths.{is_comma}

abbrev pub ahead_if : Option Task → Ahead
ahead_if (Some t) = ahead.Waits t
ahead_if None = ahead.GoesOn

-- What stands behind `&&` or `||` may be skipped, and a task that is read must have been waited for before.
abbrev pub ahead_by : Scope → Kind → List Token → Ahead
ahead_by names kind.Wait ts = ahead_if (task_at names ts)
ahead_by names (kind.Name x) ts = if is_unread (meaning_of x names) then ahead.Ends else ahead.GoesOn
ahead_by names (kind.Sign sign.And) ts = ahead.Skips
ahead_by names (kind.Sign sign.Or) ts = ahead.Skips
ahead_by names kind.LineEnd ts = ahead.Ends
ahead_by names kind.Semicolon ts = ahead.Ends
ahead_by names kind.Begin ts = ahead.Ends
ahead_by names kind.End ts = ahead.Ends
ahead_by names k ts = ahead.GoesOn

-- whether what gives a value is at the front and does not stand alone
abbrev pub asks : Scope → (alone : ℕ) → List Token → Bool
asks names n ts = is_some (giver_at names ts) && not (length ts == n)

abbrev pub ahead_of : Scope → (alone : ℕ) → (first : Kind) → (ts rest : List Token) → Ahead
ahead_of names n k ts rest = if asks names n ts then ahead.Asks else ahead_by names k rest

abbrev pub wait_or : Ahead → Option Task → Option Task
wait_or (ahead.Waits t) later = Some t
wait_or ahead.Asks later = None
wait_or ahead.Skips later = None
wait_or ahead.Ends later = None
wait_or ahead.GoesOn later = later

-- the first task that is waited for, before anything is asked
abbrev pub wait_in : Scope → (alone : ℕ) → List Token → Option Task
wait_in names n [] = None
wait_in names n (t ∷ ts) = wait_or (ahead_of names n t.kind (t ∷ ts) ts) (wait_in names n ts)

abbrev pub is_cell : Option Meaning → Bool
is_cell (Some (meaning.Cell k)) = true
is_cell m = false

-- Whether there is no wait before a line that begins so. The condition of a loop is computed again. A cell is read before what it is given. A wait that gives a status, too, is the line.
abbrev pub is_first : Scope → Kind → (rest : List Token) → Bool
is_first names kind.While rest = true
is_first names (kind.Name x) rest = is_cell (meaning_of x names)
is_first names kind.Let rest = is_comma (drop 1 rest)
is_first names k rest = false

abbrev pub next_wait_of : Kind → Scope → (ts rest : List Token) → Option Task
next_wait_of kind.Sync names ts rest = pending_task reach.Block names
next_wait_of k names ts rest = if is_first names k rest then None else wait_or (ahead_by names k rest) (wait_in names (alone names ts) rest)

-- the task that is waited for before the statement at the front is read
abbrev pub next_wait : Scope → List Token → Option Task
next_wait names [] = None
next_wait names (t ∷ ts) = next_wait_of t.kind names (t ∷ ts) ts

-- Whether it may divide by 0. Then only questions behind it are asked before.
abbrev pub may_divide : Scope → Kind → Bool
may_divide names (kind.Sign sign.Over) = true
may_divide names (kind.Sign sign.Remainder) = true
may_divide names (kind.Name x) = is_some (inline_of x names)
may_divide names k = false

abbrev pub ask_or : Ahead → (divides : Bool) → List Token → (later question : Option (List Token)) → Option (List Token)
ask_or (ahead.Waits t) d here later q = None
ask_or ahead.Asks d here later q = Some here
ask_or ahead.Skips d here later q = q
ask_or ahead.Ends d here later q = None
ask_or ahead.GoesOn d here later q = if d then q else later

-- the first giver that is asked
abbrev pub ask_in : Scope → (alone : ℕ) → List Token → Option (List Token)
ask_in names n [] = None
ask_in names n (t ∷ ts) = ask_or (ahead_of names n t.kind (t ∷ ts) ts) (may_divide names t.kind) (t ∷ ts) (ask_in names n ts) (question_in names ts)

abbrev pub ask_behind : Ahead → Option (List Token) → Option (List Token)
ask_behind ahead.GoesOn later = later
ask_behind a later = None

-- In the condition of a loop there are only questions.
abbrev pub next_ask_of : Kind → Scope → (ts rest : List Token) → Option (List Token)
next_ask_of kind.While names ts rest = question_in names rest
next_ask_of k names ts rest = if is_first names k rest then None else ask_behind (ahead_by names k rest) (ask_in names (alone names ts) rest)

-- the giver that is asked before the statement at the front is read: its tokens, and those behind it
abbrev pub next_ask : Scope → List Token → Option (List Token)
next_ask names [] = None
next_ask names (t ∷ ts) = next_ask_of t.kind names (t ∷ ts) ts
