-- What gives a value that no expression computes.
use Rattle.std.specs.Prelude.{ℕ, List, [], ◌∷◌, drop, length, Option, Some, None, is_some, Result, Ok, if◌then◌else◌}
use Rattle.std.specs.Option.{option_map}
use Rattle.source_language.specs.declared.syntax.Question.TheVariants as question
use Rattle.source_tokens.specs.declared.tokens.Kind.{Kind}
use Rattle.source_tokens.specs.declared.tokens.Kind.TheVariants as kind
use Rattle.source_tokens.specs.declared.tokens.Token.{Token}
use Rattle.source_reader.specs.declared.calls.Run.TheVariants as run
use Rattle.source_reader.specs.declared.faults.Fault.{Fault}
use Rattle.source_reader.specs.declared.givers.Giver.{Giver}
use Rattle.source_reader.specs.declared.givers.Giver.TheVariants as giver
use Rattle.source_reader.specs.Calls.{run_at}
use Rattle.source_reader.specs.declared.names.Meaning.{Meaning}
use Rattle.source_reader.specs.declared.names.Meaning.TheVariants as meaning
use Rattle.source_reader.specs.Cells.{question_of}
use Rattle.source_reader.specs.Faults.{◌>>=◌}
use Rattle.source_reader.specs.Names.{Scope, meaning_of, asked_in}
use Rattle.source_reader.specs.Groups.{own_group_at}
use Rattle.source_reader.specs.Ranges.{parallel_at}
use Rattle.source_reader.specs.Tasks.{group_number}
use Rattle.source_reader.specs.Trees.{StmtTree, ReadTree, WaitTree}
use Rattle.source_reader.specs.Marks.{after_open, after_close}

abbrev pub part_of : (key : ℕ) → Kind → Option Giver
part_of k (kind.Part p) = Some (giver.Cell (question_of p k))
part_of k _ = None

-- behind the name of a cell
abbrev pub part_at : (key : ℕ) → List Token → Option Giver
part_at k [] = None
part_at k (t ∷ ts) = part_of k t.kind

abbrev pub named_giver : Option Meaning → List Token → Option Giver
named_giver (Some (meaning.Cell k)) ts = part_at k ts
named_giver m ts = None

abbrev pub giver_of : Kind → Scope → (rest : List Token) → Option Giver
giver_of kind.Call names rest = Some giver.Call
giver_of kind.Isolate names rest = Some giver.Isolate
giver_of kind.Cancelled names rest = Some giver.Cancelled
giver_of kind.Wait names rest = option_map giver.Wait (own_group_at names rest)
giver_of (kind.Gathers g) names rest = Some giver.Gathering
giver_of (kind.Name x) names rest = named_giver (meaning_of x names) rest
giver_of k names rest = None

-- the one whose word, or whose cell, is at the front, if it was not asked before
abbrev pub giver_at : Scope → List Token → Option Giver
giver_at names [] = None
giver_at names (t ∷ ts) = if is_some (asked_in (length (t ∷ ts)) names) then None else giver_of t.kind names ts

-- behind `cancelled`
abbrev pub cancelled_at : ℕ → List Token → Result (StmtTree × List Token) Fault
cancelled_at x ts = do
  inside ← after_open ts
  after ← after_close inside
  Ok (ReadTree x question.Cancelled, after)

-- Its value goes to the variable.
abbrev pub given_by : Giver → Scope → ℕ → List Token → Result (StmtTree × List Token) Fault
given_by giver.Call names x ts = run_at names (run.Call (Some x)) (drop 1 ts)
given_by giver.Isolate names x ts = run_at names (run.Isolate x) (drop 1 ts)
given_by giver.Cancelled names x ts = cancelled_at x (drop 1 ts)
given_by (giver.Wait g) names x ts = Ok (WaitTree (Some x) None (group_number g), drop 1 (drop 1 ts))
given_by giver.Gathering names x ts = parallel_at names x (drop 1 ts)
given_by (giver.Cell q) names x ts = Ok (ReadTree x q, drop 1 (drop 1 ts))
