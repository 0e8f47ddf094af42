-- Questions: they change nothing. So one is asked before its line also where the line may skip it, and before each test of a loop.
use Rattle.std.specs.Prelude.{ℕ, Bool, true, false, List, [], ◌∷◌, length, Option, Some, None, is_some, if◌then◌else◌}
use Rattle.source_language.specs.declared.syntax.Question.{Question}
use Rattle.source_language.specs.declared.syntax.Question.TheVariants as question
use Rattle.source_tokens.specs.declared.tokens.Kind.{Kind}
use Rattle.source_tokens.specs.declared.tokens.Kind.TheVariants as kind
use Rattle.source_tokens.specs.declared.tokens.Token.{Token}
use Rattle.source_reader.specs.declared.givers.Giver.{Giver}
use Rattle.source_reader.specs.declared.givers.Giver.TheVariants as giver
use Rattle.source_reader.specs.Givers.{giver_of, giver_at}
use Rattle.source_reader.specs.Names.{Scope, asked_in}
use Rattle.source_reader.specs.Trees.{StmtTree, SkipTree, ThenTree, ReadTree}

-- Whether it changes nothing. What reads this slot's cell makes it, if it is not there.
abbrev pub changes_nothing : Question → Bool
changes_nothing question.Cancelled = true
changes_nothing (question.Cell k) = false
changes_nothing (question.CellSum k) = true
changes_nothing (question.CellCount k) = true

abbrev pub if_harmless : Question → Option Question
if_harmless q = if changes_nothing q then Some q else None

-- the question that gives the value, if one does that changes nothing
abbrev pub question_by : Option Giver → Option Question
question_by (Some giver.Cancelled) = Some question.Cancelled
question_by (Some (giver.Cell q)) = if_harmless q
question_by g = None

-- whether what stands before a block, or on the line, ends here
abbrev pub ends_head : Kind → Bool
ends_head kind.LineEnd = true
ends_head kind.Semicolon = true
ends_head kind.Begin = true
ends_head kind.End = true
ends_head k = false

-- the first question in the rest of a line, up to a block, that was not asked before: its tokens, and those behind it
abbrev pub question_in : Scope → List Token → Option (List Token)
question_in names [] = None
question_in names (t ∷ ts) =
    if ends_head t.kind then None
    else (if is_some (question_by (giver_at names (t ∷ ts))) then Some (t ∷ ts) else question_in names ts)

abbrev pub again : (asked : Option (ℕ × ℕ)) → Option Question → StmtTree → StmtTree
again (Some a) (Some q) s = ThenTree (ReadTree a.0 q) s
again a q s = s

-- the questions of a condition that were asked before, once more, each for its own variable
abbrev pub asked_again : Scope → List Token → StmtTree
asked_again names [] = SkipTree
asked_again names (t ∷ ts) =
    if ends_head t.kind then SkipTree
    else again (asked_in (length (t ∷ ts)) names) (question_by (giver_of t.kind names ts)) (asked_again names ts)
