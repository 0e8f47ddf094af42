use Rattle.std.proofs.Common.{◌≡◌, length}
use Rattle.source_reader.specs.Names.{names_of}
use Rattle.source_reader.specs.Questions.{question_in}
use Rattle.source_reader.proofs.questions.question_in.Given as goal

abbrev pub invariant-loop-left : goal.invariant-loop-left
invariant-loop-left l = question_in (names_of l.fn.names) l.left ≡ question_in (names_of l.fn.names) l.fn.tokens

abbrev pub decreases-loop-left : goal.decreases-loop-left
decreases-loop-left l = length l.left
