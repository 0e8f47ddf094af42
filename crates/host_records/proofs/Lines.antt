-- How many lines are told by one more line, and by the first one of several.
use Rattle.std.proofs.Common.{◌≡◌, ◌∙◌, ◌+◌, ◌++◌, ◌∷◌, [], List, Option, Some, None, arith}
use Rattle.std.specs.Prelude.{sum_by, option_to_list}
use Rattle.std.proofs.lemmas.List.Sums.{sum_by-append, sum_by_push}
use Rattle.host_records.specs.Outlets.{worth, worth_if}
use Rattle.host_records.specs.declared.outlet.Line.{Line}

pub one_more : (lines : List Line) (line : Line) → sum_by worth (lines ++ line ∷ []) ≡ sum_by worth lines + worth line
one_more lines line = sum_by_push worth lines line

pub one_less : (first : Option Line) (rest : List Line) → sum_by worth (option_to_list first ++ rest) ≡ worth_if first + sum_by worth rest
one_less None rest = omega arith
one_less (Some line) rest = let both = sum_by-append worth (line ∷ []) rest in both ∙ omega arith
