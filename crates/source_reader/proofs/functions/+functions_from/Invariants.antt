use Rattle.source_reader.proofs.functions.+functions_from.Given as goal

abbrev pub decreases-functions_from : goal.decreases-functions_from
decreases-functions_from l = l.left
