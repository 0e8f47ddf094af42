use Rattle.source_reader.proofs.bodies.+parameters_from.Given as goal

abbrev pub decreases-parameters_from : goal.decreases-parameters_from
decreases-parameters_from l = l.left
