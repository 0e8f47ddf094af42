use Rattle.source_reader.proofs.items.+items_from.Given as goal

abbrev pub decreases-items_from : goal.decreases-items_from
decreases-items_from l = l.left
