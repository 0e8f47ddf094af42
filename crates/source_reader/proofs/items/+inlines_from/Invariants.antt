use Rattle.source_reader.proofs.items.+inlines_from.Given as goal

abbrev pub decreases-inlines_from : goal.decreases-inlines_from
decreases-inlines_from l = l.left
