use Rattle.source_reader.proofs.widths.+widths_from.Given as goal

abbrev pub decreases-widths_from : goal.decreases-widths_from
decreases-widths_from l = l.left
