use Rattle.worked_threads.proofs.tests.turns.long_runs_after_short_ones_overlap.Given as goal

-- the registry that was just opened
abbrev pub ghosts-long_runs_after_short_ones_overlap_in : goal.ghosts-long_runs_after_short_ones_overlap_in
ghosts-long_runs_after_short_ones_overlap_in g a = record { registry = a.opened }
