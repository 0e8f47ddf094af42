use Rattle.benchmarks.proofs.locks.steps.run.Given as goal

-- the registry that was just opened
abbrev pub ghosts-run_named : goal.ghosts-run_named
ghosts-run_named g a = record { registry = a.opened }
