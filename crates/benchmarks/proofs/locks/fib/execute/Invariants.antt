use Rattle.benchmarks.proofs.locks.fib.execute.Given as goal

-- the registry that was just opened
abbrev pub ghosts-execute_in : goal.ghosts-execute_in
ghosts-execute_in g a = record { registry = a.opened }
