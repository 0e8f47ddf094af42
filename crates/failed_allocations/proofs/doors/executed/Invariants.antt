use Rattle.failed_allocations.proofs.doors.executed.Given as goal

-- the registry that was just opened
abbrev pub ghosts-executed_in : goal.ghosts-executed_in
ghosts-executed_in g a = record { registry = a.opened }
