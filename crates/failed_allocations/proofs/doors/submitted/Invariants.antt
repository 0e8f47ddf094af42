use Rattle.failed_allocations.proofs.doors.submitted.Given as goal

-- the registry that was just opened
abbrev pub ghosts-submitted_in : goal.ghosts-submitted_in
ghosts-submitted_in g a = record { registry = a.opened }
