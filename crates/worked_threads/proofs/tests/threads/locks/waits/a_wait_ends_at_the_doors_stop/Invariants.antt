use Rattle.worked_threads.proofs.tests.threads.locks.waits.a_wait_ends_at_the_doors_stop.Given as goal

-- the registry that was just opened
abbrev pub ghosts-a_wait_ends_at_the_doors_stop_in : goal.ghosts-a_wait_ends_at_the_doors_stop_in
ghosts-a_wait_ends_at_the_doors_stop_in g a = record { registry = a.opened }
