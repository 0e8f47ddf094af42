use Rattle.worked_threads.proofs.tests.threads.locks.closing.a_pass_that_is_kept_is_missed.Given as goal

-- the registry that was just opened
abbrev pub ghosts-a_pass_that_is_kept_is_missed_in : goal.ghosts-a_pass_that_is_kept_is_missed_in
ghosts-a_pass_that_is_kept_is_missed_in g a = record { registry = a.opened }
