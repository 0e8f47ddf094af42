use Rattle.worked_threads.proofs.tests.threads.locks.closing.a_pass_that_was_told_of_another_row_is_refused.Given as goal

-- the registry that was just opened
abbrev pub ghosts-a_pass_that_was_told_of_another_row_is_refused_in : goal.ghosts-a_pass_that_was_told_of_another_row_is_refused_in
ghosts-a_pass_that_was_told_of_another_row_is_refused_in g a = record { registry = a.opened }
