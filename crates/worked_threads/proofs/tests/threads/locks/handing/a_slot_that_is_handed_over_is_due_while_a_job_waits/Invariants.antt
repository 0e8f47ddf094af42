use Rattle.worked_threads.proofs.tests.threads.locks.handing.a_slot_that_is_handed_over_is_due_while_a_job_waits.Given as goal

-- the registry that was just opened
abbrev pub ghosts-a_slot_that_is_handed_over_is_due_while_a_job_waits_in : goal.ghosts-a_slot_that_is_handed_over_is_due_while_a_job_waits_in
ghosts-a_slot_that_is_handed_over_is_due_while_a_job_waits_in g a = record { registry = a.opened }
