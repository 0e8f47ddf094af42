use Rattle.worked_threads.proofs.tests.threads.sleepers.entries_that_leave_a_slot_idle_wake_nobody_there.Given as goal

-- the registry that was just opened
abbrev pub ghosts-entries_that_leave_a_slot_idle_wake_nobody_there_in : goal.ghosts-entries_that_leave_a_slot_idle_wake_nobody_there_in
ghosts-entries_that_leave_a_slot_idle_wake_nobody_there_in g a = record { registry = a.opened }
