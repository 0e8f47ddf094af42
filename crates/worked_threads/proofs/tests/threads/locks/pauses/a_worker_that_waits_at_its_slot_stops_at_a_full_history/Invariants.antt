use Rattle.worked_threads.proofs.tests.threads.locks.pauses.a_worker_that_waits_at_its_slot_stops_at_a_full_history.Given as goal

-- the registry that was just opened
abbrev pub ghosts-a_worker_that_waits_at_its_slot_stops_at_a_full_history_in : goal.ghosts-a_worker_that_waits_at_its_slot_stops_at_a_full_history_in
ghosts-a_worker_that_waits_at_its_slot_stops_at_a_full_history_in g a = record { registry = a.opened }
