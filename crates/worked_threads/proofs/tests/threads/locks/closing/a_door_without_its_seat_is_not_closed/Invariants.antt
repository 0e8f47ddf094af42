use Rattle.worked_threads.proofs.tests.threads.locks.closing.a_door_without_its_seat_is_not_closed.Given as goal

-- the registry that was just opened
abbrev pub ghosts-a_door_without_its_seat_is_not_closed_in : goal.ghosts-a_door_without_its_seat_is_not_closed_in
ghosts-a_door_without_its_seat_is_not_closed_in g a = record { registry = a.opened }
