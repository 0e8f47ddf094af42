use Rattle.worked_threads.proofs.tests.threads.sleepers.an_entry_wakes_the_slot_alone_that_it_lets_move.Given as goal

-- the registry that was just opened
abbrev pub ghosts-an_entry_wakes_the_slot_alone_that_it_lets_move_in : goal.ghosts-an_entry_wakes_the_slot_alone_that_it_lets_move_in
ghosts-an_entry_wakes_the_slot_alone_that_it_lets_move_in g a = record { registry = a.opened }
