use Rattle.worked_threads.proofs.tests.turns.a_slot_that_is_alone_is_advanced_after_its_first_turn.Given as goal

-- the registry that was just opened
abbrev pub ghosts-a_slot_that_is_alone_is_advanced_after_its_first_turn_in : goal.ghosts-a_slot_that_is_alone_is_advanced_after_its_first_turn_in
ghosts-a_slot_that_is_alone_is_advanced_after_its_first_turn_in g a = record { registry = a.opened }
