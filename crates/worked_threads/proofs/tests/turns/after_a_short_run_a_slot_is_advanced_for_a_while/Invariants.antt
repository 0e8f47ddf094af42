use Rattle.worked_threads.proofs.tests.turns.after_a_short_run_a_slot_is_advanced_for_a_while.Given as goal

-- the registry that was just opened
abbrev pub ghosts-after_a_short_run_a_slot_is_advanced_for_a_while_in : goal.ghosts-after_a_short_run_a_slot_is_advanced_for_a_while_in
ghosts-after_a_short_run_a_slot_is_advanced_for_a_while_in g a = record { registry = a.opened }
