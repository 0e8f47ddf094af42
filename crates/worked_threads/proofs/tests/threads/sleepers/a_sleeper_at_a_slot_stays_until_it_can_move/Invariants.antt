use Rattle.worked_threads.proofs.tests.threads.sleepers.a_sleeper_at_a_slot_stays_until_it_can_move.Given as goal

-- the registry that was just opened
abbrev pub ghosts-a_sleeper_at_a_slot_stays_until_it_can_move_in : goal.ghosts-a_sleeper_at_a_slot_stays_until_it_can_move_in
ghosts-a_sleeper_at_a_slot_stays_until_it_can_move_in g a = record { registry = a.opened }
