use Rattle.worked_threads.proofs.tests.threads.locks.handing.nothing_is_found_while_the_pass_is_out.Given as goal

-- the registry that was just opened
abbrev pub ghosts-nothing_is_found_while_the_pass_is_out_in : goal.ghosts-nothing_is_found_while_the_pass_is_out_in
ghosts-nothing_is_found_while_the_pass_is_out_in g a = record { registry = a.opened }
