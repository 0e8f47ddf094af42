use Rattle.server_program.proofs.serve_tenants.Given as goal

-- the registry that was just opened
abbrev pub ghosts-serve_named : goal.ghosts-serve_named
ghosts-serve_named g a = record { registry = a.opened }
