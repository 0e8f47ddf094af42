use Rattle.host_program.proofs.hosting.host_tenants.Given as goal

-- the registry that was just opened
abbrev pub ghosts-host_named : goal.ghosts-host_named
ghosts-host_named g a = record { registry = a.opened }
