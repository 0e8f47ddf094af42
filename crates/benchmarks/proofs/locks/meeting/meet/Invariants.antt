use Rattle.benchmarks.proofs.locks.meeting.meet.Given as goal

-- the registry that was just opened
abbrev pub ghosts-meet_at : goal.ghosts-meet_at
ghosts-meet_at g a = record { registry = a.opened }
