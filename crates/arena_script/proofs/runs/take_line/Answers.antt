use Rattle.arena_script.proofs.runs.take_line.Goals as goal

pub returns-in-Whole : goal.returns-in-Whole
returns-in-Whole g c = λ names w knows. rw c.in-Whole.is (c.take.ensures.taken names w knows)
