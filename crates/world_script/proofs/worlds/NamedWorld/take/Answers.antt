use Rattle.world_script.proofs.worlds.NamedWorld.take.Goals as goal

pub returns-in-Some-clause-taken : goal.returns-in-Some-clause-taken
returns-in-Some-clause-taken g c =
    let reads = rw c.in-Some.is at c.in_ok-value.ensures.ok in
    λ names w knows. rw (← reads) (c.take_value.ensures.taken names w knows)
