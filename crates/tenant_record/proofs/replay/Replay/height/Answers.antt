use Rattle.tenant_record.proofs.replay.Replay.height.Goals as goal

pub returns-clause-value : goal.returns-clause-value
returns-clause-value c = rw (← c.self.view_is) (c.height.ensures.value _ c.self.invariant.arena)
