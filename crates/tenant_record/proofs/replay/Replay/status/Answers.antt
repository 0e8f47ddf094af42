use Rattle.tenant_record.proofs.replay.Replay.status.Goals as goal

pub returns : goal.returns
returns c = rw (← c.self.view_is) (c.status.ensures _ c.self.invariant.arena)
