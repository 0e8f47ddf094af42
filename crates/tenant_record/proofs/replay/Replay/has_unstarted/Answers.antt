use Rattle.tenant_record.proofs.replay.Replay.has_unstarted.Goals as goal

pub returns : goal.returns
returns c = rw (← c.self.view_is) (c.has_unstarted.ensures _ c.self.invariant.arena)
