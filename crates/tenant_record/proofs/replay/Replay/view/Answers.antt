use Rattle.tenant_record.proofs.replay.Replay.view.Goals as goal

pub returns : goal.returns
returns c = rw (← c.self.view_is) (c.view.ensures _ c.self.invariant.arena)
