use Rattle.arena_steps.proofs.advances.advance_row.Goals as goal

pub returns : goal.returns
returns c = λ s n rests on_top.
    c.advance_by.ensures s n (record { rests = rests; on_top = on_top; is = c.run_top-run.ensures.run s n rests.holds on_top })
