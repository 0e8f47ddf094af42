use Rattle.job_finish.proofs.Going.{goes_nowhere, goes_then}
use Rattle.job_finish.proofs.finishing.finish.Goals as goal

pub rounds-init : goal.rounds-init
rounds-init c = goes_nowhere c.args.replay.now

pub returns-then-not-advance_all-clause-goes : goal.returns-then-not-advance_all-clause-goes
returns-then-not-advance_all-clause-goes c = goes_then c.args.replay.now c.rounds.replay c.advance_all.new.replay c.rounds.invariant c.advance_all.ensures.goes

pub rounds-preserved : goal.rounds-preserved
rounds-preserved c = goes_then c.args.replay.now c.rounds.replay c.advance_all.new.replay c.rounds.invariant c.advance_all.ensures.goes
