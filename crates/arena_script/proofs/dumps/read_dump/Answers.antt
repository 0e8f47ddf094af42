use Rattle.request_reader.specs.declared.turns.TheConstants.{MAX_TURNS}
use Rattle.arena_script.proofs.Causes.{causes_after}
use Rattle.arena_script.proofs.dumps.read_dump.Goals as goal

pub returns-in-Some-clause-cause : goal.returns-in-Some-clause-cause
returns-in-Some-clause-cause g c =
    let first = rw c.in_ok-lines.ensures at c.read_first.ensures.calls in
    causes_after _ g.R.Source.called MAX_TURNS _ _ _ _ _ _ first c.read_on.ensures.cause
