use Rattle.std.proofs.Common.{refl, ◌∙◌}
use Rattle.term_life.proofs.Newest.{newest_along}
use Rattle.term_life.proofs.dumps.Shelf.take_too_old.Goals as goal

pub returns-in-None-clause-newest : goal.returns-in-None-clause-newest
returns-in-None-clause-newest c is = newest_along c.args.keep _ _ (c.as_slice.ensures.value ∙ c.self.view_is) (c.in-None.ensures.newest refl)
