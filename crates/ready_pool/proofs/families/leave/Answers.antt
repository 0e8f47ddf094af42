use Rattle.std.proofs.Common.{◌≡◌, Some, None, sym, ◌∙◌}
use Rattle.place_lists.specs.Lists.{list_in}
use Rattle.place_lists.proofs.Rows.{without-none}
use Rattle.ready_pool.proofs.families.leave.Goals as goal

pub returns-in_default-clause-left : goal.returns-in_default-clause-left
returns-in_default-clause-left c l =
    sym (without-none c.args.place (list_in c.args.lists.now l) (λ i. let wrong : None ≡ Some l = sym c.in_default.is ∙ c.requires.alone l i in cc))
