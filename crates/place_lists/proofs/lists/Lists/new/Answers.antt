use Rattle.std.proofs.Common.{[], sym, subst}
use Rattle.place_lists.specs.Links.{Links}
use Rattle.place_lists.specs.Linked.{IsLinked}
use Rattle.place_lists.proofs.Views.{IsLinked-seen, IsLinked-none, seen-is}
use Rattle.place_lists.proofs.lists.Lists.new.Goals as goal

pub invariant_of-result : goal.invariant_of-result
invariant_of-result c =
    let links : Links = c.in_ok-new.field-0 in
    IsLinked-seen links (λ l. []) (subst (λ (k : Links). IsLinked k (λ l. [])) (sym c.in_ok-new.ensures) (IsLinked-none c.args.lists c.args.places))

pub returns-clause-empty : goal.returns-clause-empty
returns-clause-empty c l =
    let links : Links = c.in_ok-new.field-0 in
    seen-is links (λ l. []) (subst (λ (k : Links). IsLinked k (λ l. [])) (sym c.in_ok-new.ensures) (IsLinked-none c.args.lists c.args.places)) l
