use Rattle.std.proofs.Common.{map, sym, ap, ◌∙◌, subst}
use Rattle.nest_stack.specs.Chain.{rows_of, HoldsStacks}
use Rattle.nest_stack.proofs.Written.{empty-held, empty-seen}
use Rattle.nest_stack.proofs.nests.Nests.new.Goals as goal

pub invariant_of-result : goal.invariant_of-result
invariant_of-result c =
    let nodes = c.in_ok-nodes.nodes in
    subst (HoldsStacks nodes) (sym (c.in_ok-stacks.ensures.items_if_clones_equal (λ y same. same))) (empty-held nodes c.args.slots c.in_ok-nodes.ensures.empty c.in_ok-nodes.ensures.capacity)

pub returns : goal.returns
returns c =
    let nodes = c.in_ok-nodes.nodes in
    ap (map (rows_of nodes)) (c.in_ok-stacks.ensures.items_if_clones_equal (λ y same. same)) ∙ empty-seen nodes c.args.slots
