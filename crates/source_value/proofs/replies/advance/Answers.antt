use Rattle.std.proofs.Common.{sym, ◌∙◌}
use Rattle.source_value.proofs.Advances.{stopped}
use Rattle.source_value.proofs.replies.advance.Goals as goal

pub returns-then-not-is_entry : goal.returns-then-not-is_entry
returns-then-not-is_entry c =
    stopped c.args.tenant.now c.loop.tenant c.advance.new.self c.loop.counter c.in_ok-moved.moved c.loop.invariant.0 c.loop.invariant.1 c.in_ok-moved.ensures.ok
    (sym c.is_entry.ensures ∙ c.if-not-is_entry.true)
