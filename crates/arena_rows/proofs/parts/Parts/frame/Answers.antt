use Rattle.std.proofs.Common.{ap}
use Rattle.std.specs.Option.{option_copied}
use Rattle.nest_stack.specs.declared.stack.Nested.{Nested}
use Rattle.arena_rows.proofs.TopRows.{top_within, top_told, top_not_none}
use Rattle.arena_rows.proofs.parts.Parts.frame.Goals as goal

pub top-requires : goal.top-requires
top-requires c = top_within c.args.self.now c.args.slot c.requires

pub unreachable-requires : goal.unreachable-requires
unreachable-requires c = top_not_none c.args.self.now c.args.slot (option_copied c.top.result) c.requires c.top.ensures (ap option_copied c.in_default.is)

pub returns : goal.returns
returns c = λ s n is on_top. ap (λ (x : Nested). x.frame)
    (top_told c.args.self.now s is c.args.slot n (option_copied c.top.result) c.in-Some.top.now on_top c.top.ensures (ap option_copied c.in-Some.is))
