use Rattle.std.proofs.Common.{◌≡◌, ◌≤◌, ◌∙◌, sym, nat_lt, false, arith}
use Rattle.arena_core.proofs.Seen.{has_top, no_top}
use Rattle.arena_core.proofs.views.has_top.Goals as goal

pub returns-then-slot-config : goal.returns-then-slot-config
returns-then-slot-config c = λ s rests. rw c.height.ensures (has_top c.args.parts.now s rests.holds c.args.slot)

pub returns-else-slot-config : goal.returns-else-slot-config
returns-else-slot-config c = λ s rests.
    let lacks : c.args.parts.now.config.slots ≤ c.args.slot = rw c.config.ensures.value at c.if-slot-config.false in
    let past : nat_lt c.args.slot c.config.result.now.slots ≡ false = grind (arith, c.if-slot-config.false) in
    past ∙ sym (no_top c.args.parts.now s rests.holds c.args.slot lacks)
