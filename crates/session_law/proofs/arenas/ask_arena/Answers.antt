use Rattle.std.proofs.Common.{sym, ◌∙◌}
use Rattle.arena_core.proofs.Pending.{pending_asked}
use Rattle.session_law.proofs.arenas.ask_arena.Goals as goal

pub returns-clause-pending : goal.returns-clause-pending
returns-clause-pending c = λ is.
    let some = c.config.ensures.stands in
    pending_asked some.0 c.args.request (sym (c.ask.ensures some.0 some.1).0 ∙ is)
