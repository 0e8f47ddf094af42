use Rattle.std.proofs.Common.{length, ap, ◌∙◌}
use Rattle.arena_rows.specs.Held.{Held}
use Rattle.arena_rows.proofs.Told.{waiting_told}
use Rattle.arena_rows.proofs.parts.Parts.waiting_rows.Goals as goal

pub returns : goal.returns
returns c = λ s holds. c.len.ensures ∙ ap (λ (h : Held). length h.pool.rows) c.self.view_is ∙ waiting_told c.args.self.now s holds
