use Rattle.std.proofs.Common.{sym, subst}
use Rattle.arena_rows.specs.OpenRows.{AreFiled}
use Rattle.arena_rows.proofs.open_rows.OpenRows.next_doomed.Goals as goal

pub invariant_of-self : goal.invariant_of-self
invariant_of-self c =
    let i = c.self.inside in
    (subst (AreFiled i.table i.contexts c.next_doomed.new.filing i.doomed) (sym c.self.invariant.0.none_turned) c.next_doomed.ensures.filed, c.self.invariant.1)
