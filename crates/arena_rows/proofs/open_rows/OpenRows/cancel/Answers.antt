use Rattle.std.proofs.Common.{◌≡◌, length, sym, ap, ◌∙◌, subst, arith, length-set}
use Rattle.arena_rows.specs.OpenRows.{AreFiled}
use Rattle.arena_rows.proofs.RowsFiled.{cancelled_filed}
use Rattle.arena_rows.proofs.open_rows.OpenRows.cancel.Goals as goal

pub invariant_of-self : goal.invariant_of-self
invariant_of-self c =
    let i = c.self.inside in
    let asked = c.cancel_noted.ensures in
    let after = c.cancel_noted.new.self in
    let filing = c.doom.ensures in
    let long : length after ≡ length i.contexts = ap length asked.asked ∙ length-set i.contexts c.args.context _ in
    let filed = cancelled_filed i.table i.contexts i.filing i.doomed i.turned.items c.self.invariant.0 after c.doom.new.filing long asked.forest filing.places filing.lists
    c.cancel_noted.new.turned.items asked.noted filing.moved filing.others in
    (subst (AreFiled i.table after c.doom.new.filing i.doomed) (sym filing.none) filed, omega (arith, long, filing.capacity, asked.capacity, c.self.invariant.1))
