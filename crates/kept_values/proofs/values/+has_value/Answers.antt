use Rattle.std.proofs.Common.{rules, IsTrue, subst}
use Rattle.kept_values.specs.Given.{HasValue, HasResult}
use Rattle.kept_values.proofs.Valued.{variable_has, slot_has, width_has, two_has}
use Rattle.kept_values.proofs.values.+has_value.Goals as goal

pub returns-in-Variable : goal.returns-in-Variable
returns-in-Variable t c h = variable_has c.args.e.now c.in-Variable.field-0 c.in-Variable.is

pub returns-in-Slot : goal.returns-in-Slot
returns-in-Slot t c h = slot_has c.args.e.now c.in-Slot.is

pub returns-in-Width : goal.returns-in-Width
returns-in-Width t c h = width_has c.args.e.now c.in-Width.is

pub returns-else-not-has_value-2 : goal.returns-else-not-has_value-2
returns-else-not-has_value-2 t c h =
    let one_has : IsTrue c.has_value.result = search rules in
    let other_has : IsTrue c.has_value-in-Two.result = search rules in
    two_has c.args.e.now c.in-Two.op
    (record { ptr = c.in-Two.a.ptr; alloc = c.in-Two.a.alloc; value = tt })
    (record { ptr = c.in-Two.b.ptr; alloc = c.in-Two.b.alloc; value = tt })
    c.in-Two.a.value c.in-Two.b.value c.in-Two.is
    (subst HasValue c.deref.ensures (c.has_value.ensures one_has))
    (subst HasValue c.deref-in-Two.ensures (c.has_value-in-Two.ensures other_has))
    (subst (HasResult c.in-Two.op) c.deref-in-Two-2.ensures (c.has_result.ensures h))
