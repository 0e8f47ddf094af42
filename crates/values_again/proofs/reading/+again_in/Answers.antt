use Rattle.std.proofs.Common.{None, refl, ◌∙◌}
use Rattle.values_again.proofs.Same.{thens, chosen, looped, repeated, behind, not_behind}
use Rattle.values_again.proofs.reading.+again_in.Goals as goal

pub returns-then-branch : goal.returns-then-branch
returns-then-branch t c =
    behind c.args.v c.args.s.now
    (record { ptr = c.in-Then.a.ptr; alloc = c.in-Then.a.alloc; value = tt })
    (record { ptr = c.in-Then.b.ptr; alloc = c.in-Then.b.alloc; value = tt })
    c.in-Then.a.value c.in-Then.b.value c.deref.result.now c.deref_mut.result.now c.read_behind.new.s
    c.in_ok-read_behind-in-Then.field-0 c.in-Then.is c.deref.ensures c.deref_mut.ensures.value
    c.if-branch.true c.in_ok-read_behind-in-Then.ensures

pub returns-in_ok-again_in-in-Then-2 : goal.returns-in_ok-again_in-in-Then-2
returns-in_ok-again_in-in-Then-2 t c =
    let still = not_behind c.args.v c.deref.result.now c.deref_mut.result.now c.read_behind.new.s c.in_ok-read_behind-in-Then.field-0 c.if-branch.false c.in_ok-read_behind-in-Then.ensures in
    thens c.args.v None c.args.s.now
    (record { ptr = c.in-Then.a.ptr; alloc = c.in-Then.a.alloc; value = tt })
    (record { ptr = c.in-Then.b.ptr; alloc = c.in-Then.b.alloc; value = tt })
    c.in-Then.a.value c.in-Then.b.value c.deref_mut-in-Then.result.now c.again_in.new.s c.deref_mut-in-Then.ensures.value c.in_ok-again_in-in-Then.ensures
    c.deref_mut-in-Then-2.result.now c.again_in-in-Then.new.s c.in-Then.is (c.deref_mut-in-Then-2.ensures.value ∙ still ∙ c.deref_mut.ensures.value) c.in_ok-again_in-in-Then-2.ensures

pub returns-in_ok-again_in-in-If-2 : goal.returns-in_ok-again_in-in-If-2
returns-in_ok-again_in-in-If-2 t c =
    chosen c.args.v None c.args.s.now
    (record { ptr = c.in-If.a.ptr; alloc = c.in-If.a.alloc; value = tt })
    (record { ptr = c.in-If.b.ptr; alloc = c.in-If.b.alloc; value = tt })
    c.in-If.a.value c.in-If.b.value c.deref_mut-in-If.result.now c.again_in-in-If.new.s c.deref_mut-in-If.ensures.value c.in_ok-again_in-in-If.ensures
    c.in-If.field-0 c.in-If.field-0 c.deref_mut-in-If-2.result.now c.again_in-in-If-2.new.s c.in-If.is (λ slot width vars h. refl)
    c.deref_mut-in-If-2.ensures.value c.in_ok-again_in-in-If-2.ensures

pub returns-in_ok-again_in-in-Loop-2 : goal.returns-in_ok-again_in-in-Loop-2
returns-in_ok-again_in-in-Loop-2 t c =
    looped c.args.v None c.args.s.now
    (record { ptr = c.in-Loop.b.ptr; alloc = c.in-Loop.b.alloc; value = tt })
    (record { ptr = c.in-Loop.s.ptr; alloc = c.in-Loop.s.alloc; value = tt })
    c.in-Loop.b.value c.in-Loop.s.value c.deref_mut-in-Loop.result.now c.again_in-in-Loop.new.s c.deref_mut-in-Loop.ensures.value c.in_ok-again_in-in-Loop.ensures
    c.in-Loop.field-0 c.in-Loop.field-0 c.deref_mut-in-Loop-2.result.now c.again_in-in-Loop-2.new.s c.in-Loop.is (λ slot width vars h. refl)
    c.deref_mut-in-Loop-2.ensures.value c.in_ok-again_in-in-Loop-2.ensures

pub returns-in_ok-again_in-in-Repeat-2 : goal.returns-in_ok-again_in-in-Repeat-2
returns-in_ok-again_in-in-Repeat-2 t c =
    repeated c.args.v None c.args.s.now
    (record { ptr = c.in-Repeat.b.ptr; alloc = c.in-Repeat.b.alloc; value = tt })
    (record { ptr = c.in-Repeat.s.ptr; alloc = c.in-Repeat.s.alloc; value = tt })
    c.in-Repeat.b.value c.in-Repeat.s.value c.deref_mut-in-Repeat.result.now c.again_in-in-Repeat.new.s c.deref_mut-in-Repeat.ensures.value c.in_ok-again_in-in-Repeat.ensures
    c.in-Repeat.field-0 c.in-Repeat.field-0 c.deref_mut-in-Repeat-2.result.now c.again_in-in-Repeat-2.new.s c.in-Repeat.is (λ slot width vars h. refl)
    c.deref_mut-in-Repeat-2.ensures.value c.in_ok-again_in-in-Repeat-2.ensures
