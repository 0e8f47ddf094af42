use Rattle.kept_values.proofs.Parts.{in_then, in_if, in_loop, in_repeat}
use Rattle.kept_values.proofs.keep.+keep_at.Goals as goal

pub returns-in_ok-keep_at-in-Then-2 : goal.returns-in_ok-keep_at-in-Then-2
returns-in_ok-keep_at-in-Then-2 t c =
    in_then c.args.v c.args.s.now
    (record { ptr = c.in-Then.a.ptr; alloc = c.in-Then.a.alloc; value = tt })
    (record { ptr = c.in-Then.b.ptr; alloc = c.in-Then.b.alloc; value = tt })
    c.in-Then.a.value c.in-Then.b.value c.deref_mut.result.now c.keep_at.new.s c.deref_mut.ensures.value c.in_ok-keep_at-in-Then.ensures
    c.deref_mut-in-Then.result.now c.keep_at-in-Then.new.s c.deref_mut-in-Then.ensures.value c.in_ok-keep_at-in-Then-2.ensures c.in-Then.is

pub returns-in_ok-keep_at-in-If-2 : goal.returns-in_ok-keep_at-in-If-2
returns-in_ok-keep_at-in-If-2 t c =
    in_if c.args.v c.args.s.now
    (record { ptr = c.in-If.a.ptr; alloc = c.in-If.a.alloc; value = tt })
    (record { ptr = c.in-If.b.ptr; alloc = c.in-If.b.alloc; value = tt })
    c.in-If.a.value c.in-If.b.value c.deref_mut-in-If.result.now c.keep_at-in-If.new.s c.deref_mut-in-If.ensures.value c.in_ok-keep_at-in-If.ensures
    c.deref_mut-in-If-2.result.now c.keep_at-in-If-2.new.s c.deref_mut-in-If-2.ensures.value c.in_ok-keep_at-in-If-2.ensures c.in-If.field-0 c.in-If.is

pub returns-in_ok-keep_at-in-Loop-2 : goal.returns-in_ok-keep_at-in-Loop-2
returns-in_ok-keep_at-in-Loop-2 t c =
    in_loop c.args.v c.args.s.now
    (record { ptr = c.in-Loop.b.ptr; alloc = c.in-Loop.b.alloc; value = tt })
    (record { ptr = c.in-Loop.s.ptr; alloc = c.in-Loop.s.alloc; value = tt })
    c.in-Loop.b.value c.in-Loop.s.value c.deref_mut-in-Loop.result.now c.keep_at-in-Loop.new.s c.deref_mut-in-Loop.ensures.value c.in_ok-keep_at-in-Loop.ensures
    c.deref_mut-in-Loop-2.result.now c.keep_at-in-Loop-2.new.s c.deref_mut-in-Loop-2.ensures.value c.in_ok-keep_at-in-Loop-2.ensures c.in-Loop.field-0 c.in-Loop.is

pub returns-in_ok-keep_at-in-Repeat-2 : goal.returns-in_ok-keep_at-in-Repeat-2
returns-in_ok-keep_at-in-Repeat-2 t c =
    in_repeat c.args.v c.args.s.now
    (record { ptr = c.in-Repeat.b.ptr; alloc = c.in-Repeat.b.alloc; value = tt })
    (record { ptr = c.in-Repeat.s.ptr; alloc = c.in-Repeat.s.alloc; value = tt })
    c.in-Repeat.b.value c.in-Repeat.s.value c.deref_mut-in-Repeat.result.now c.keep_at-in-Repeat.new.s c.deref_mut-in-Repeat.ensures.value c.in_ok-keep_at-in-Repeat.ensures
    c.deref_mut-in-Repeat-2.result.now c.keep_at-in-Repeat-2.new.s c.deref_mut-in-Repeat-2.ensures.value c.in_ok-keep_at-in-Repeat-2.ensures c.in-Repeat.field-0 c.in-Repeat.is
