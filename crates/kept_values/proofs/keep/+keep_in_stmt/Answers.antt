use Rattle.std.proofs.Common.{Some}
use Rattle.values_again.proofs.Same.{assigned, returned, stored, made, thens, chosen, looped, repeated}
use Rattle.kept_values.proofs.keep.+keep_in_stmt.Goals as goal

pub returns-in-Then : goal.returns-in-Then
returns-in-Then t c =
    thens c.args.v (Some c.args.e.now) c.args.s.now
    (record { ptr = c.in-Then.a.ptr; alloc = c.in-Then.a.alloc; value = tt })
    (record { ptr = c.in-Then.b.ptr; alloc = c.in-Then.b.alloc; value = tt })
    c.in-Then.a.value c.in-Then.b.value c.deref_mut.result.now c.keep_in_stmt.new.s c.deref_mut.ensures.value c.keep_in_stmt.ensures
    c.deref_mut-in-Then.result.now c.keep_in_stmt-in-Then.new.s c.in-Then.is c.deref_mut-in-Then.ensures.value c.keep_in_stmt-in-Then.ensures

pub returns-in-Assign : goal.returns-in-Assign
returns-in-Assign t c = assigned c.args.v (Some c.args.e.now) c.args.s.now c.in-Assign.field-0 c.in-Assign.d c.keep_in_value.new.d c.in-Assign.is c.keep_in_value.ensures

pub returns-in-If : goal.returns-in-If
returns-in-If t c =
    chosen c.args.v (Some c.args.e.now) c.args.s.now
    (record { ptr = c.in-If.a.ptr; alloc = c.in-If.a.alloc; value = tt })
    (record { ptr = c.in-If.b.ptr; alloc = c.in-If.b.alloc; value = tt })
    c.in-If.a.value c.in-If.b.value c.deref_mut-in-If.result.now c.keep_in_stmt-in-If.new.s c.deref_mut-in-If.ensures.value c.keep_in_stmt-in-If.ensures
    c.in-If.c c.keep_in_test.new.c c.deref_mut-in-If-2.result.now c.keep_in_stmt-in-If-2.new.s c.in-If.is c.keep_in_test.ensures
    c.deref_mut-in-If-2.ensures.value c.keep_in_stmt-in-If-2.ensures

pub returns-in-Loop : goal.returns-in-Loop
returns-in-Loop t c =
    looped c.args.v (Some c.args.e.now) c.args.s.now
    (record { ptr = c.in-Loop.b.ptr; alloc = c.in-Loop.b.alloc; value = tt })
    (record { ptr = c.in-Loop.s.ptr; alloc = c.in-Loop.s.alloc; value = tt })
    c.in-Loop.b.value c.in-Loop.s.value c.deref_mut-in-Loop.result.now c.keep_in_stmt-in-Loop.new.s c.deref_mut-in-Loop.ensures.value c.keep_in_stmt-in-Loop.ensures
    c.in-Loop.c c.keep_in_test-in-Loop.new.c c.deref_mut-in-Loop-2.result.now c.keep_in_stmt-in-Loop-2.new.s c.in-Loop.is c.keep_in_test-in-Loop.ensures
    c.deref_mut-in-Loop-2.ensures.value c.keep_in_stmt-in-Loop-2.ensures

pub returns-in-Repeat : goal.returns-in-Repeat
returns-in-Repeat t c =
    repeated c.args.v (Some c.args.e.now) c.args.s.now
    (record { ptr = c.in-Repeat.b.ptr; alloc = c.in-Repeat.b.alloc; value = tt })
    (record { ptr = c.in-Repeat.s.ptr; alloc = c.in-Repeat.s.alloc; value = tt })
    c.in-Repeat.b.value c.in-Repeat.s.value c.deref_mut-in-Repeat.result.now c.keep_in_stmt-in-Repeat.new.s c.deref_mut-in-Repeat.ensures.value c.keep_in_stmt-in-Repeat.ensures
    c.in-Repeat.c c.keep_in_test-in-Repeat.new.c c.deref_mut-in-Repeat-2.result.now c.keep_in_stmt-in-Repeat-2.new.s c.in-Repeat.is c.keep_in_test-in-Repeat.ensures
    c.deref_mut-in-Repeat-2.ensures.value c.keep_in_stmt-in-Repeat-2.ensures

pub returns-in-Return : goal.returns-in-Return
returns-in-Return t c = returned c.args.v (Some c.args.e.now) c.args.s.now c.in-Return.d c.keep_in_expr.new.d c.in-Return.is c.keep_in_expr.ensures

pub returns-in-Make : goal.returns-in-Make
returns-in-Make t c = made c.args.v (Some c.args.e.now) c.args.s.now c.in-Make.field-0 c.in-Make.field-1 c.in-Make.a c.keep_in_expr-in-Make.new.d c.in-Make.b
    c.keep_in_expr-in-Make-2.new.d c.in-Make.is c.keep_in_expr-in-Make.ensures c.keep_in_expr-in-Make-2.ensures

pub returns-in-Store : goal.returns-in-Store
returns-in-Store t c = stored c.args.v (Some c.args.e.now) c.args.s.now c.in-Store.field-0 c.in-Store.d c.keep_in_expr-in-Store.new.d c.in-Store.is c.keep_in_expr-in-Store.ensures
