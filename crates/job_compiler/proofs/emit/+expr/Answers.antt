use Rattle.std.proofs.Common.{◌≡◌, ◌+◌, ◌++◌, length, sym, ap, subst, ◌∙◌, arith, length-append}
use Rattle.job_compiler.specs.declared.registers.TheConstants.{VIRTUAL_REGISTERS}
use Rattle.job_compiler.specs.Code.{both_code, left_of, right_of}
use Rattle.job_compiler.specs.Registers.{AreBothLow, IsWantedLow}
use Rattle.job_compiler.specs.Wanted.{wanted_code}
use Rattle.job_compiler.proofs.Nodes.{nodes}
use Rattle.job_compiler.proofs.Emitted.{emitted_two, two_low, two_size}
use Rattle.job_compiler.proofs.emit.+expr.Goals as goal

pub emit_expr-emit_both-left-requires : goal.emit_expr-emit_both-left-requires
emit_expr-emit_both-left-requires t c =
    let free = c.args.free in
    let a = c.in-Two.a.value in
    let b = c.in-Two.b.value in
    let ea : c.deref.result.now ≡ a = c.deref.ensures in
    let eb : c.deref-in-Two.result.now ≡ b = c.deref-in-Two.ensures in
    let size : length (wanted_code c.args.e.now c.args.into free) ≡ length (both_code a b free) + 1 =
    ap (λ e. length (wanted_code e c.args.into free)) c.in-Two.is
    ∙ two_size c.in-Two.op (record { ptr = c.in-Two.a.ptr; alloc = c.in-Two.a.alloc; value = tt }) a (record { ptr = c.in-Two.b.ptr; alloc = c.in-Two.b.alloc; value = tt }) b c.args.into free in
    let low : AreBothLow VIRTUAL_REGISTERS a b free =
    two_low VIRTUAL_REGISTERS c.in-Two.op (record { ptr = c.in-Two.a.ptr; alloc = c.in-Two.a.alloc; value = tt }) a (record { ptr = c.in-Two.b.ptr; alloc = c.in-Two.b.alloc; value = tt }) b
    c.args.into free
    (subst (λ e. IsWantedLow VIRTUAL_REGISTERS e c.args.into free) c.in-Two.is c.requires.low) in
    let low2 : AreBothLow VIRTUAL_REGISTERS c.deref.result.now c.deref-in-Two.result.now free =
    subst (λ x. AreBothLow VIRTUAL_REGISTERS x c.deref-in-Two.result.now free) (sym ea) (subst (λ x. AreBothLow VIRTUAL_REGISTERS a x free) (sym eb) low) in
    let len : length (both_code c.deref.result.now c.deref-in-Two.result.now free) ≡ length (both_code a b free) =
    ap (λ x. length (both_code x c.deref-in-Two.result.now free)) ea ∙ ap (λ x. length (both_code a x free)) eb in
    (omega (arith, c.decreases, ap nodes c.in-Two.is, ap nodes ea, ap nodes eb), (low2, omega (arith, len, size, c.requires.room)))

pub emit_expr-put-requires-in-Two : goal.emit_expr-put-requires-in-Two
emit_expr-put-requires-in-Two t c =
    let free = c.args.free in
    let a = c.in-Two.a.value in
    let b = c.in-Two.b.value in
    let size : length (wanted_code c.args.e.now c.args.into free) ≡ length (both_code a b free) + 1 =
    ap (λ e. length (wanted_code e c.args.into free)) c.in-Two.is
    ∙ two_size c.in-Two.op (record { ptr = c.in-Two.a.ptr; alloc = c.in-Two.a.alloc; value = tt }) a (record { ptr = c.in-Two.b.ptr; alloc = c.in-Two.b.alloc; value = tt }) b c.args.into free in
    let len : length (both_code c.deref.result.now c.deref-in-Two.result.now free) ≡ length (both_code a b free) =
    ap (λ x. length (both_code x c.deref-in-Two.result.now free)) c.deref.ensures ∙ ap (λ x. length (both_code a x free)) c.deref-in-Two.ensures in
    omega (arith, len, size, c.requires.room, c.emit_both-left.ensures.len)

pub emit_expr-returns-in-Two-clause-code : goal.emit_expr-returns-in-Two-clause-code
emit_expr-returns-in-Two-clause-code t c =
    let free = c.args.free in
    let a = c.in-Two.a.value in
    let b = c.in-Two.b.value in
    let c0 = c.args.code.now in
    let ea : c.deref.result.now ≡ a = c.deref.ensures in
    let eb : c.deref-in-Two.result.now ≡ b = c.deref-in-Two.ensures in
    let e1 : c.emit_both-left.new.code ≡ c0 ++ both_code a b free =
    c.emit_both-left.ensures.code ∙ ap (λ x. c0 ++ both_code x c.deref-in-Two.result.now free) ea ∙ ap (λ x. c0 ++ both_code a x free) eb in
    let el : c.emit_both-left.result.0 ≡ left_of a b free =
    c.emit_both-left.ensures.left ∙ ap (λ x. left_of x c.deref-in-Two.result.now free) ea ∙ ap (λ x. left_of a x free) eb in
    let er : c.emit_both-left.result.1 ≡ right_of a b free =
    c.emit_both-left.ensures.right ∙ ap (λ x. right_of x c.deref-in-Two.result.now free) ea ∙ ap (λ x. right_of a x free) eb in
    emitted_two c.in-Two.op (record { ptr = c.in-Two.a.ptr; alloc = c.in-Two.a.alloc; value = tt }) a
    (record { ptr = c.in-Two.b.ptr; alloc = c.in-Two.b.alloc; value = tt }) b c.args.into free _ _ _ c0 _ _ e1 c.written-in-Two.ensures el er c.put-in-Two.ensures
    ∙ ap (λ e. c0 ++ wanted_code e c.args.into free) (sym c.in-Two.is)

pub emit_expr-returns-in-Two-clause-len : goal.emit_expr-returns-in-Two-clause-len
emit_expr-returns-in-Two-clause-len t c =
    let free = c.args.free in
    let a = c.in-Two.a.value in
    let b = c.in-Two.b.value in
    let size : length (wanted_code c.args.e.now c.args.into free) ≡ length (both_code a b free) + 1 =
    ap (λ e. length (wanted_code e c.args.into free)) c.in-Two.is
    ∙ two_size c.in-Two.op (record { ptr = c.in-Two.a.ptr; alloc = c.in-Two.a.alloc; value = tt }) a (record { ptr = c.in-Two.b.ptr; alloc = c.in-Two.b.alloc; value = tt }) b c.args.into free in
    let len : length (both_code c.deref.result.now c.deref-in-Two.result.now free) ≡ length (both_code a b free) =
    ap (λ x. length (both_code x c.deref-in-Two.result.now free)) c.deref.ensures ∙ ap (λ x. length (both_code a x free)) c.deref-in-Two.ensures in
    let put : length c.put-in-Two.new.self ≡ length c.emit_both-left.new.code + 1 = ap length c.put-in-Two.ensures ∙ length-append c.emit_both-left.new.code _ in
    omega (arith, len, size, put, c.emit_both-left.ensures.len)
