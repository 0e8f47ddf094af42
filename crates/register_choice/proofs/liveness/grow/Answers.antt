use Rattle.std.proofs.Common.{◌≡◌, ◌-◌, ◌<◌, length, get_or, map, Some, sym, ap, ◌∙◌, arith}
use Rattle.std.specs.Prelude.{slice_get}
use Rattle.std.proofs.Math.ListN.{get_or-map}
use Rattle.std.proofs.lemmas.List.{length-map}
use Rattle.std.proofs.lemmas.Option.{slice_get-get_or}
use Rattle.job_compiler.specs.Virtual.{instr_of}
use Rattle.register_choice.proofs.Reasons.{read_here, row_set}
use Rattle.register_choice.proofs.liveness.grow.Goals as goal

pub loop-place-preserved-then-ne : goal.loop-place-preserved-then-ne
loop-place-preserved-then-ne c =
    let xs = c.args.instrs.now in
    let vs = map instr_of xs in
    let p = c.loop-place.place - 1 in
    let item = c.index-instrs-place.result in
    let rows = c.loop-place.rows in
    let within : p < length vs = omega (arith, c.loop-place-test.true, c.loop-place.auto.place, length-map xs instr_of) in
    let value : get_or vs p (instr_of item) ≡ instr_of item = get_or-map instr_of xs p item ∙ ap instr_of (sym c.index-instrs-place.is) in
    let here : slice_get vs p ≡ Some (instr_of item) = slice_get-get_or vs p (instr_of item) within ∙ ap Some value in
    row_set vs rows p c.before-row.result (omega (arith, c.if-place-rows.true)) c.loop-place.invariant
    (λ u live. read_here vs rows p (instr_of item) u here c.loop-place.invariant (c.before-row.ensures u live))
