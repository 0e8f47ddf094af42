use Rattle.std.proofs.Common.{◌≡◌, ◌==◌, true, false, sym, ◌∙◌, arith}
use Rattle.tenant_model.specs.declared.rows.TheConstants.{MAX_HEIGHT}
use Rattle.tenant_model.specs.Walks.{height}
use Rattle.arena_rows.proofs.TopRows.{on_slot, top_within}
use Rattle.arena_rows.proofs.Tops.{height_is}
use Rattle.arena_steps.proofs.Births.{below_is_other, low_height}
use Rattle.arena_steps.proofs.advances.take_on_top.Goals as goal

pub height-requires : goal.height-requires
height-requires c =
    let h = c.requires.top in
    top_within c.args.parts.now c.args.slot (h.0, h.1, h.2.holds, h.3)

pub returns-then-height-eq-MAX_HEIGHT : goal.returns-then-height-eq-MAX_HEIGHT
returns-then-height-eq-MAX_HEIGHT c = λ s n rests on_top.
    let is = rests.holds in
    let high : height s.rows c.args.slot ≡ MAX_HEIGHT =
    sym (height_is s.rows is.places c.args.parts.now.config.slots c.args.parts.now.nests is.steady.formed.stacked is.nests c.args.slot) ∙ sym c.height.ensures ∙ c.if-height-eq-MAX_HEIGHT.true in
    let met : (height s.rows c.args.slot == MAX_HEIGHT) ≡ true = grind (arith, high) in
    rw met (c.fault.ensures s n is on_top)

pub take-requires-clause-slot : goal.take-requires-clause-slot
take-requires-clause-slot c =
    let h = c.requires.top in
    on_slot c.args.parts.now h.0 h.2.holds c.args.slot h.1 h.3

pub take-requires-clause-height : goal.take-requires-clause-height
take-requires-clause-height c =
    let h = c.requires.top in
    let is = h.2.holds in
    let low = low_height c.args.parts.now h.0 is c.args.slot (λ most. c.if-height-eq-MAX_HEIGHT.false (c.height.ensures ∙ most)) in
    let high = height_is h.0.rows is.places c.args.parts.now.config.slots c.args.parts.now.nests is.steady.formed.stacked is.nests c.args.slot in
    rw high low

pub returns : goal.returns
returns c = λ s n rests on_top.
    let low = low_height c.args.parts.now s rests.holds c.args.slot (λ most. c.if-height-eq-MAX_HEIGHT.false (c.height.ensures ∙ most)) in
    let fine : (height s.rows c.args.slot == MAX_HEIGHT) ≡ false = below_is_other (height s.rows c.args.slot) MAX_HEIGHT low in
    rw fine (c.take.ensures s rests)
