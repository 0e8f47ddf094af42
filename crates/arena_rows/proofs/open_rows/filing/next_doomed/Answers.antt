use Rattle.std.proofs.Common.{◌≡◌, [], Some, None, length, refl, sym, ap, ◌∙◌, subst, arith}
use Rattle.std.specs.Prelude.{slice_index_or}
use Rattle.place_lists.specs.Filing.{Filing, with_filed}
use Rattle.place_lists.proofs.Filed.{count-filed}
use Rattle.arena_rows.specs.OpenRows.{AreFiled, list_for}
use Rattle.arena_rows.proofs.RowsFiled.{eq_some, eq_none, doomed_by, refiled, none_doomed}
use Rattle.arena_rows.proofs.open_rows.filing.next_doomed.Goals as goal

pub returns-then-eq-clause-some : goal.returns-then-eq-clause-some
returns-then-eq-clause-some c =
    let table = c.args.table.now in
    let forest = c.args.contexts.now in
    let filing = c.loop-place.filing in
    let k = c.loop-place.invariant in
    let place = c.in-Some.place in
    let list : list_for forest (slice_index_or table place None) ≡ Some (length forest) =
    sym c.list_at-list.ensures ∙ eq_some c.list_at-list.result c.args.doomed (sym c.eq.ensures ∙ c.if-eq.true) ∙ ap Some k.doomed_last in
    let doomed = doomed_by forest (slice_index_or table place None) list in
    record { entry = doomed.0; there = doomed.1; waits = doomed.2; cancelled = doomed.3 }

pub loop-place-preserved : goal.loop-place-preserved
loop-place-preserved c =
    let table = c.args.table.now in
    let forest = c.args.contexts.now in
    let filing = c.loop-place.filing in
    let k = c.loop-place.invariant in
    let place = c.in-Some.place in
    let list : c.list_at-list.result ≡ list_for forest (slice_index_or table place None) = c.list_at-list.ensures in
    subst (λ (f : Filing). AreFiled table forest f c.args.doomed []) (sym (c.file.ensures ∙ ap (with_filed filing place) list))
    (refiled table forest filing c.args.doomed [] k place c.args.doomed c.in-Some.ensures.some)

pub loop-place-smaller : goal.loop-place-smaller
loop-place-smaller c =
    let filing = c.loop-place.filing in
    let fewer = count-filed filing c.in-Some.place c.args.doomed c.list_at-list.result c.in-Some.ensures.some (eq_none c.list_at-list.result c.args.doomed (sym c.eq.ensures ∙ c.if-eq.false)) in
    rw c.file.ensures (omega (arith, fewer))

pub returns-clause-none : goal.returns-clause-none
returns-clause-none c none = none_doomed c.args.table.now c.args.contexts.now c.loop-place.filing c.args.doomed [] c.loop-place.invariant (c.in_default.ensures.none refl)
