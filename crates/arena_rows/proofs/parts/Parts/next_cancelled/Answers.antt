use Rattle.std.proofs.Common.{◌≡◌, Some, sym, ap, ◌∙◌, subst}
use Rattle.arena_rows.specs.declared.rows.OpenRow.{OpenRow}
use Rattle.arena_rows.specs.Held.{Held}
use Rattle.arena_rows.specs.OpenRows.{OpenRows, IsDoomed}
use Rattle.arena_rows.specs.Represents.{at_place}
use Rattle.arena_rows.specs.Endings.{rows_of}
use Rattle.arena_rows.proofs.Started.{some_is}
use Rattle.arena_rows.proofs.parts.Parts.next_cancelled.Goals as goal

pub returns-clause-some : goal.returns-clause-some
returns-clause-some c =
    let doomed = subst (λ (a : Held). IsDoomed (rows_of a) c.in_ok-place.place) c.self.view_is c.in_ok-place.ensures.some in
    let there : at_place c.args.self.now.table c.in_ok-place.place ≡ Some c.entry_at.result.now =
    ap (λ (a : Held). at_place a.table c.in_ok-place.place) (sym c.self.view_is) ∙ ap (λ (r : OpenRows). at_place r.table c.in_ok-place.place) (sym c.in_ok-place.ensures.same) ∙
    c.entry_at.ensures in
    record { doomed = doomed; number = ap (λ (e : OpenRow). e.number) (some_is doomed.entry c.entry_at.result.now (sym doomed.there ∙ there)) }
