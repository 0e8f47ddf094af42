use Rattle.std.proofs.Common.{◌≡◌, ◌+◌, List, [], ◌∷◌, ◌++◌, length, ap, sym, subst, ◌∙◌, arith, length-append}
use Rattle.tenant_record.specs.Cell.{CellData}
use Rattle.tenant_book.specs.Fronts.{AreMoments, FrontData, GoesFrom, IsMoment}
use Rattle.tenant_book.specs.Rules.{life_at}
use Rattle.tenant_book.proofs.Moments.{moments_more}
use Rattle.tenant_book.proofs.book.Front.add.Goals as goal

pub invariant_of-self : goal.invariant_of-self
invariant_of-self g c =
    let h = c.self.inside in
    let kept = c.self.invariant in
    let cell = c.args.cell.now in
    let config = (life_at h.place.log h.life).config in
    let again = c.again-seen.ensures in
    let added : c.exchange.new.seen.log ≡ h.seen.log ++ cell ∷ [] = c.exchange.ensures.added c.if-exchange-len.false ∙ ap (λ s. s.log ++ cell ∷ []) again in
    let is : IsMoment config cell = subst (λ (f : FrontData). IsMoment f.config cell) (sym c.self.view_is) c.requires.moment in
    let goes : GoesFrom h.seen.log cell = subst (λ (f : FrontData). GoesFrom f.log cell) (sym c.self.view_is) c.requires.goes_on in (
      omega (arith, kept.0, ap length added, length-append h.seen.log (cell ∷ [])),
      kept.1,
      kept.2,
      kept.3 ∙ sym (ap (λ s. s.book) again) ∙ sym c.exchange.ensures.book,
      subst (λ (log : List CellData). AreMoments config log) (sym added) (moments_more config h.seen.log cell kept.4 is goes),
    )
