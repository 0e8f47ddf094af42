use Rattle.std.proofs.Common.{◌≡◌, sym, ◌∙◌, ap}
use Rattle.tenant_book.proofs.Adding.{adds_moves}
use Rattle.tenant_book.proofs.lives.Registry.add.Goals as goal

pub compare_exchange-requires : goal.compare_exchange-requires
compare_exchange-requires g c =
    let h = c.self.invariant.0 in
    let offer = c.plain-offer.ensures in
    let pen = c.no_pen-pen.ensures in (
      ap (λ w. w.tracked) h,
      c.requires.book ∙ sym (ap (λ w. w.book) h),
      pen.0 ∙ c.requires.book ∙ sym (ap (λ w. w.book) h),
      offer.0,
      rw (ap (λ w. w.key) h, pen.1, offer.1, offer.3) (adds_moves c.args.seen.now.log _ c.args.lives (sym c.requires.all)),
    )
