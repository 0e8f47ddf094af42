use Rattle.std.proofs.Common.{◌≡◌, ap, sym, subst, ◌∙◌, arith, inl, inr}
use Rattle.std.specs.Prelude.{slice_index_or}
use Rattle.std.proofs.lemmas.Bool.{cases_eq}
use Rattle.std.proofs.lemmas.List.{get_or_default}
use Rattle.tenant_book.specs.Fronts.{BeginsIn, FrontData}
use Rattle.tenant_lock.proofs.held.Held.meet_all.Goals as goal

pub loop-front-preserved : goal.loop-front-preserved
loop-front-preserved g c = λ k z low.
    let fronts = c.args.fronts.now in
    let at = c.loop-front.front-index in
    elim (cases_eq k at) [
      | inl here ↦
          let item : c.front-item.result ≡ slice_index_or fronts k z =
          c.front-item.is ∙ get_or_default fronts at c.front-item.result z c.loop-front-test.true ∙ ap (λ j. slice_index_or fronts j z) (sym here) in
          subst (λ (f : FrontData). f.life ≡ c.args.self.now.life → BeginsIn f c.args.self.now.cell.history) item c.meet.ensures
      | inr other ↦ c.loop-front.invariant k z (omega (arith, low, other))
    ]

pub returns : goal.returns
returns g c = λ k d low. c.loop-front.invariant k d (omega (arith, low, c.loop-front-test.false))
