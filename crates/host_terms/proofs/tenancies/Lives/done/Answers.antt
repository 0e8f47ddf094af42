use Rattle.std.proofs.Common.{sym, subst, refl, length, arith}
use Rattle.std.specs.Prelude.{IfSome}
use Rattle.std.specs.Arc.{arc_value}
use Rattle.std.proofs.lemmas.Option.{slice_get_read}
use Rattle.host_terms.specs.Looks.{IsDoneTerm}
use Rattle.host_terms.proofs.tenancies.Lives.done.Goals as goal

pub returns-then-may_end-clause-done : goal.returns-then-may_end-clause-done
returns-then-may_end-clause-done g c unforced =
    let live = c.args.self.now.live.items in
    let read = slice_get_read live (length live) c.loop-place.place c.index.result.now refl (omega arith) c.index.ensures in
    let done = subst (λ t. IsDoneTerm t) c.deref.ensures (c.may_end.ensures c.if-may_end.true unforced) in
    subst (λ o. IfSome o (λ t. IsDoneTerm (arc_value t))) (sym read) done
