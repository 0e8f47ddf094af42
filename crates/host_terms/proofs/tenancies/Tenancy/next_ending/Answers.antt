use Rattle.std.proofs.Common.{◌≡◌, ◌∙◌, sym, subst}
use Rattle.std.specs.Prelude.{IfSome, slice_get}
use Rattle.std.specs.Arc.{arc_value}
use Rattle.host_terms.specs.Bookings.{seen_of}
use Rattle.host_terms.specs.Looks.{IsDone, IsDoneTerm}
use Rattle.host_terms.proofs.BothThere.{both_there}
use Rattle.host_terms.proofs.tenancies.Tenancy.next_ending.Goals as goal

pub returns : goal.returns
returns g c unforced =
    let ending = c.in_ok-ending.ending in
    let place = c.in-Some.place in
    let same = c.deref_mut.ensures.value ∙ sym c.deref.ensures in
    let taken = subst (λ l. IfSome (slice_get l.live.items place) (λ t. (ending.term ≡ seen_of (arc_value t)) × (ending.config ≡ (arc_value t).tenant))) same c.in_ok-ending.ensures.term in
    let both = both_there c.deref.result.now.live.items place (λ t. IsDoneTerm (arc_value t)) _ c.in-Some.ensures.place (c.in-Some.ensures.done unforced) taken in
    let of_term = subst (λ term. IsDone term (arc_value both.it).tenant) (sym both.other.0) both.one in
    subst (λ config. IsDone ending.term config) (sym both.other.1) of_term
