use Rattle.std.proofs.Common.{◌+◌, map, subst, sym, arith}
use Rattle.term_life.specs.Lives.{Follow, left_if, next_term}
use Rattle.term_life.proofs.Orders.{appended, left_follow}
use Rattle.term_life.proofs.terms.Terms.open.Goals as goal

pub invariant_of-self-2 : goal.invariant_of-self-2
invariant_of-self-2 c =
    let before = c.self.invariant in
    let base = c.self.inside.base in
    let most = c.if-room-self.false in
    let terms = map (left_if c.args.why) c.self.inside.terms.items in
    let term = next_term c.args.room (record { terms = c.self.inside.terms.items; next = c.self.inside.next; base = base }) in (
      subst (λ ts. Follow 0 ts (base + c.args.room)) (sym c.in_ok-add_next.ensures.added) (appended 0 terms term (left_follow c.args.why 0 c.self.inside.terms.items base before.0)),
      omega (arith, most, before.1),
    )
