use Rattle.std.specs.Prelude.{◌≡◌, length}
use Rattle.tenant_book.proofs.lives.Registry.enter.Given as goal

abbrev pub invariant-loop : goal.invariant-loop
invariant-loop g l = (l.seen.book ≡ g.J.Naming.registry) × (l.lives ≡ length l.seen.log)
    × (goal.iterator-loop g).can_next l.iterator' × (goal.iterator-loop g).is_finite l.iterator'
