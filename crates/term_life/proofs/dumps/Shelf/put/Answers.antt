use Rattle.std.proofs.Common.{◌≡◌, None}
use Rattle.term_life.proofs.Staying.{newest_after}
use Rattle.term_life.proofs.dumps.Shelf.put.Goals as goal

pub returns-clause-newest : goal.returns-clause-newest
returns-clause-newest c = newest_after c.args.keep c.args.number c.args.self.now c.add.new.self c.take_too_old.new.self c.take_too_old.result
    c.in_ok-add.ensures.added c.take_too_old.ensures.was_there c.take_too_old.ensures.too_old c.take_too_old.ensures.taken c.take_too_old.ensures.newest c.take_too_old.ensures.kept

pub returns-clause-stay : goal.returns-clause-stay
returns-clause-stay c is =
    let none : c.take_too_old.result ≡ None = cc in
    rw (c.take_too_old.ensures.kept none) (c.take_too_old.ensures.newest none)
