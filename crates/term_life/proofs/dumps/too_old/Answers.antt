use Rattle.std.proofs.Common.{◌<◌, sym}
use Rattle.term_life.specs.Dumps.{newer}
use Rattle.term_life.proofs.Newest.{all_newest}
use Rattle.term_life.proofs.dumps.too_old.Goals as goal

pub returns-else-newer_than-keep-clause-newest : goal.returns-else-newer_than-keep-clause-newest
returns-else-newer_than-keep-clause-newest c is =
    let few : newer c.in_ok-oldest.oldest c.args.numbers.now < c.args.keep = rw (sym c.newer_than.ensures) c.if-newer_than-keep.false in
    all_newest c.args.keep c.in_ok-oldest.oldest c.args.numbers.now c.in_ok-oldest.ensures.oldest few
