use Rattle.request_reader.proofs.NewlinePlaces.{HasNoNewline-from_search, IsFirstNewline-from_search}
use Rattle.request_reader.proofs.newlines.newline_from.Goals as goal

pub returns-in_err-place-clause-first : goal.returns-in_err-place-clause-first
returns-in_err-place-clause-first c = rw c.from_residual.ensures (HasNoNewline-from_search c.args.bytes.now c.args.start c.requires.before c.requires.within c.in_err-place.ensures)

pub returns-clause-first : goal.returns-clause-first
returns-clause-first c =
    let found = c.in_ok-place.ensures in
    IsFirstNewline-from_search c.args.bytes.now c.args.start c.requires.before c.in_ok-place.place found.0 found.1
