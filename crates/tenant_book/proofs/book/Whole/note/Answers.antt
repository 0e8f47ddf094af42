use Rattle.std.proofs.Common.{sym, subst}
use Rattle.tenant_book.specs.Fronts.{FrontData, GoesFrom}
use Rattle.tenant_book.proofs.book.Whole.note.Goals as goal

pub add-requires-clause-goes_on : goal.add-requires-clause-goes_on
add-requires-clause-goes_on g c = subst (λ (f : FrontData). GoesFrom f.log c.args.cell.now) (sym c.self.view_is) c.requires.goes_on
