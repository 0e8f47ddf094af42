use Rattle.std.proofs.Common.{ap, sym, subst}
use Rattle.tenant_book.specs.Fronts.{BeginsIn, Finds, FrontData}
use Rattle.tenant_book.proofs.Beginning.{begins_there}
use Rattle.tenant_lock.proofs.held.Held.meet.Goals as goal

pub returns-then-life : goal.returns-then-life
returns-then-life g c = λ same.
    let cell = c.args.self.now.cell in
    let finds = subst (λ (f : FrontData). Finds f c.show_all.new.me cell) c.again-me.ensures c.show_all.ensures.front in
    begins_there c.args.front.now c.show_all.new.me cell finds c.life-then-life.ensures.right
