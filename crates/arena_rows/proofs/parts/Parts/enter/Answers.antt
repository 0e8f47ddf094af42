use Rattle.arena_rows.proofs.Starts.{counted_rests}
use Rattle.arena_rows.proofs.parts.Parts.enter.Goals as goal

pub returns : goal.returns
returns c = λ s rests. let new = c.count.ensures in rw new (counted_rests c.args.self.now s rests)
