use Rattle.std.proofs.Common.{◌+◌}
use Rattle.arena_rows.specs.Represents.{HoldsSomehow}
use Rattle.arena_rows.proofs.Starts.{counted_holds}
use Rattle.arena_rows.proofs.parts.Parts.enter_and_settle.Goals as goal

pub settle-requires : goal.settle-requires
settle-requires c =
    let h : HoldsSomehow c.args.self.now = c.requires.held in
    let new = c.count.ensures in
    rw new (record h.0 { entries = h.0.entries + 1 }, counted_holds c.args.self.now h.0 h.1)

pub returns : goal.returns
returns c = λ s is.
    let new = c.count.ensures in
    c.settle.ensures (record s { entries = s.entries + 1 }) (rw new (counted_holds c.args.self.now s is))
