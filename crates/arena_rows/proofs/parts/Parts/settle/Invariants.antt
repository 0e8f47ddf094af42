use Rattle.std.specs.Prelude.{count_by, is_some}
use Rattle.tenant_model.specs.State.{State}
use Rattle.arena_rows.specs.Represents.{Holds, HoldsSomehow}
use Rattle.arena_rows.proofs.SettledRows.{SettledSome}
use Rattle.arena_rows.proofs.parts.Parts.settle.Given as goal

abbrev pub invariant-loop-row : goal.invariant-loop-row
invariant-loop-row l = record {
  held : HoldsSomehow l.self;
  settled : (s : State) → Holds l.fn.self s → SettledSome s l.self;
}

abbrev pub decreases-loop-row : goal.decreases-loop-row
decreases-loop-row l = count_by is_some l.self.table
