-- Lines that wait to be written, and those that were lost.
use Rattle.std.specs.Prelude.{ℕ, ◌+◌, Option, Some, None, sum_by}
use Rattle.host_records.specs.declared.outlet.Line.{Line}
use Rattle.host_records.specs.declared.outlet.Line.TheVariants.{Text, Lost}
use Rattle.host_records.specs.declared.outlet.Lines.{Lines}

-- how many lines are told by what is written
abbrev pub worth : Line → ℕ
worth (Text text) = 1
worth (Lost lines) = lines

abbrev pub worth_if : Option Line → ℕ
worth_if None = 0
worth_if (Some line) = worth line

-- how many lines wait, or were lost and are to be told of
abbrev pub owed : Lines → ℕ
owed l = sum_by worth l.waiting.items + l.lost
