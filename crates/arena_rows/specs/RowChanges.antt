-- The open rows after a change of one.
use Rattle.std.specs.Prelude.{ℕ}
use Rattle.arena_rows.specs.declared.rows.OpenRow.{OpenRow}
use Rattle.arena_rows.specs.OpenRows.{OpenRows, changed_at}

-- the row at a place has changed, if there is one
abbrev pub row_changed : OpenRows → (place : ℕ) → (OpenRow → OpenRow) → OpenRows
row_changed rows p f = record rows { table = changed_at rows.table p f }
