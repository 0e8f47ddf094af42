-- The cells: at most one number for each key on each slot.
use Rattle.std.specs.Prelude.{ℕ, ℤ, pos, List, [], replicate, Option, Some, None, is_some, unwrap_or, slice_index_or, slice_set, fold, count_by}
use Rattle.std.specs.Int.{int_wrapping_add, w64}
use Rattle.thread_cells.specs.declared.tables.TheConstants.{KEYS, SLOTS}

-- the cells, by key and by slot
abbrev pub Table : Type 0
Table = List (List (Option ℤ))

abbrev pub no_cells : Table
no_cells = replicate KEYS (replicate SLOTS None)

-- the cell of a key on a slot
abbrev pub cell : Table → ℕ → ℕ → Option ℤ
cell t k slot = slice_index_or (slice_index_or t k []) slot None

abbrev pub with_cell : Table → ℕ → ℕ → ℤ → Table
with_cell t k slot v = slice_set t k (slice_set (slice_index_or t k []) slot (Some v))

-- the sum and the number of a key's cells
abbrev pub cell_sum : Table → ℕ → ℤ
cell_sum t k = fold (λ sum c. int_wrapping_add w64 sum (unwrap_or c (pos 0))) (pos 0) (slice_index_or t k [])

abbrev pub cell_count : Table → ℕ → ℕ
cell_count t k = count_by (λ (c : Option ℤ). is_some c) (slice_index_or t k [])
