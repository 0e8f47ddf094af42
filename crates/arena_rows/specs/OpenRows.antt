-- The open rows and their contexts, and how the rows that wait are filed.
use Rattle.std.specs.Prelude.{◌≡◌, ◌⊎◌, ◌+◌, ◌≤◌, ℕ, nat_lt, Bool, true, false, if◌then◌else◌, List, [], Option, Some, None, length, option_map, slice_index_or, slice_set}
use Rattle.cancel_context.specs.Forest.{Forest, IsForest, is_cancelled}
use Rattle.place_lists.specs.Filing.{Filing, filed_in}
use Rattle.arena_rows.specs.declared.rows.OpenRow.{OpenRow}
use Rattle.arena_rows.specs.declared.rows.Stage.{Stage}
use Rattle.arena_rows.specs.declared.rows.Stage.TheVariants as stage

-- the open rows by their places, and the contexts
pub record OpenRows : Type 0 where
  pub table : List (Option OpenRow)
  pub contexts : Forest

abbrev pub is_waiting : Stage → Bool
is_waiting (stage.Waiting f) = true
is_waiting (stage.Live slot h) = false

-- A row that waits stands at a place, and its context is cancelled.
pub record IsDoomed (rows : OpenRows) (p : ℕ) : Type 0 where
  pub entry : OpenRow
  pub there : slice_index_or rows.table p None ≡ Some entry
  pub waits : is_waiting entry.stage ≡ true
  pub cancelled : is_cancelled rows.contexts entry.context ≡ true

-- No row waits whose context is cancelled.
abbrev pub AreFine : OpenRows → Type 0
AreFine rows = (p : ℕ) (e : OpenRow) → slice_index_or rows.table p None ≡ Some e → is_waiting e.stage ≡ true → is_cancelled rows.contexts e.context ≡ false

-- Where a row is filed: in no list unless it waits; with the doomed, whose list comes after those of the contexts, if its context is cancelled; and else in the list of its context.
abbrev pub list_of_context : Forest → ℕ → Option ℕ
list_of_context forest c = if is_cancelled forest c then Some (length forest) else if nat_lt c (length forest) then Some c else None

abbrev pub list_for : Forest → Option OpenRow → Option ℕ
list_for forest None = None
list_for forest (Some e) = if is_waiting e.stage then list_of_context forest e.context else None

-- A row that waits is found if its context is cancelled: it is with the doomed, or its context is not cancelled now and leads to it. A context that is not there is never cancelled.
abbrev pub IsFiled : Forest → (filed : Option ℕ) → (context : ℕ) → Type 0
IsFiled forest filed c = (filed ≡ Some (length forest)) ⊎ ((is_cancelled forest c ≡ false) × ((filed ≡ Some c) ⊎ (length forest ≤ c)))

-- What is true of the open rows, the contexts and the lists at all times.
pub record AreFiled (table : List (Option OpenRow)) (forest : Forest) (filing : Filing) (doomed : ℕ) (turned : List ℕ) : Type 0 where
  pub places : length filing.by_place ≡ length table
  pub lists : filing.lists ≡ length forest + 1
  pub doomed_last : doomed ≡ length forest
  pub none_turned : turned ≡ []
  pub sound : IsForest forest
  pub each : (p : ℕ) (e : OpenRow) → slice_index_or table p None ≡ Some e → is_waiting e.stage ≡ true → IsFiled forest (filed_in filing p) e.context

-- The row at a place is changed.
abbrev pub changed_at : List (Option OpenRow) → ℕ → (OpenRow → OpenRow) → List (Option OpenRow)
changed_at table p f = slice_set table p (option_map f (slice_index_or table p None))
