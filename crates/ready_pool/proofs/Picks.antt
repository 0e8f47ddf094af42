-- A pick is one of the rows that wait.
use Rattle.std.proofs.Common.{◌≡◌, ℕ, suc, List, [], ◌∷◌, Option, Some, refl, get_or, arith}
use Rattle.std.specs.Prelude.{All, Any, IfSome}
use Rattle.std.proofs.lemmas.List.Elements.{All-filter, All-contains_itself}
use Rattle.region_tag.specs.declared.row_id.RowId.{RowId}
use Rattle.region_tag.specs.Region.{Table}
use Rattle.ready_pool.specs.declared.pool.Waiting.{Waiting}
use Rattle.ready_pool.specs.Ready.{Ready, eligible, first_of, is_made_on, last_or, pick}

module _ (P : RowId → Type 0) where
  first_of-from_All : (ws : List Waiting) → All (λ w. P w.row) ws → IfSome (first_of ws) P
  first_of-from_All [] every = tt
  first_of-from_All (w ∷ ws) every = every 0 w (omega arith)

  last_or-from_All : (row : Option RowId) (ws : List Waiting) → IfSome row P → All (λ w. P w.row) ws → IfSome (last_or row ws) P
  last_or-from_All row [] here every = here
  last_or-from_All row (w ∷ ws) here every = last_or-from_All (Some w.row) ws (every 0 w (omega arith)) (λ k d below. every (suc k) d (omega arith))

  -- What holds of each row that waits holds of the one that is picked.
  pub pick-from_All : (pool : Ready) (table : Table) (slot : ℕ) (top : Option RowId) → All (λ w. P w.row) pool.rows → IfSome (pick pool table slot top) P
  pick-from_All pool table slot top every =
      let may : All (λ w. P w.row) (eligible pool table top) = All-filter _ (λ w. P w.row) pool.rows every in
      last_or-from_All _ _ (first_of-from_All _ may) (All-filter (λ (w : Waiting). is_made_on slot w.made_on) (λ w. P w.row) (eligible pool table top) may)

-- The picked row waits.
pub picked_row_waits : (pool : Ready) (table : Table) (slot : ℕ) (top : Option RowId) → IfSome (pick pool table slot top) (λ row. Any (λ w. w.row ≡ row) pool.rows)
picked_row_waits pool table slot top =
    pick-from_All (λ row. Any (λ w. w.row ≡ row) pool.rows) pool table slot top
    (λ k d below. let itself = All-contains_itself pool.rows k d below in (itself.0, get_or pool.rows k d, itself.1, itself.2, refl))
