-- Which virtual registers are read later, and why.
use Rattle.std.specs.Prelude.{◌≡◌, ◌⊎◌, ℕ, ◌<◌, Bool, true, false, List, [], ◌∷◌, Some, slice_get, slice_index_or, count_by}
use Rattle.job_language.specs.declared.instructions.Instr.{Instr}
use Rattle.job_compiler.specs.Colours.{reads, writes, leads_to, IsAmong}
use Rattle.register_choice.specs.Choice.{live_of}

-- The instruction at the place reads it; or it does not write it, and it is read later where the instruction leads.
pub data IsReadLater (vs : List Instr) : (place u : ℕ) → Type 0 where
  Here : (k u : ℕ) (i : Instr) → slice_get vs k ≡ Some i → IsAmong u (reads i) → IsReadLater vs k u
  Later : (k next u : ℕ) (i : Instr) → slice_get vs k ≡ Some i → (IsAmong u (writes i) → ⊥) → IsAmong next (leads_to i k) → IsReadLater vs next u → IsReadLater vs k u

-- it is in the row of one of these places
abbrev pub IsLiveAtOne : (rows : List (List Bool)) (u : ℕ) (places : List ℕ) → Type 0
IsLiveAtOne rows u [] = ⊥
IsLiveAtOne rows u (k ∷ places) = (live_of rows k u ≡ true) ⊎ IsLiveAtOne rows u places

-- one step of it, by rows
abbrev pub IsReadHere : (rows : List (List Bool)) (place : ℕ) → Instr → (u : ℕ) → Type 0
IsReadHere rows k i u = (IsLiveAtOne rows u (leads_to i k) × (¬ IsAmong u (writes i))) ⊎ IsAmong u (reads i)

-- More registers than a frame has are read later.
pub record IsCrowded (vs : List Instr) (place : ℕ) (row : List Bool) : Type 0 where
  pub many : 8 < count_by (λ b. b) row
  pub each : (u : ℕ) → slice_index_or row u false ≡ true → IsReadLater vs place u
