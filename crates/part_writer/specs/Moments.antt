-- A file to which bytes are added, and what a crash at some moment leaves of it.
use Rattle.std.specs.Prelude.{◌≡◌, ◌<◌, ◌≤◌, ◌⊎◌, ℕ, List, ◌++◌, Result, IsErrOf}
use Rattle.part_lines.specs.Parts.{IsTornOf}
use Rattle.part_writer.specs.declared.files.PartFault.{PartFault}
use Rattle.part_writer.specs.declared.files.PartFault.TheVariants.{Failed}

-- what a crash leaves of a file with these bytes on the disk, and those added since then
abbrev pub CrashLeaves : (durable pending : List ℕ) → List ℕ → Type 0
CrashLeaves durable pending file = (left : List ℕ) × (file ≡ durable ++ left) × IsTornOf pending left

-- Time goes on: a crash since t might have left what it might have left before, or what it may leave now.
pub record Elapses (before now : ℕ) (past since : ℕ → List ℕ → Type 0) (may_leave : List ℕ → Type 0) : Type 0 where
  pub later : before ≤ now
  pub nothing_else : (t : ℕ) (file : List ℕ) → t ≤ before → since t file → past t file ⊎ may_leave file
  pub keeps : (t : ℕ) (file : List ℕ) → t ≤ before → past t file → since t file

-- A crash at any moment since old leaves a file that has P.
pub record LeavesOnly {F : Type 0} (moment : F → ℕ) (left_since : F → ℕ → List ℕ → Type 0) (old new : F) (P : List ℕ → Type 0) : Type 0 where
  pub later : moment old ≤ moment new
  pub each : (file : List ℕ) → left_since new (moment old) file → P file
  -- for a run that began earlier
  pub before : (t : ℕ) (file : List ℕ) → t ≤ moment old → left_since new t file → left_since old t file ⊎ P file

-- `Failed` comes only if the disk has failed since.
pub record FailedSince {T : Type 0} (before now : ℕ) (result : Result T PartFault) : Type 0 where
  pub later : before ≤ now
  pub failed : IsErrOf result Failed → before < now
