-- What holds of each state that a tenant reaches, apart from being well formed: how makers, marks, frames and jobs agree.
use Rattle.std.specs.Prelude.{ℕ, ◌≡◌, ◌<◌, ◌≤◌, ◌⊎◌, true, false, Option, Some, IsSome, List, length}
use Rattle.job_language.specs.declared.instructions.Instr.{Instr}
use Rattle.job_language.specs.declared.instructions.Instr.TheVariants.{Isolate}
use Rattle.job_language.specs.declared.instructions.TheConstants.{GROUPS, REGISTERS}
use Rattle.job_step.specs.Frame.{instr_at}
use Rattle.tenant_model.specs.declared.rows.Kind.TheVariants.{Root, Spawned, Region}
use Rattle.tenant_model.specs.declared.rows.Phase.TheVariants.{Live}
use Rattle.tenant_model.specs.declared.rows.Row.{Row}
use Rattle.tenant_model.specs.State.{State, row, job}
use Rattle.tenant_model.specs.Walks.{maker_of, is_unstarted, is_open, mark, is_context_cancelled}
use Rattle.tenant_model.specs.WellFormed.{IsWellFormed}

-- A row belongs to its maker's job.
abbrev pub ShareJobs : List Row → Type 0
ShareJobs rows = (n m : ℕ) → maker_of (row rows n).kind ≡ Some m → (row rows n).job ≡ (row rows m).job

-- What made a row has started.
abbrev pub MakersStarted : List Row → Type 0
MakersStarted rows = (n m : ℕ) → maker_of (row rows n).kind ≡ Some m → is_unstarted (row rows m).phase ≡ false

-- What was spawned before the last passed wait of its group has ended.
abbrev pub PastHasEnded : List Row → Type 0
PastHasEnded rows = (n m g : ℕ) → (row rows n).kind ≡ Spawned m g → n ≤ (mark rows m g).rows → is_open (row rows n).phase ≡ false

-- A frame has all registers, and its row has a mark for each group.
pub record IsShaped (r : Row) : Type 0 where
  pub registers : length r.frame.registers ≡ REGISTERS
  pub marks : length r.marks ≡ GROUPS

-- A live row is on one of the tenant's slots.
abbrev pub AreOnSlots : State → Type 0
AreOnSlots s = (n slot h : ℕ) → (row s.rows n).phase ≡ Live slot h → slot < s.config.slots

abbrev pub IsIsolate : Option Instr → Type 0
IsIsolate (Some (Isolate d p a b)) = Unit {0}
IsIsolate i = ⊥

-- The maker of a live region is at its isolate.
abbrev pub StandAtIsolates : State → Type 0
StandAtIsolates s = (n m slot h : ℕ) → (row s.rows n).kind ≡ Region m → (row s.rows n).phase ≡ Live slot h → IsIsolate (instr_at (job s.jobs (row s.rows m).job).program (row s.rows m).frame)

-- the root of a job
pub record IsRoot (s : State) (j : ℕ) : Type 0 where
  pub from : 1 ≤ (job s.jobs j).root
  pub to : (job s.jobs j).root ≤ length s.rows
  pub kind : (row s.rows (job s.jobs j).root).kind ≡ Root
  pub job : (row s.rows (job s.jobs j).root).job ≡ j

-- What each change within a step preserves.
pub record IsTended (s : State) : Type 0 where
  pub shared : ShareJobs s.rows
  pub started : MakersStarted s.rows
  pub past : PastHasEnded s.rows
  pub shapes : (n : ℕ) → IsShaped (row s.rows n)
  pub slots : AreOnSlots s
  pub isolates : StandAtIsolates s
  pub roots : (j : ℕ) → 1 ≤ j → j ≤ length s.jobs → IsRoot s j
  pub reserved : s.config.reserved ≤ s.config.slots

-- There are no more rows or jobs than entries.
pub record IsCounted (s : State) : Type 0 where
  pub rows : length s.rows ≤ s.entries
  pub jobs : length s.jobs ≤ s.entries

-- No unstarted row has a cancelled context.
abbrev pub IsSettled : State → Type 0
IsSettled s = (n : ℕ) → is_unstarted (row s.rows n).phase ≡ true → is_context_cancelled s n ≡ false

-- what each state that a tenant reaches is
pub record IsSound (s : State) : Type 0 where
  pub well_formed : IsWellFormed s
  pub tended : IsTended s
  pub counted : IsCounted s
  pub settled : IsSettled s

-- What holds if the programs of all jobs are valid: every group exists in its frame, and the maker of an open row is open unless the job has a fault.
pub record MakersStay (s : State) : Type 0 where
  pub groups : (n m g : ℕ) → (row s.rows n).kind ≡ Spawned m g → g < GROUPS
  pub makers : (n m : ℕ) → is_open (row s.rows n).phase ≡ true → maker_of (row s.rows n).kind ≡ Some m → (is_open (row s.rows m).phase ≡ true) ⊎ IsSome (job s.jobs (row s.rows n).job).fault

-- What each change within a step preserves, if instructions name groups that a frame has.
pub record IsSteady (s : State) : Type 0 where
  pub formed : IsWellFormed s
  pub tended : IsTended s
  pub stay : MakersStay s
