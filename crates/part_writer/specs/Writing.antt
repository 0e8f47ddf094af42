-- A part as it is written: a tenant's line, and the entries of its history so far.
use Rattle.std.specs.Prelude.{◌≡◌, ◌≤◌, ℕ, List, ◌++◌, Some, length, take, All}
use Rattle.job_language.specs.declared.steps.Entry.{Entry}
use Rattle.job_language.specs.declared.tenants.Tenant.{Tenant}
use Rattle.dump_lines.specs.Dumps.{HasLine, NamesItself, SaysItself, dump_text, entries_text}
use Rattle.part_lines.specs.Parts.{part_in}

-- The first of these entries are on the disk, and the others are added.
pub record IsWriting (c : Tenant) (there more : List Entry) (durable pending : List ℕ) : Type 0 where
  pub names : NamesItself c
  pub there_lines : All HasLine there
  pub there_says : All SaysItself there
  pub more_lines : All HasLine more
  pub more_says : All SaysItself more
  pub durable_is : durable ≡ dump_text c there
  pub pending_is : pending ≡ entries_text more

-- A file from which all entries are read that were on the disk, then some of those that were added, from the first on, and nothing else.
abbrev pub Recovers : Tenant → (there more : List Entry) → (file : List ℕ) → Type 0
Recovers c there more file = (k : ℕ) × (k ≤ length more) × (part_in file ≡ Some (c, there ++ take k more))
