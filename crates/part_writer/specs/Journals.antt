-- A journal as it is written: slices of tenants' histories, one after another.
use Rattle.std.specs.Prelude.{◌≡◌, ◌≤◌, ℕ, List, ◌∷◌, ◌++◌, length, map, take, All}
use Rattle.job_language.specs.declared.steps.Entry.{Entry}
use Rattle.job_language.specs.declared.tenants.Tenant.{Tenant}
use Rattle.part_lines.specs.Journals.{Mark, names, says, IsMark, journal_in, marks_text}

-- a tenant, and then entries of it
abbrev pub slice : Tenant → List Entry → List Mark
slice c es = names c ∷ map (λ (e : Entry). says e) es

-- The first of these lines are on the disk, and the others are added.
pub record IsJournal (there more : List Mark) (durable pending : List ℕ) : Type 0 where
  pub there_marks : All IsMark there
  pub more_marks : All IsMark more
  pub durable_is : durable ≡ marks_text there
  pub pending_is : pending ≡ marks_text more

-- A file from which all lines are read that were on the disk, then some of those that were added, from the first on, and nothing else.
abbrev pub RecoversMarks : (there more : List Mark) → (file : List ℕ) → Type 0
RecoversMarks there more file = (k : ℕ) × (k ≤ length more) × (journal_in file ≡ there ++ take k more)
