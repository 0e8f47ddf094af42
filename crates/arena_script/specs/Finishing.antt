-- What finishes a dump whose end may be missing.
use Rattle.std.specs.Prelude.{◌≡◌, ◌⊎◌, ℕ, List, [], Option, Some, unwrap_or}
use Rattle.std.specs.Io.KnownBytes.{Appends}
use Rattle.dump_lines.specs.Dumps.{ReadsBack, dump_text}
use Rattle.dump_lines.specs.Parts.{AppendsPart}
use Rattle.job_language.specs.declared.steps.Entry.{Entry}
use Rattle.job_language.specs.declared.tenants.Tenant.{Tenant}
use Rattle.part_lines.specs.Parts.{part_in}
use Rattle.tenant_finish.specs.Recovered.{IsFinishedTenant}
use Rattle.tenant_finish.specs.Recovering.{IsFirstWrong}

-- all the bytes, if they are known
abbrev pub bytes_in : Option (List ℕ) → List ℕ
bytes_in known = unwrap_or known []

-- A text is the dump of what these bytes say of a tenant, and of the advances that finished it.
pub record IsFinishedDump (bytes text : List ℕ) : Type 0 where
  pub config : Tenant
  pub whole : List Entry
  pub history : List Entry
  pub read : part_in bytes ≡ Some (config, whole)
  pub finished : IsFinishedTenant (record { config = config; history = whole }) (record { config = config; history = history })
  pub dump : text ≡ dump_text config history
  pub reads_back : ReadsBack text config history

-- Not all that the bytes say is right of their tenant.
pub record IsWrongPart (bytes : List ℕ) : Type 0 where
  pub config : Tenant
  pub entries : List Entry
  pub right : ℕ
  pub read : part_in bytes ≡ Some (config, entries)
  pub wrong : IsFirstWrong config entries right

-- A writer got such a text.
abbrev pub Finishes : (bytes : List ℕ) → (before after : Option (List ℕ)) → Type 0
Finishes bytes before after = (text : List ℕ) × IsFinishedDump bytes text × Appends before after text

-- It got nothing, or a first part of such a text.
abbrev pub StartsFinished : (bytes : List ℕ) → (before after : Option (List ℕ)) → Type 0
StartsFinished bytes before after = (after ≡ before) ⊎ ((text : List ℕ) × IsFinishedDump bytes text × AppendsPart before after text)
