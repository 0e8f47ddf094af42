-- What a part is finished to: a tenant that has done what it says, and whose jobs have their outcomes.
use Rattle.std.specs.Prelude.{◌≡◌, ℕ, ◌+◌, true, false, List, Some, None, length, map, take}
use Rattle.job_language.specs.declared.answers.Status.{Status}
use Rattle.job_language.specs.declared.steps.Entry.{Entry}
use Rattle.job_language.specs.declared.tenants.Tenant.{Tenant}
use Rattle.part_lines.specs.Parts.{part_in}
use Rattle.tenant_finish.specs.Recovered.{IsFinishedTenant}
use Rattle.tenant_finish.specs.Recovering.{IsFirstWrong}
use Rattle.tenant_model.specs.Solo.{job_table}
use Rattle.tenant_model.specs.State.{State}
use Rattle.term_life.specs.Spans.{capped}
use Rattle.term_life.specs.declared.outcomes.Outcome.{Outcome}
use Rattle.host_folder.specs.declared.finishing.Finished.{Finished}

-- The part says a tenant and entries. The tenant has done these entries, up to the first that it would not have, and then went on until each of its jobs had an outcome, or its history was full.
pub record IsFinishedPart (bytes : List ℕ) (f : Finished) : Type 0 where
  pub entries : List Entry
  pub said : part_in bytes ≡ Some (f.config, entries)
  -- how many of them it has done
  pub done : ℕ
  pub all : f.is_torn_wrong ≡ false → done ≡ length entries
  pub wrong : f.is_torn_wrong ≡ true → IsFirstWrong f.config entries done
  pub finished : IsFinishedTenant (record { config = f.config; history = take done entries }) f.replay

-- So many entries of the part are right, and the next one is wrong.
abbrev pub IsWrongAfter : List ℕ → (right : ℕ) → Type 0
IsWrongAfter bytes right = (c : Tenant) (es : List Entry) → part_in bytes ≡ Some (c, es) → IsFirstWrong c es right

abbrev pub NamesNoTenant : List ℕ → Type 0
NamesNoTenant bytes = part_in bytes ≡ None

-- how far a job is, by its number outside, which follows that one
abbrev pub outcome_outside : (base : ℕ) → ℕ × Status → Outcome
outcome_outside base p = record { job = capped (base + p.0); status = p.1 }

-- the same of all jobs that a tenant holds
abbrev pub outcomes_outside : (base : ℕ) → State → List Outcome
outcomes_outside base s = map (outcome_outside base) (job_table s)
