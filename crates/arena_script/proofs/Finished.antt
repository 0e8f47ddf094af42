-- The dump of a tenant that was taken from what is whole of a dump, and finished.
use Rattle.std.proofs.Common.{◌≡◌, ℕ, List, Some, ap, subst}
use Rattle.arena_script.specs.Finishing.{IsFinishedDump}
use Rattle.dump_lines.specs.Dumps.{ReadsBack, dump_text}
use Rattle.job_language.specs.declared.steps.Entry.{Entry}
use Rattle.job_language.specs.declared.tenants.Tenant.{Tenant}
use Rattle.part_lines.specs.Parts.{part_in}
use Rattle.tenant_finish.specs.Recovered.{IsFinishedTenant}
use Rattle.tenant_record.specs.Replayed.{Replayed}

abbrev replayed : Tenant → List Entry → Replayed
replayed c h = record { config = c; history = h }

pub finished_dump : (bytes text : List ℕ) (c : Tenant) (whole : List Entry) (old new : Replayed) → part_in bytes ≡ Some (c, whole) → old ≡ record { config = c; history = whole } →
    IsFinishedTenant old new → text ≡ dump_text c new.history → ReadsBack text c new.history → IsFinishedDump bytes text
finished_dump bytes text c whole old new read start finished dump back =
    let from_start : IsFinishedTenant (replayed c whole) new = subst (λ (r : Replayed). IsFinishedTenant r new) start finished in
    let same : new ≡ replayed c new.history = ap (λ (k : Tenant). replayed k new.history) from_start.goes.config in
    record {
      config = c;
      whole = whole;
      history = new.history;
      read = read;
      finished = subst (IsFinishedTenant (replayed c whole)) same from_start;
      dump = dump;
      reads_back = back;
    }
