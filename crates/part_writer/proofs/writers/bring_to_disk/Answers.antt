use Rattle.std.proofs.Common.{Result, Ok, Err, OnOk, List, ℕ, ◌≡◌, ◌++◌, []}
use Rattle.job_language.specs.declared.steps.Entry.{Entry}
use Rattle.job_language.specs.declared.tenants.Tenant.{Tenant}
use Rattle.part_writer.specs.Moments.{CrashLeaves}
use Rattle.part_writer.specs.Writing.{IsWriting, Recovers}
use Rattle.part_writer.proofs.Moments.{one_call}
use Rattle.part_writer.proofs.Written.{recovers, writing_synced}
use Rattle.part_writer.proofs.writers.bring_to_disk.Goals as goal

if_synced : {A E : Type 0} (result : Result A E) (c : Tenant) (there more : List Entry) (d p e q : List ℕ) → IsWriting c there more d p → OnOk result (e ≡ d ++ p) → OnOk result (q ≡ []) →
    OnOk result (IsWriting c (there ++ more) [] e q)
if_synced (Ok it) c there more d p e q is next none = writing_synced c there more d p is e q next none
if_synced (Err it) c there more d p e q is next none = tt

pub returns-clause-acknowledged : goal.returns-clause-acknowledged
returns-clause-acknowledged g c = λ config there more is. if_synced c.sync.result config there more _ _ _ _ is c.sync.ensures.durable c.sync.ensures.none

pub returns-clause-any_moment : goal.returns-clause-any_moment
returns-clause-any_moment g c =
    let own = g.F.PartFile in
    let old = c.args.file.now in
    λ config there more is.
    let now : (file : List ℕ) → CrashLeaves (own.durable old) (own.pending old) file → Recovers config there more file = recovers config there more (own.durable old) (own.pending old) is in
    one_call own.moment own.left_since old c.sync.new.self (Recovers config there more) (λ file left. now file (g.met.F.PartFile.only_now old file left)) _ c.sync.ensures.time now
