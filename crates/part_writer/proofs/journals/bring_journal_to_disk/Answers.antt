use Rattle.std.proofs.Common.{List, ℕ}
use Rattle.part_writer.specs.Journals.{RecoversMarks}
use Rattle.part_writer.specs.Moments.{CrashLeaves}
use Rattle.part_writer.proofs.Journal.{if_synced, recovers_marks}
use Rattle.part_writer.proofs.Moments.{one_call}
use Rattle.part_writer.proofs.journals.bring_journal_to_disk.Goals as goal

pub returns-clause-acknowledged : goal.returns-clause-acknowledged
returns-clause-acknowledged g c =
    let own = g.F.PartFile in
    let old = c.args.file.now in
    let new = c.sync.new.self in
    λ there more is. if_synced there more (own.durable old) (own.pending old) is c.sync.result (own.durable new) (own.pending new) c.sync.ensures.durable c.sync.ensures.none

pub returns-clause-any_moment : goal.returns-clause-any_moment
returns-clause-any_moment g c =
    let own = g.F.PartFile in
    let old = c.args.file.now in
    λ there more is.
    let now : (file : List ℕ) → CrashLeaves (own.durable old) (own.pending old) file → RecoversMarks there more file = recovers_marks there more (own.durable old) (own.pending old) is in
    one_call own.moment own.left_since old c.sync.new.self (RecoversMarks there more) (λ file left. now file (g.met.F.PartFile.only_now old file left)) _ c.sync.ensures.time now
