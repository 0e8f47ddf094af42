use Rattle.std.proofs.Common.{◌≡◌, List, ℕ, ◌++◌, refl}
use Rattle.part_lines.specs.Journals.{marks_text}
use Rattle.part_writer.specs.Journals.{RecoversMarks, slice}
use Rattle.part_writer.specs.Moments.{CrashLeaves}
use Rattle.part_writer.proofs.Journal.{if_added, journal_more, recovers_marks, recovers_more}
use Rattle.part_writer.proofs.Moments.{no_call, one_call}
use Rattle.part_writer.proofs.journals.add_slice.Goals as goal

pub returns-in_err-text-clause-any_moment : goal.returns-in_err-text-clause-any_moment
returns-in_err-text-clause-any_moment g c =
    let own = g.F.PartFile in
    let old = c.args.file.now in
    let ms = slice c.args.config.now c.args.entries.now in
    λ there more is.
    no_call own.moment own.left_since old old (RecoversMarks there (more ++ ms))
    (λ file left. recovers_more there more (own.durable old) (own.pending old) is ms file
    (recovers_marks there more (own.durable old) (own.pending old) is file (g.met.F.PartFile.only_now old file left)))

pub returns-clause-writing : goal.returns-clause-writing
returns-clause-writing g c =
    let own = g.F.PartFile in
    let old = c.args.file.now in
    let new = c.append.new.self in
    let ms = slice c.args.config.now c.args.entries.now in
    let text : c.as_bytes.result.now ≡ marks_text ms = cc (c.in_ok-text.ensures.text, c.as_bytes.ensures.value, c.as_str.ensures.value) in
    λ there more is. if_added there more (own.durable old) (own.pending old) is c.append.result ms c.as_bytes.result.now (own.durable new) (own.pending new) c.in_ok-text.ensures.marks text
    c.append.ensures.same c.append.ensures.added

pub returns-clause-any_moment : goal.returns-clause-any_moment
returns-clause-any_moment g c =
    let own = g.F.PartFile in
    let old = c.args.file.now in
    let ms = slice c.args.config.now c.args.entries.now in
    let added = c.as_bytes.result.now in
    let text : added ≡ marks_text ms = cc (c.in_ok-text.ensures.text, c.as_bytes.ensures.value, c.as_str.ensures.value) in
    λ there more is.
    let first = λ (file : List ℕ) (left : CrashLeaves (own.durable old) (own.pending old) file). recovers_more there more (own.durable old) (own.pending old) is ms file
    (recovers_marks there more (own.durable old) (own.pending old) is file left) in
    let wrote = journal_more there more (own.durable old) (own.pending old) is ms added (own.pending old ++ added) c.in_ok-text.ensures.marks text refl in
    one_call own.moment own.left_since old c.append.new.self (RecoversMarks there (more ++ ms)) (λ file left. first file (g.met.F.PartFile.only_now old file left))
    (CrashLeaves (own.durable old) (own.pending old ++ added)) c.append.ensures.time (recovers_marks there (more ++ ms) (own.durable old) (own.pending old ++ added) wrote)
