use Rattle.std.proofs.Common.{Result, Ok, Err, OnOk, List, ℕ, ◌≡◌, ◌++◌, refl}
use Rattle.std.specs.List.{All}
use Rattle.job_language.specs.declared.steps.Entry.{Entry}
use Rattle.job_language.specs.declared.tenants.Tenant.{Tenant}
use Rattle.dump_lines.specs.Dumps.{HasLine, SaysItself, entries_text}
use Rattle.part_writer.specs.Moments.{CrashLeaves}
use Rattle.part_writer.specs.Writing.{IsWriting, Recovers}
use Rattle.part_writer.proofs.Moments.{no_call, one_call}
use Rattle.part_writer.proofs.Written.{recovers, recovers_more, writing_more}
use Rattle.part_writer.proofs.writers.add_entries.Goals as goal

if_added : {A E : Type 0} (result : Result A E) (c : Tenant) (there more es : List Entry) (d e p q added : List ℕ) → IsWriting c there more d p → All HasLine es → All SaysItself es →
    added ≡ entries_text es → e ≡ d → OnOk result (q ≡ p ++ added) → OnOk result (IsWriting c there (more ++ es) e q)
if_added (Ok it) c there more es d e p q added is lines says text same next = rw same (writing_more c there more d p is es added q lines says text next)
if_added (Err it) c there more es d e p q added is lines says text same next = tt

pub returns-in_err-text-clause-any_moment : goal.returns-in_err-text-clause-any_moment
returns-in_err-text-clause-any_moment g c =
    let own = g.F.PartFile in
    let old = c.args.file.now in
    let es = c.args.entries.now in
    λ config there more is.
    no_call own.moment own.left_since old old (Recovers config there (more ++ es))
    (λ file left. recovers_more config there more (own.durable old) (own.pending old) is es file
    (recovers config there more (own.durable old) (own.pending old) is file (g.met.F.PartFile.only_now old file left)))

pub returns-clause-writing : goal.returns-clause-writing
returns-clause-writing g c =
    let own = g.F.PartFile in
    let old = c.args.file.now in
    let new = c.append.new.self in
    let text : c.as_bytes.result.now ≡ entries_text c.args.entries.now = cc (c.in_ok-text.ensures.text, c.as_bytes.ensures.value, c.as_str.ensures.value) in
    λ config there more is. if_added c.append.result config there more c.args.entries.now (own.durable old) (own.durable new) (own.pending old) (own.pending new) c.as_bytes.result.now is
    c.in_ok-text.ensures.lines c.in_ok-text.ensures.says text c.append.ensures.same c.append.ensures.added

pub returns-clause-any_moment : goal.returns-clause-any_moment
returns-clause-any_moment g c =
    let own = g.F.PartFile in
    let old = c.args.file.now in
    let es = c.args.entries.now in
    λ config there more is.
    let P = Recovers config there (more ++ es) in
    let first = λ (file : List ℕ) (left : CrashLeaves (own.durable old) (own.pending old) file). recovers_more config there more (own.durable old) (own.pending old) is es file
    (recovers config there more (own.durable old) (own.pending old) is file left) in
    let added = c.as_bytes.result.now in
    let text : added ≡ entries_text es = cc (c.in_ok-text.ensures.text, c.as_bytes.ensures.value, c.as_str.ensures.value) in
    let wrote = writing_more config there more (own.durable old) (own.pending old) is es added (own.pending old ++ added) c.in_ok-text.ensures.lines c.in_ok-text.ensures.says text refl in
    one_call own.moment own.left_since old c.append.new.self P (λ file left. first file (g.met.F.PartFile.only_now old file left)) (CrashLeaves (own.durable old) (own.pending old ++ added))
    c.append.ensures.time (recovers config there (more ++ es) (own.durable old) (own.pending old ++ added) wrote)
