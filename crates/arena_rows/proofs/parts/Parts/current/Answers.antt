use Rattle.std.proofs.Common.{◌≡◌, ◌==◌, Option, true, false, Some, None, refl, sym, ap, ◌∙◌, arith}
use Rattle.std.specs.Option.{option_and_then, option_copied}
use Rattle.std.specs.Prelude.{slice_get}
use Rattle.arena_rows.specs.declared.rows.CurrentJob.{CurrentJob}
use Rattle.arena_rows.specs.Held.{Held}
use Rattle.arena_rows.specs.HeldChanges.{index_of}
use Rattle.arena_rows.specs.HeldReads.{of_number}
use Rattle.arena_rows.proofs.parts.Parts.current.Goals as goal

pub returns-in_default : goal.returns-in_default
returns-in_default c = λ rise.
    let a = c.args.self.now in
    let jobs = c.deref.ensures.value ∙ ap (λ (h : Held). h.jobs) c.self.view_is in
    let place : c.place_of-place.result ≡ index_of a c.args.job = (rw jobs at c.place_of-place.ensures) rise in
    let found : slice_get a.jobs (index_of a c.args.job) ≡ None = ap (slice_get a.jobs) (sym place) ∙ sym c.job_at.ensures ∙ ap option_copied c.in_default.is in
    rw found refl

pub returns-then-current-job : goal.returns-then-current-job
returns-then-current-job c = λ rise.
    let a = c.args.self.now in
    let jobs = c.deref.ensures.value ∙ ap (λ (h : Held). h.jobs) c.self.view_is in
    let place : c.place_of-place.result ≡ index_of a c.args.job = (rw jobs at c.place_of-place.ensures) rise in
    let found : slice_get a.jobs (index_of a c.args.job) ≡ Some c.in-Some.current.now = ap (slice_get a.jobs) (sym place) ∙ sym c.job_at.ensures ∙ ap option_copied c.in-Some.is in
    let same = c.if-current-job.true in
    let its : (c.in-Some.current.now.number == c.args.job) ≡ true = grind (arith, same) in
    rw (found, its) refl

pub returns-else-current-job : goal.returns-else-current-job
returns-else-current-job c = λ rise.
    let a = c.args.self.now in
    let jobs = c.deref.ensures.value ∙ ap (λ (h : Held). h.jobs) c.self.view_is in
    let place : c.place_of-place.result ≡ index_of a c.args.job = (rw jobs at c.place_of-place.ensures) rise in
    let found : slice_get a.jobs (index_of a c.args.job) ≡ Some c.in-Some.current.now = ap (slice_get a.jobs) (sym place) ∙ sym c.job_at.ensures ∙ ap option_copied c.in-Some.is in
    let other = c.if-current-job.false in
    let not_its : (c.in-Some.current.now.number == c.args.job) ≡ false = grind (arith, other) in
    rw (found, not_its) refl
