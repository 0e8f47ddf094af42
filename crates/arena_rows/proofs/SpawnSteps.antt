-- The changes by which a row is spawned, one after another.
use Rattle.std.proofs.Common.{◌≡◌, ℕ, ◌<◌, length, length-set, Some, ap, ◌∙◌, arith}
use Rattle.job_step.specs.declared.frames.Frame.{Frame}
use Rattle.region_tag.specs.declared.row_id.RowId.{RowId}
use Rattle.arena_rows.specs.declared.rows.OpenRow.{OpenRow}
use Rattle.arena_rows.specs.declared.rows.CurrentJob.{CurrentJob}
use Rattle.arena_rows.specs.Held.{Held, HasFreePlace}
use Rattle.arena_rows.specs.Represents.{at_place}
use Rattle.arena_rows.specs.HeldChanges.{no_job, bound_to, with_entry, with_member, entered, job_counted, spawned_entry}
use Rattle.arena_rows.proofs.FreePlaces.{same_taken}

-- a context bound, and the maker's group with one member more
abbrev pub joined : (a : Held) (own gc p g : ℕ) → OpenRow → Held
joined a own gc p g me = with_entry (bound_to a own (Some gc)) p (with_member g me)

pub joined_is : (a x y : Held) (own gc p g : ℕ) (me : OpenRow) → at_place a.table p ≡ Some me → x ≡ bound_to a own (Some gc) →
    ((e : OpenRow) → at_place x.table p ≡ Some e → y ≡ with_entry x p (with_member g e)) → y ≡ joined a own gc p g me
joined_is a x y own gc p g me there bound joins = joins me (ap (λ (z : Held). at_place z.table p) bound ∙ there) ∙ ap (λ (z : Held). with_entry z p (with_member g me)) bound

-- so that as many places are free
pub still_free : (a : Held) (p g : ℕ) (me : OpenRow) → p < length a.table → at_place a.table p ≡ Some me → HasFreePlace a → HasFreePlace (with_entry a p (with_member g me))
still_free a p g me within there some = omega (arith, some, same_taken a.table p me (with_member g me) within there, length-set a.table p (Some (with_member g me)))

-- and the new row entered
pub entered_is : (a y z : Held) (place own gc p g : ℕ) (me : OpenRow) (maker : RowId) (job slot : ℕ) (f : Frame) → y ≡ joined a own gc p g me →
    z ≡ entered y place (spawned_entry y maker g job own slot f) → z ≡ entered (joined a own gc p g me) place (spawned_entry a maker g job own slot f)
entered_is a y z place own gc p g me maker job slot f is enters = enters ∙ ap (λ (x : Held). entered x place (spawned_entry x maker g job own slot f)) is

-- and counted
pub counted_is : (a z u : Held) (place own gc p g : ℕ) (me : OpenRow) (maker : RowId) (job slot : ℕ) (f : Frame) → z ≡ entered (joined a own gc p g me) place (spawned_entry a maker g job own slot f) →
    ((d : CurrentJob) → u ≡ job_counted z job d) →
    u ≡ job_counted (entered (joined a own gc p g me) place (spawned_entry a maker g job own slot f)) job no_job
counted_is a z u place own gc p g me maker job slot f is counts = counts no_job ∙ ap (λ (x : Held). job_counted x job no_job) is
