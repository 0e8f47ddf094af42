use Rattle.std.proofs.Common.{None, refl, sym, ◌∙◌, subst}
use Rattle.tenant_model.specs.declared.rows.Kind.TheVariants.{Posted}
use Rattle.tenant_model.specs.declared.rows.Phase.TheVariants.{Unstarted}
use Rattle.tenant_model.specs.State.{row}
use Rattle.tenant_model.specs.Changes.{new_row, add_row}
use Rattle.arena_rows.specs.Represents.{Rests}
use Rattle.arena_rows.proofs.BornDropped.{posted_context, born_dropped, born_waits, dropped_steady}
use Rattle.arena_rows.proofs.PostDropped.{post_dropped}
use Rattle.arena_rows.proofs.Starts.{settle_none}
use Rattle.arena_rows.proofs.parts.Parts.post_settled.Goals as goal

pub returns-then-is_job_cancelled : goal.returns-then-is_job_cancelled
returns-then-is_job_cancelled c = λ s n rests on_top kept.
    let f = c.args.frame in
    let j = (row s.rows n).job in
    let steady = rests.holds.steady in
    let context = posted_context s (new_row Posted j None f Unstarted) steady.formed.linked.makers kept.formed.linked.makers refl in
    let cancelled = sym (c.is_job_cancelled.ensures s n rests.holds on_top) ∙ c.if-is_job_cancelled.true in
    let dropped = born_dropped s Posted j None f steady kept rests.settled (context ∙ cancelled) in
    let new = c.count_made.ensures in
    subst (Rests c.count_made.new.self) (sym dropped) (rw new (post_dropped c.args.self.now s rests j f (dropped_steady s Posted j None f steady kept)))

pub returns : goal.returns
returns c = λ s n rests on_top kept.
    let f = c.args.frame in
    let j = (row s.rows n).job in
    let r = new_row Posted j None f Unstarted in
    let steady = rests.holds.steady in
    let fine = sym (c.is_job_cancelled.ensures s n rests.holds on_top) ∙ c.if-is_job_cancelled.false in
    let settled = born_waits s Posted j None f steady kept rests.settled (posted_context s r steady.formed.linked.makers kept.formed.linked.makers refl ∙ fine) in
    subst (Rests c.post.new.self) (sym (settle_none (add_row s r) settled)) (record { holds = c.post.ensures s n rests on_top kept; settled = settled })
