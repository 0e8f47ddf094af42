use Rattle.std.proofs.Common.{◌≡◌, Some, true, false, refl, sym, ◌∙◌, ◌||◌, subst}
use Rattle.tenant_model.specs.declared.rows.Kind.TheVariants.{Spawned}
use Rattle.tenant_model.specs.declared.rows.Phase.TheVariants.{Unstarted}
use Rattle.tenant_model.specs.State.{row}
use Rattle.tenant_model.specs.Walks.{is_context_cancelled, mark}
use Rattle.tenant_model.specs.Changes.{new_row, add_row}
use Rattle.arena_rows.specs.Represents.{Rests}
use Rattle.arena_rows.proofs.BornDropped.{spawned_context, born_dropped, born_waits, dropped_steady, fine_job}
use Rattle.arena_rows.proofs.Starts.{settle_none}
use Rattle.arena_rows.proofs.TopRows.{top_there}
use Rattle.arena_rows.proofs.parts.Parts.spawn_settled.Goals as goal

pub is_group_cancelled-requires : goal.is_group_cancelled-requires
is_group_cancelled-requires c =
    let h = c.requires.rests in
    let it = c.group_context-context.ensures.given h.0 h.1 h.2.holds h.3 in
    (h.0, h.1, it.holds, h.3)

pub spawn_dropped-requires-clause-top : goal.spawn_dropped-requires-clause-top
spawn_dropped-requires-clause-top c =
    let h = c.requires.rests in
    let it = c.group_context-context.ensures.given h.0 h.1 h.2.holds h.3 in
    (h.0, h.1, it.holds, h.3)

pub returns-then-is_group_cancelled : goal.returns-then-is_group_cancelled
returns-then-is_group_cancelled c = λ s n rests on_top kept.
    let slot = c.args.slot in
    let g = c.args.group in
    let f = c.args.frame in
    let it = c.group_context-context.ensures.given s n rests.holds on_top in
    let now : Rests c.group_context-context.new.self s = record { holds = it.holds; settled = rests.settled } in
    let there = top_there c.args.self.now s rests.holds slot n on_top in
    let steady = rests.holds.steady in
    let r = new_row (Spawned n g) (row s.rows n).job (Some slot) f Unstarted in
    let cancelled : ((mark s.rows n g).cancelled || is_context_cancelled s n) ≡ true = sym (c.is_group_cancelled.ensures s n it.holds on_top) ∙ c.if-is_group_cancelled.true in
    let dropped = born_dropped s (Spawned n g) (row s.rows n).job (Some slot) f steady kept rests.settled
    (spawned_context s r steady.formed.linked.makers kept.formed.linked.makers n g there.0 there.1 refl refl ∙ cancelled) in
    subst (Rests c.spawn_dropped.new.self) (sym dropped)
    (c.spawn_dropped.ensures s n now c.group_context-context.result f on_top it.given (dropped_steady s (Spawned n g) (row s.rows n).job (Some slot) f steady kept))

pub spawn_waiting-requires-clause-given : goal.spawn_waiting-requires-clause-given
spawn_waiting-requires-clause-given c =
    let h = c.requires.rests in
    let it = c.group_context-context.ensures.given h.0 h.1 h.2.holds h.3 in
    let fine : ((mark h.0.rows h.1 c.args.group).cancelled || is_context_cancelled h.0 h.1) ≡ false = sym (c.is_group_cancelled.ensures h.0 h.1 it.holds h.3) ∙ c.if-is_group_cancelled.false in
    (h.0, h.1, it.holds, h.2.settled, h.3, it.given, fine_job h.0 h.1 (mark h.0.rows h.1 c.args.group).cancelled fine)

pub returns : goal.returns
returns c = λ s n rests on_top kept.
    let slot = c.args.slot in
    let g = c.args.group in
    let f = c.args.frame in
    let it = c.group_context-context.ensures.given s n rests.holds on_top in
    let there = top_there c.args.self.now s rests.holds slot n on_top in
    let steady = rests.holds.steady in
    let r = new_row (Spawned n g) (row s.rows n).job (Some slot) f Unstarted in
    let fine : ((mark s.rows n g).cancelled || is_context_cancelled s n) ≡ false = sym (c.is_group_cancelled.ensures s n it.holds on_top) ∙ c.if-is_group_cancelled.false in
    let settled = born_waits s (Spawned n g) (row s.rows n).job (Some slot) f steady kept rests.settled
    (spawned_context s r steady.formed.linked.makers kept.formed.linked.makers n g there.0 there.1 refl refl ∙ fine) in
    let holds = c.spawn_waiting.ensures s n it.holds rests.settled on_top it.given (fine_job s n (mark s.rows n g).cancelled fine) kept in
    subst (Rests c.spawn_waiting.new.self) (sym (settle_none (add_row s r) settled)) (record { holds = holds; settled = settled })
