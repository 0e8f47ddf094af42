use Rattle.std.proofs.Common.{◌≡◌, ◌≢◌, ◌+◌, ℕ, sym, ap, ◌∙◌, subst}
use Rattle.cancel_context.specs.Forest.{IsForest, without, held_count, is_cancelled}
use Rattle.arena_rows.specs.Represents.{is_spawned}
use Rattle.arena_rows.specs.OpenRows.{OpenRows}
use Rattle.arena_rows.specs.Endings.{Left, contexts_of}
use Rattle.arena_rows.proofs.Left.{own_held, own_ends, own_left}
use Rattle.arena_rows.proofs.endings.release_all.Goals as goal

pub release-requires-clause-held : goal.release-requires-clause-held
release-requires-clause-held c = own_held c.args.rows.now.contexts c.release_groups.new.rows.contexts c.args.entry.now c.requires (ap is_spawned c.in-Spawned.is) c.release_groups.ensures.left

pub release-requires-clause-ends : goal.release-requires-clause-ends
release-requires-clause-ends c = own_ends c.args.rows.now.contexts c.release_groups.new.rows.contexts c.args.entry.now c.requires (ap is_spawned c.in-Spawned.is) c.release_groups.ensures.left

pub returns-in-Spawned-clause-left : goal.returns-in-Spawned-clause-left
returns-in-Spawned-clause-left c =
    let before = c.release_groups.new.rows.contexts in
    let own = c.args.entry.now.context in
    let released : c.release.new.self.contexts ≡ without before own = ap (λ (r : OpenRows). r.contexts) c.release.ensures.released in
    let count : held_count (without before own) + 1 ≡ held_count before = ap (λ f. held_count f + 1) (sym released) ∙ c.release.ensures.count in
    let others : (d : ℕ) → d ≢ own → is_cancelled (without before own) d ≡ is_cancelled before d = λ d apart. ap (λ f. is_cancelled f d) (sym released) ∙ c.release.ensures.others d apart in
    subst (λ f. Left c.args.rows.now.contexts f (contexts_of c.args.entry.now)) (sym released)
    (own_left c.args.rows.now.contexts before c.args.entry.now c.requires (ap is_spawned c.in-Spawned.is) c.release_groups.ensures.left count others
    (subst IsForest released c.release.ensures.forest))
