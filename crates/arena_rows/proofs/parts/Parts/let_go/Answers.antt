use Rattle.std.proofs.Common.{◌≡◌, List, Some, get_or, sym, ap, ◌∙◌}
use Rattle.cancel_context.specs.Forest.{Forest, parent}
use Rattle.arena_rows.specs.declared.rows.CurrentJob.{CurrentJob}
use Rattle.arena_rows.specs.Held.{Held}
use Rattle.arena_rows.proofs.JobsTold.{known_held}
use Rattle.arena_rows.proofs.Released.{context_told, nothing_bound}
use Rattle.arena_rows.proofs.parts.Parts.let_go.Goals as goal

pub index_of-index-requires : goal.index_of-index-requires
index_of-index-requires c = let h = c.requires.ended in known_held c.args.self.now h.0 h.1 c.args.job h.2

pub release-requires-clause-ends : goal.release-requires-clause-ends
release-requires-clause-ends c = λ d bound.
    let a = c.args.self.now in
    let h = c.requires.ended in
    let current = known_held a h.0 h.1 c.args.job h.2 in
    let contexts = ap (λ (x : Held). x.contexts) c.self.view_is in
    let jobs = ap (λ (x : Held). x.jobs) c.self.view_is in
    let it = c.remove-released.result in
    let removed = c.remove-released.ensures.value ∙ ap (λ (xs : List CurrentJob). get_or xs c.index_of-index.result it) jobs ∙ ap (λ k. get_or a.jobs k it) c.index_of-index.ensures.value in
    let told : it.context ≡ h.1.assigned.of_job c.args.job = ap (λ (x : CurrentJob). x.context) removed ∙ context_told a h.0 h.1 c.args.job current h.3 it in
    absurd (nothing_bound a h.0 h.1 c.args.job current h.3 d (ap (λ (f : Forest). parent f d) (sym contexts) ∙ bound ∙ ap Some told))
