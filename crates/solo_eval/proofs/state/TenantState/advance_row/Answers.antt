use Rattle.std.proofs.Common.{◌≡◌, true, false, sym, ◌∙◌, arith}
use Rattle.tenant_model.specs.Changes.{is_full}
use Rattle.tenant_model.specs.Advance.{after_run, is_idle_wait, run_on}
use Rattle.tenant_model.proofs.Blocked.{no_idle_wait}
use Rattle.tenant_model.proofs.Entries.{unless_full-full, after_run_recorded}
use Rattle.solo_eval.proofs.state.TenantState.advance_row.Goals as goal
use Rattle.solo_eval.proofs.state.TenantState.advance_row.Goals.{else-is_blocked-via-then-is_blocked+else-run-eq0, else-is_blocked-via-else-is_blocked}

pub returns-then-is_full-clause-ok : goal.returns-then-is_full-clause-ok
returns-then-is_full-clause-ok c =
    let s = c.args.self.now in
    let n = c.args.number in
    let r = c.run_private-run.result in
    let run : r ≡ run_on s c.args.slot n = rw (← c.job_of.ensures, ← c.config.ensures.value, ← c.row.ensures.value) c.run_private-run.ensures.run in
    let moves : is_idle_wait s n r.count r.stop ≡ false =
    no_idle_wait s n r.count r.stop c.stops_blocked-is_blocked.result c.stops_blocked-is_blocked.ensures (λ waits none. elim c.else-is_blocked.branch [
      | else-is_blocked-via-then-is_blocked+else-run-eq0 v ↦ v.if-run-eq0.false none
      | else-is_blocked-via-else-is_blocked v ↦ absurd (grind (arith, waits, v.if-is_blocked.false))
    ]) in
    let full : is_full s ≡ true = sym c.is_full.ensures ∙ c.if-is_full.true in
    rw (← run, moves) (unless_full-full s (after_run s c.args.slot n r.count r.end r.stop) (after_run_recorded s c.args.slot n r.count r.end r.stop) full)
