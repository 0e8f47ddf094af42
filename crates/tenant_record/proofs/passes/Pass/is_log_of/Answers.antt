-- The log of the fields is that of the pass.
use Rattle.std.proofs.Common.{◌≡◌, ◌↔◌, IsTrue, subst, sym}
use Rattle.tenant_record.specs.Logs.{IsLog, entries_on}
use Rattle.tenant_record.specs.PassData.{log_of}
use Rattle.tenant_record.proofs.passes.Pass.is_log_of.Goals as goal

pub returns : goal.returns
returns c =
    let h = c.args.history.now in
    let told = subst (λ l. IsTrue c.is_log.result ↔ IsLog c.deref-kept.result.now.slot h l) c.as_slice.ensures.value c.is_log.ensures in
    let kept = subst (λ k. IsTrue c.is_log.result ↔ (log_of k.slot k.log.items ≡ entries_on k.slot h)) c.deref-kept.ensures told in
    subst (λ p. IsTrue c.is_log.result ↔ (p.log ≡ entries_on p.slot h)) c.self.view_is kept
