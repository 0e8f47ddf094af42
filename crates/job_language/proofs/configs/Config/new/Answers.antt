use Rattle.std.proofs.Common.{subst}
use Rattle.job_language.specs.Configuration.{IsValidConfig}
use Rattle.job_language.proofs.ConfigTests.{IsValidConfig-from_test}
use Rattle.job_language.proofs.configs.Config.new.Goals as goal

pub invariant_of-result : goal.invariant_of-result
invariant_of-result c =
    subst (λ tenants. IsValidConfig (record { tenants = tenants; workers = c.args.workers })) c.as_slice.ensures.value
    (IsValidConfig-from_test _ c.if-is_valid.ensures.value c.if-is_valid.ensures.each)
