use Rattle.std.proofs.Common.{◌∙◌}
use Rattle.job_language.proofs.Padding.{IsPadded-from_copy}
use Rattle.job_language.proofs.names.TenantName.new.Goals as goal

pub invariant_of-result : goal.invariant_of-result
invariant_of-result c = IsPadded-from_copy c.args.text.now c.copy_from_slice.new.self (cc) (c.copy_from_slice.ensures.after ∙ c.as_bytes-2.ensures.value)
