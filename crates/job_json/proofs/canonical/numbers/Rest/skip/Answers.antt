use Rattle.std.proofs.Common.{◌≡◌, ◌++◌, ℕ, List, Some, subst}
use Rattle.std.specs.Cmp.{unsigned_Decides}
use Rattle.std.proofs.lemmas.Slice.Eq.{strip_prefix_is}
use Rattle.job_json.proofs.canonical.numbers.Rest.skip.Goals as goal

pub returns : goal.returns
returns c =
    let rest = c.in_ok-self.field-0 in
    subst (λ (text : List ℕ). c.args.self.now.bytes.now ≡ text ++ rest.now) c.as_bytes.ensures.value
    (strip_prefix_is unsigned_Decides c.args.self.now.bytes.now c.as_bytes.result.now (Some rest) c.in_ok-self.ensures.cases)
