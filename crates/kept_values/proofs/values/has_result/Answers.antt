use Rattle.std.proofs.Common.{rules, ◌≢◌}
use Rattle.source_language.specs.declared.syntax.Operator.TheVariants.{Over, Remainder}
use Rattle.kept_values.proofs.Valued.{total_result, divisor_result}
use Rattle.kept_values.proofs.values.has_result.Goals as goal

pub returns-then-is_total : goal.returns-then-is_total
returns-then-is_total c h =
    let total : (c.args.op ≢ Over) × (c.args.op ≢ Remainder) = search rules in
    total_result c.args.op c.args.b.now total.0 total.1

pub returns : goal.returns
returns c h = divisor_result c.args.op c.args.b.now (c.is_divisor.ensures h)
