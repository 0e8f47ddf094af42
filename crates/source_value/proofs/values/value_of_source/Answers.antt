use Rattle.std.proofs.Common.{◌≡◌, ℤ, [], ◌∷◌, Option, Some, None, IfSome, map, sym, ap, ◌∙◌}
use Rattle.tenant_model.specs.Serial.{serial_value}
use Rattle.source_serial.proofs.Arguments.{arguments_fit}
use Rattle.source_value.proofs.Arguments.{stored_arguments}
use Rattle.source_tokens.specs.Givens.{view_given}
use Rattle.source_value.specs.TextValues.{HasValue}
use Rattle.source_value.proofs.values.value_of_source.Goals as goal

pub returns-in-Ok-clause-value : goal.returns-in-Ok-clause-value
returns-in-Ok-clause-value c =
    by_value c.in-Ok.value (c.in-Ok.ensures.value ∙
    ap (λ args. serial_value c.in_ok-job.job.program args c.args.most) (c.in_ok-job.ensures.made.given ∙ stored_arguments c.args.first c.args.second c.ranges.first c.ranges.second))
  where
    by_value : (o : Option ℤ) → o ≡ serial_value c.in_ok-job.job.program (c.args.first ∷ c.args.second ∷ []) c.args.most
        → IfSome o (HasValue (map view_given c.args.givens.now) c.args.text.now (c.args.first ∷ c.args.second ∷ []))
    by_value None e = tt
    by_value (Some v) e =
        let from = c.in_ok-job.ensures.made.program in
        let gives = c.source_values.ensures.only from.functions c.in_ok-job.job.program (c.args.first ∷ c.args.second ∷ []) from.compiled
        (arguments_fit c.args.first c.args.second c.ranges.first c.ranges.second) c.args.most v (sym e) in
        record { functions = from.functions; said = from.said; steps = gives.0; gives = gives.1 }

pub returns-in-Ok-clause-program : goal.returns-in-Ok-clause-program
returns-in-Ok-clause-program c =
    let program = c.in_ok-job.job.program in
    let same = c.in_ok-job.ensures.made.given ∙ stored_arguments c.args.first c.args.second c.ranges.first c.ranges.second in
    record {
      program = program;
      made = c.in_ok-job.ensures.made.program;
      serial = c.in_ok-job.ensures.serial;
      is = c.in-Ok.ensures.value ∙ ap (λ args. serial_value program args c.args.most) same;
    }
