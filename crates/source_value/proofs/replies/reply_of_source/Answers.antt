use Rattle.std.proofs.Common.{map, ◌∙◌}
use Rattle.job_language.specs.declared.jobs.Job.{Job}
use Rattle.source_tokens.specs.Givens.{view_given}
use Rattle.source_value.proofs.Arguments.{stored_arguments}
use Rattle.source_value.proofs.Replied.{replied}
use Rattle.source_value.proofs.replies.reply_of_source.Goals as goal

pub returns-in-Ok-clause-reply : goal.returns-in-Ok-clause-reply
returns-in-Ok-clause-reply c =
    let valid = c.tenant.ensures.valid in
    let made = c.in_ok-job.ensures.made in
    let job : Job = record { program = c.in_ok-job.job.program; args = c.in_ok-job.job.args; fuel = c.args.fuel } in
    let args = made.given ∙ stored_arguments c.args.first c.args.second c.ranges.first c.ranges.second in
    replied c.args.config valid (λ xs. c.texts_have_values.ensures c.args.config xs valid.most_slots)
    (map view_given c.args.givens.now) c.args.text.now job c.args.first c.args.second c.ranges.first c.ranges.second made.program
    c.in_ok-job.ensures.serial args c.in-Ok.ensures.0 c.in-Ok.reply c.in-Ok.ensures.1 c.in-Ok.ensures.2
