use Rattle.std.proofs.Common.{◌≡◌, sym, ap, subst, ◌∙◌}
use Rattle.std.specs.Prelude.{false}
use Rattle.serde_json.specs.Written.{has_float, compact_text}
use Rattle.arena_compile.proofs.Plain.{job_whole}
use Rattle.arena_compile.proofs.lines.text_of.Goals as goal

pub returns : goal.returns
returns c = c.in_ok-line.ensures.text (subst (λ d. has_float d ≡ false) (sym c.in_ok-value.ensures.value) (job_whole c.args.job.now)) ∙ ap compact_text c.in_ok-value.ensures.value
