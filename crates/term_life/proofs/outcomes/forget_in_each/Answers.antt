use Rattle.std.proofs.Common.{◌<◌, length, get_or, arith}
use Rattle.std.proofs.lemmas.List.{get_or_default}
use Rattle.std.proofs.lemmas.List.Edits.{map_over_more}
use Rattle.term_life.specs.Outcomes.{forgetting}
use Rattle.term_life.proofs.outcomes.forget_in_each.Goals as goal

pub loop-ended-preserved : goal.loop-ended-preserved
loop-ended-preserved c =
    let within : c.loop-ended.ended-index < length c.loop-ended.terms = omega arith in
    let none = c.ended-item.result in
    let ended = get_or c.loop-ended.terms c.loop-ended.ended-index none in
    rw c.forget.ensures (map_over_more (forgetting c.args.job) c.args.terms.now c.loop-ended.terms c.loop-ended.ended-index ended (omega arith) c.loop-ended.invariant
    (get_or_default c.loop-ended.terms c.loop-ended.ended-index none ended within))
