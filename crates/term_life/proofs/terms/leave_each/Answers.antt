use Rattle.std.proofs.Common.{◌<◌, false, None, length, get_or, arith}
use Rattle.std.proofs.lemmas.List.{get_or_default}
use Rattle.std.proofs.lemmas.List.Edits.{map_over_more}
use Rattle.term_life.specs.Lives.{left_if}
use Rattle.term_life.specs.declared.terms.Term.{Term}
use Rattle.term_life.proofs.terms.leave_each.Goals as goal

abbrev none : Term
none = record { number = 0; base = 0; room = 0; is_serving = false; is_closing = false; why = None }

pub loop-term-preserved : goal.loop-term-preserved
loop-term-preserved c =
    let within : c.loop-term.term-index < length c.loop-term.terms = omega arith in
    let term = get_or c.loop-term.terms c.loop-term.term-index none in
    rw c.left.ensures (map_over_more (left_if c.args.why) c.args.terms.now c.loop-term.terms c.loop-term.term-index term (omega arith) c.loop-term.invariant
    (get_or_default c.loop-term.terms c.loop-term.term-index none term within))
