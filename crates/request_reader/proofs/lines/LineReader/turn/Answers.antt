use Rattle.std.proofs.Common.{◌++◌, ap, ◌∙◌, arith}
use Rattle.std.proofs.lemmas.Bool.{both_ways}
use Rattle.request_reader.proofs.Telling.{Tells-came, TurnsTo-found, TurnsTo-kept}
use Rattle.request_reader.proofs.lines.LineReader.turn.Goals as goal

pub returns-in-Ok-clause-turns_to : goal.returns-in-Ok-clause-turns_to
returns-in-Ok-clause-turns_to g c =
    let ok = c.in-Ok.ensures.ok in
    let goes_on = ap (λ r. r.is_ended) c.self.view_is ∙ c.requires.pending.not_ended in
    TurnsTo-found c.args.self.now _ c.next_held.new.self _ _ ok.0 ok.3
    (Tells-came c.args.self.now _ ok.0 c.requires.pending.not_ended (ap (λ r. r.limit) c.self.view_is) goes_on (ap (λ r. r.is_within_long) c.self.view_is)
    (ok.2 ∙ ap (λ r. r.held ++ ok.0) c.self.view_is))
    (omega (arith, c.fill.ensures.turns, ap (λ r. r.turns) c.self.view_is))
    c.next_held.result c.next_held.ensures.finds (λ e. absurd (both_ways _ c.next_held.ensures.goes_on e))

pub returns-in-Err-clause-turns_to : goal.returns-in-Err-clause-turns_to
returns-in-Err-clause-turns_to g c =
    let err = c.in-Err.ensures.err in
    TurnsTo-kept c.args.self.now _ _ _ err.1 c.requires.pending (ap (λ r. r.limit) c.self.view_is) (ap (λ r. r.is_ended) c.self.view_is) (ap (λ r. r.is_within_long) c.self.view_is)
    (err.0 ∙ ap (λ r. r.held) c.self.view_is) c.fill.ensures.line (omega (arith, c.fill.ensures.turns, ap (λ r. r.turns) c.self.view_is))
