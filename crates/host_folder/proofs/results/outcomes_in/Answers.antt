use Rattle.std.proofs.Common.{◌≡◌, List, ℕ, Option, Some, None, append-nil, sym, subst, rules, tests}
use Rattle.std.proofs.lemmas.Iterator.Consumers.{YieldsList-at, YieldsList-end}
use Rattle.std.proofs.lemmas.Iterator.Splits.{YieldsList-from_slice_split}
use Rattle.term_life.specs.declared.outcomes.Outcome.{Outcome}
use Rattle.host_folder.specs.Reading.{is_newline}
use Rattle.host_folder.specs.Results.{AreOutcomesOf, IsOutcomeOf}
use Rattle.host_folder.proofs.Outcomes.{are_read_again, line_taken}
use Rattle.host_folder.proofs.results.outcomes_in.Goals as goal

pub loop-line-preserved-in-Continue-1 : goal.loop-line-preserved-in-Continue-1
loop-line-preserved-in-Continue-1 c =
    let (_, _, known) = c.loop-line.invariant in
    let o = c.in-Some-outcome_in.outcome in
    let said = subst (λ (r : Option Outcome). IsOutcomeOf c.in-Some.line.now r) c.in-Some-outcome_in.is c.outcome_in.ensures in
    (search rules, search rules, line_taken c.loop-line.yielded c.in-Some.line c.loop-line.outcomes.items _ (Some o) known said (search rules))

pub loop-line-preserved : goal.loop-line-preserved
loop-line-preserved c =
    let (_, _, known) = c.loop-line.invariant in
    let none : c.outcome_in.result ≡ None = search rules in
    let said = subst (λ (r : Option Outcome). IsOutcomeOf c.in-Some.line.now r) none c.outcome_in.ensures in
    (search rules, search rules, line_taken c.loop-line.yielded c.in-Some.line c.loop-line.outcomes.items _ None known said (sym (append-nil c.loop-line.outcomes.items)))

pub returns-clause-lines : goal.returns-clause-lines
returns-clause-lines c =
    let (_, _, known) = c.loop-line.invariant in
    let seen = YieldsList-end
    (YieldsList-at c.into_iter-line-iterator.ensures.into_iter_gives
    (YieldsList-from_slice_split _ is_newline c.args.text.now c.split-line-items.ensures.rest c.split-line-items.ensures.done c.split-line-items.ensures.closure (λ x r q k. search (rules, tests))))
    c.loop-line.yielded _ c.loop-line.yielded_by _ _ c.in-None.is c.next.ensures.steps in
    subst (λ (lines : List (List ℕ)). AreOutcomesOf lines c.loop-line.outcomes.items) seen.0 known

pub returns-clause-again : goal.returns-clause-again
returns-clause-again c = are_read_again c.args.text.now c.loop-line.outcomes.items (returns-clause-lines c)
