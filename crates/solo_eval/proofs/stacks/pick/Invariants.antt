use Rattle.std.proofs.Common.{◌≡◌, ◌+◌, ◌≤◌, ◌&&◌, length, drop}
use Rattle.std.specs.Prelude.{filter, IfSome}
use Rattle.std.specs.Option.{option_or}
use Rattle.std.specs.List.{enumerate_from}
use Rattle.tenant_model.specs.Walks.{NumberedRow, first_of, is_allowed, is_made_on, is_unstarted, last_or, pick_of}
use Rattle.solo_eval.proofs.stacks.pick.Given as goal

abbrev pub invariant-loop-place : goal.invariant-loop-place
invariant-loop-place l =
    let rest = filter (λ (p : NumberedRow). is_unstarted p.1.phase && is_allowed l.isolation l.rows l.region p.0) (enumerate_from (l.place + 1) (drop l.place l.rows)) in
    record {
      picked : last_or (option_or l.newest (option_or l.oldest (first_of rest))) (filter (λ (p : NumberedRow). is_made_on l.slot p.1.made_on) rest) ≡ pick_of l.isolation l.rows l.slot;
      oldest : IfSome l.oldest (λ n. (1 ≤ n) × (n ≤ length l.rows));
      newest : IfSome l.newest (λ n. (1 ≤ n) × (n ≤ length l.rows));
    }
