-- Jobs that are waited for.
use Rattle.std.proofs.Common.{ℕ, ◌≡◌, Bool, true, List, [], ◌∷◌, Option, Some, None, zero, suc, refl, arith}
use Rattle.std.specs.Prelude.{nat_lt, slice_set}
use Rattle.std.proofs.lemmas.Bool.{cond_both}
use Rattle.std.specs.List.{list_all}
use Rattle.tenant_record.specs.Cell.{CellData}
use Rattle.tenant_lock.specs.Awaited.{added, are_open, is_open, is_open_if_any, jobs_of}
use Rattle.tenant_lock.specs.declared.awaited.AwaitedJobs.{AwaitedJobs}

-- All pass when one that passes is put in the place of another.
list_all_set : {X : Type 0} (p : X → Bool) (xs : List X) (i : ℕ) (y : X) → list_all p xs ≡ true → p y ≡ true → list_all p (slice_set xs i y) ≡ true
list_all_set p [] i y all is = refl
list_all_set p (x ∷ xs) zero y all is = grind (arith, all, is)
list_all_set p (x ∷ xs) (suc i) y all is =
    let rest : list_all p xs ≡ true = grind (arith, all) in
    grind (arith, all, list_all_set p xs i y rest is)

-- Those that are noted have to be waited for.
noted_open : (c : CellData) (is_over : Bool) (before : Option AwaitedJobs) → are_open c is_over before ≡ true → list_all (is_open_if_any c is_over) (jobs_of before).noted ≡ true
noted_open c is_over None is = refl
noted_open c is_over (Some jobs) is = is

-- So it is when the job of one more seat is noted, or is among the others, that has to be waited for.
pub added_open : (c : CellData) (is_over : Bool) (before : Option AwaitedJobs) (seat job : ℕ) → are_open c is_over before ≡ true → is_open c is_over job ≡ true →
    are_open c is_over (Some (added (jobs_of before) seat job)) ≡ true
added_open c is_over before seat job opens is =
    let jobs = jobs_of before in
    let open_before = noted_open c is_over before opens in
    cond_both (nat_lt seat 64) (record jobs { noted = slice_set jobs.noted seat (Some job) }) (record jobs { others = true }) (λ (v : AwaitedJobs). list_all (is_open_if_any c is_over) v.noted ≡ true)
    (λ _. list_all_set (is_open_if_any c is_over) jobs.noted seat (Some job) open_before is)
    (λ _. open_before)
